use Rattle.std.proofs.Common.{◌≡◌, ◌++◌, map, take}
use Rattle.std.specs.Prelude.{flat_map}
use Rattle.vk_text.specs.Heads.{line_text}
use Rattle.vk_text.specs.Openings.{opening_text}
use Rattle.vk_schedule.specs.Schedule.{plain_title, timed_title}
use Rattle.vk_schedule.specs.Spelling.{event_text}
use Rattle.vk_join.specs.Merges.{events_of}
use Rattle.vk_join.specs.Replays.{turn_for}
use Rattle.vk_join.proofs.joined.JoinedSchedule.write.Given as goal

abbrev pub invariant-loop-at : goal.invariant-loop-at
invariant-loop-at l =
    l.writer
    ≡ opening_text plain_title timed_title l.self-inside.config
    ++ flat_map (λ e. line_text (event_text e)) (events_of (map (turn_for l.self-inside.logs.items) (take l.at l.self-inside.keys.items)))
