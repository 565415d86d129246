use Rattle.std.proofs.Common.{◌≡◌, ◌+◌, ◌≤◌, List, ◌++◌, length}
use Rattle.vk_base.specs.declared.limits.TheConstants.{EVENTS}
use Rattle.vk_schedule.specs.declared.event.Event.{Event}
use Rattle.vk_text.specs.Texts.{shown}
use Rattle.vk_top.proofs.Played.{all_of}
use Rattle.vk_top.specs.declared.playing.Way.TheVariants as ways
use Rattle.vk_top.specs.Pieces.{GoesWay, followed}
use Rattle.vk_top.specs.Playing.{IsUnderWay, without_events}
use Rattle.vk_top.proofs.playing.put_more.Given as goal

abbrev pub invariant-loop-line : goal.invariant-loop-line
invariant-loop-line l = record {
  way : (es later : List Event) → GoesWay l.form ways.On l.fn.reader.schedule.config es l.fn.played
      → length ((es ++ l.fn.reader.schedule.events) ++ later) ≤ EVENTS
      → IsUnderWay l.form (all_of l.fn.reader es later) (followed l.reader later) l.played.cluster l.played.counts (shown l.played.text);
  count : l.played.read + length l.reader.schedule.events ≡ l.fn.played.read + length l.fn.reader.schedule.events;
  ending : without_events l.reader ≡ without_events l.fn.reader;
}

abbrev pub decreases-loop-line : goal.decreases-loop-line
decreases-loop-line l = length l.reader.schedule.events
