-- What is written of a schedule: the report or the trace of its history.
use Rattle.std.specs.Prelude.{ℕ, suc, ◌+◌, nat_lt, Bool, List, [], ◌∷◌, ◌++◌, flat_map, length, map, sum_by, take, Some, None, if◌then◌else◌}
use Rattle.vk_cluster.specs.declared.emitted.TheConstants.{LAST_BYTES}
use Rattle.vk_cluster.specs.Standing.{event_bytes}
use Rattle.vk_schedule.specs.declared.schedule.Schedule.{Schedule}
use Rattle.vk_host.specs.Sealed.{sealed}
use Rattle.vk_report.specs.declared.entry.Counts.{Counts}
use Rattle.vk_report.specs.declared.entry.Form.{Form}
use Rattle.vk_report.specs.declared.frame.Emitted.{Emitted}
use Rattle.vk_report.specs.Histories.{Told, history_text, told_lines}
use Rattle.vk_report.specs.Report.{kind_of, opening_lines}
use Rattle.vk_rules.specs.Frames.{Frame}
use Rattle.vk_rules.specs.Histories.{Happened, At, Missing, history_of}
use Rattle.vk_rules.specs.Observed.{all_steps}

-- a frame: for whom it is, its kind, and how many bytes it has
abbrev pub emitted_of : Frame → Emitted
emitted_of f = record { destination = f.header.destination; kind = kind_of f.packet; length = length (sealed f) }

-- what happened at the event of this number in the schedule
abbrev pub told_of : ℕ → Happened → Told
told_of n (At host event e) = record {
  place = record { number = n; host = host; own = event };
  answer = Some e.answer;
  steps = e.steps;
  frames = map emitted_of e.frames;
}
told_of n (Missing host) = record { place = record { number = n; host = host; own = 0 }; answer = None; steps = []; frames = [] }

-- what happened behind so many events
abbrev pub told_from : ℕ → List Happened → List Told
told_from n [] = []
told_from n (h ∷ hs) = told_of (n + 1) h ∷ told_from (n + 1) hs

abbrev pub frame_count : Happened → ℕ
frame_count (At host event e) = length e.frames
frame_count (Missing host) = 0

abbrev pub counts_of : List Happened → Counts
counts_of hs = record { events = length hs; steps = length (all_steps hs); frames = sum_by frame_count hs }

abbrev pub history_of_schedule : Schedule → List Happened
history_of_schedule s = history_of s.config s.events

-- the report of the schedule, or its trace
abbrev pub output_text : Form → Schedule → List ℕ
output_text form s =
    history_text form s.config.specs (told_from 0 (history_of_schedule s)) (counts_of (history_of_schedule s))

-- An event is refused where the frames emitted before it hold more than 266,076,160 bytes. So many are taken before the first that is
-- refused, behind others whose frames hold so many bytes.
abbrev pub taken_from : ℕ → List Happened → ℕ
taken_from bytes [] = 0
taken_from bytes (h ∷ hs) = if nat_lt LAST_BYTES bytes then 0 else suc (taken_from (bytes + event_bytes h) hs)

abbrev pub taken_of : Schedule → ℕ
taken_of s = taken_from 0 (history_of_schedule s)

-- an event of the schedule is refused
abbrev pub is_cut : Schedule → Bool
is_cut s = nat_lt (taken_of s) (length s.events)

-- what happens at the first so many events
abbrev pub history_before : ℕ → Schedule → List Happened
history_before n s = history_of s.config (take n s.events)

-- the report of these, or their trace, without the last line
abbrev pub front_text : Form → ℕ → Schedule → List ℕ
front_text form n s = opening_lines form s.config.specs ++ flat_map (told_lines form) (told_from 0 (history_before n s))

-- what is written of the schedule: the whole, or a front where an event is refused
abbrev pub written_text : Form → Schedule → List ℕ
written_text form s = if is_cut s then front_text form (taken_of s) s else output_text form s
