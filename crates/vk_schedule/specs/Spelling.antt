-- How schedules are spelled.
use Rattle.std.specs.Prelude.{ℕ, List, [], ◌∷◌, ◌++◌, map, flat_map, decimal, codes}
use Rattle.vk_base.specs.Settings.{Settings}
use Rattle.vk_text.specs.Heads.{line_text}
use Rattle.vk_text.specs.Openings.{IsOpening, opening_text}
use Rattle.vk_text.specs.Spelling.{joined, pid_text, call_words}
use Rattle.vk_schedule.specs.declared.event.Event.{Event}
use Rattle.vk_schedule.specs.declared.event.Event.TheVariants as events
use Rattle.vk_schedule.specs.declared.schedule.Schedule.{Schedule}
use Rattle.vk_schedule.specs.Schedule.{plain_title, timed_title}

-- the words of an event's line
abbrev pub event_words : Event → List (List ℕ)
event_words (events.Call pid call) = codes "call" ∷ pid_text pid ∷ call_words call
event_words (events.Collect pid) = codes "collect" ∷ pid_text pid ∷ []
event_words (events.Tick host) = codes "tick" ∷ decimal host ∷ []
event_words (events.Deliver to from event output) = codes "deliver" ∷ decimal to ∷ decimal from ∷ decimal event ∷ decimal output ∷ []

abbrev pub event_text : Event → List ℕ
event_text e = joined (event_words e)

abbrev pub text_of : List (List ℕ) → List ℕ
text_of lines = flat_map line_text lines

-- these lines are an opening of a schedule's configuration
abbrev pub IsScheduleFront : Settings → List (List ℕ) → Type 0
IsScheduleFront c opening = IsOpening plain_title timed_title c opening

-- the lines of the schedule with this opening: event k, from 0, stands k lines behind it
abbrev pub schedule_lines : List (List ℕ) → Schedule → List (List ℕ)
schedule_lines opening s = opening ++ map event_text s.events

-- the text that is written: format 1 exactly where that tells all of the configuration
abbrev pub schedule_text : Schedule → List ℕ
schedule_text s = opening_text plain_title timed_title s.config ++ flat_map (λ e. line_text (event_text e)) s.events
