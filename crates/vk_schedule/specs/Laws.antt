-- Reading is the inverse of spelling.
use Rattle.std.specs.Prelude.{◌≡◌, ℕ, ◌⊎◌, List, ◌++◌, codes, Ok}
use Rattle.vk_base.specs.Settings.{Settings}
use Rattle.vk_text.specs.Lines.{lines_of}
use Rattle.vk_schedule.specs.declared.schedule.Schedule.{Schedule}
use Rattle.vk_schedule.specs.Lawful.{IsLawful}
use Rattle.vk_schedule.specs.Schedule.{front_of, opened, schedule_of}
use Rattle.vk_schedule.specs.Spelling.{IsScheduleFront, schedule_lines, text_of}

-- a text that reads as a schedule has an opening of its configuration and the lines of its events, but that the last line feed may lack
abbrev pub SchedulesAreSpelled : Type 0
SchedulesAreSpelled =
    (text : List ℕ) (s : Schedule) → schedule_of text ≡ Ok s →
    (opening : List (List ℕ)) × IsScheduleFront s.config opening
    × ((text ≡ text_of (schedule_lines opening s)) ⊎ (text ++ codes "\n" ≡ text_of (schedule_lines opening s)))

-- each such text of a lawful schedule reads as it
abbrev pub SchedulesReadBack : Type 0
SchedulesReadBack =
    (s : Schedule) (opening : List (List ℕ)) → IsLawful s → IsScheduleFront s.config opening →
    schedule_of (text_of (schedule_lines opening s)) ≡ Ok s

-- and no other schedule has a text
abbrev pub OnlyLawfulAreRead : Type 0
OnlyLawfulAreRead = (text : List ℕ) (s : Schedule) → schedule_of text ≡ Ok s → IsLawful s

-- Where the text opens, the lines up to the first that is refused, which is the first of the rest, are an opening of the configuration
-- and those of the events that they give.
abbrev pub FrontsHaveTheirLines : Type 0
FrontsHaveTheirLines = (text : List ℕ) (found : Settings × List (List ℕ)) → opened (lines_of text) ≡ Ok found →
    (opening : List (List ℕ)) × IsScheduleFront (front_of text).schedule.config opening
    × ((rest : List (List ℕ)) × (lines_of text ≡ schedule_lines opening (front_of text).schedule ++ rest))
