-- What is written of a storm.
use Rattle.std.specs.Prelude.{ℕ, List, [], ◌++◌, codes, decimal, if◌then◌else◌}
use Rattle.vk_drive.specs.Storms.{storm_schedule_of, summary_of}
use Rattle.vk_drive.specs.declared.summary.StormSummary.{StormSummary}
use Rattle.vk_top.specs.declared.status.Status.{Status}
use Rattle.vk_top.specs.declared.status.Status.TheVariants as status
use Rattle.vk_top.specs.Report.{is_cut}

-- a word and a number
unfoldable pub number_line : List ℕ → ℕ → List ℕ
number_line word n = word ++ decimal n ++ codes "\n"

-- the summary: six lines
abbrev pub summary_text : StormSummary → List ℕ
summary_text s =
    number_line (codes "storm ") s.n
    ++ number_line (codes "frames ") s.frames
    ++ number_line (codes "taken ") s.taken
    ++ number_line (codes "old ") s.old
    ++ number_line (codes "answers ") s.answers
    ++ number_line (codes "timedout ") s.timedout

-- the answer to a storm, an event of which may be refused, and what is written
abbrev pub storm_status : ℕ → Status
storm_status n = if is_cut (storm_schedule_of n) then status.Limit else status.Done

abbrev pub storm_output : ℕ → List ℕ
storm_output n = if is_cut (storm_schedule_of n) then [] else summary_text (summary_of n)
