-- Of the code alone, no law rests on it: a schedule played on its stations, one event after another.
use Rattle.std.specs.Prelude.{ℕ, ◌≡◌, ◌+◌, ◌<◌, ◌≤◌, List, [], ◌∷◌, ◌++◌, length, take}
use Rattle.vk_base.specs.Settings.{Settings}
use Rattle.vk_cluster.specs.declared.emitted.TheConstants.{LAST_BYTES}
use Rattle.vk_cluster.specs.Standing.{StandsFor, emitted_bytes, logs_of}
use Rattle.vk_cluster.specs.Values.{ClusterValue}
use Rattle.vk_schedule.specs.declared.event.Event.{Event}
use Rattle.vk_rules.specs.Histories.{happened, history_of}
use Rattle.vk_picture.specs.declared.picture.EventRow.{EventRow}
use Rattle.vk_frame_text.specs.Frames.{title_line}
use Rattle.vk_draw.specs.Frames.{happened_lines, lines_of_history}
use Rattle.vk_draw.specs.Rows.{picture_row, rows_of}

-- the row of an event behind these
abbrev pub next_row : Settings → List Event → Event → ℕ → EventRow
next_row c es e number = picture_row number e (happened c (logs_of c es) e)

-- the cluster had this event behind these, and its row is added
pub record IsHad (c : Settings) (es : List Event) (e : Event) (before after : List EventRow) (now : ClusterValue) : Type 0 where
  pub rows : after ≡ before ++ next_row c es e (length before + 1) ∷ []
  pub stands : StandsFor c (es ++ e ∷ []) now

-- the same, and the lines of its frames are added
pub record HasTold (c : Settings) (es : List Event) (e : Event) (before after : List ℕ) (now : ClusterValue) : Type 0 where
  pub lines : after ≡ before ++ happened_lines (happened c (logs_of c es) e)
  pub stands : StandsFor c (es ++ e ∷ []) now

-- the first so many events were had, and before none of them too many bytes were emitted
pub record AreHad (c : Settings) (es : List Event) (n : ℕ) (now : ClusterValue) : Type 0 where
  pub stands : StandsFor c (take n es) now
  pub fits : (m : ℕ) → m < n → emitted_bytes (history_of c (take m es)) ≤ LAST_BYTES

-- and their rows are these
pub record ArePlayed (c : Settings) (es : List Event) (n : ℕ) (rows : List EventRow) (now : ClusterValue) : Type 0 where
  pub rows_are : rows ≡ rows_of c (take n es)
  pub many : length rows ≡ n
  pub had : AreHad c es n now

-- and the lines of their frames stand behind the title
pub record AreTold (c : Settings) (es : List Event) (n : ℕ) (text : List ℕ) (now : ClusterValue) : Type 0 where
  pub lines : text ≡ title_line ++ lines_of_history (history_of c (take n es))
  pub had : AreHad c es n now
