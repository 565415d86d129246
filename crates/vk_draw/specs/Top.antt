-- What the top call answers and writes.
use Rattle.std.specs.Prelude.{ℕ, ◌≡◌, ◌+◌, ◌<◌, ◌≤◌, ◌⊎◌, ◌&&◌, nat_lt, Bool, true, false, List, length, take, Option, Result, Ok, Err, if◌then◌else◌}
use Rattle.std.specs.Io.KnownBytes.{Appends}
use Rattle.vk_base.specs.declared.limits.TheConstants.{INPUT_BYTES}
use Rattle.vk_edge.specs.Inputs.{OfInput}
use Rattle.vk_cluster.specs.declared.emitted.TheConstants.{LAST_BYTES}
use Rattle.vk_cluster.specs.Standing.{emitted_bytes}
use Rattle.vk_schedule.specs.declared.schedule.Schedule.{Schedule}
use Rattle.vk_schedule.specs.declared.schedule.TextRefusal.{TextRefusal}
use Rattle.vk_schedule.specs.declared.schedule.TextRefusal.TheVariants as schedules
use Rattle.vk_schedule.specs.Schedule.{schedule_of}
use Rattle.vk_picture.specs.declared.svg.TheConstants.{ROWS}
use Rattle.vk_picture.specs.Svg.{picture_text}
use Rattle.vk_report.specs.declared.entry.Form.TheVariants as forms
use Rattle.vk_top.specs.Report.{history_before, is_cut, output_text}
use Rattle.vk_page.specs.Page.{is_plain, page_text}
use Rattle.vk_page.specs.declared.parts.PageParts.{PageParts}
use Rattle.vk_draw.specs.declared.page.TheConstants.{PAGE_BYTES}
use Rattle.vk_draw.specs.declared.words.Drawing.{Drawing}
use Rattle.vk_draw.specs.declared.words.Drawing.TheVariants as asked
use Rattle.vk_draw.specs.Frames.{frames_text}
use Rattle.vk_draw.specs.declared.status.Status.{Status}
use Rattle.vk_draw.specs.declared.status.Status.TheVariants as status
use Rattle.vk_draw.specs.Rows.{picture_of}
use Rattle.vk_draw.specs.Statuses.{refused}

-- before an event of the schedule the emitted frames hold too many bytes
abbrev pub IsTooLarge : Schedule → Type 0
IsTooLarge s = (n : ℕ) × (n < length s.events) × (LAST_BYTES < emitted_bytes (history_before n s))

-- before none of its events they do
abbrev pub FitsPicture : Schedule → Type 0
FitsPicture s = (n : ℕ) → n < length s.events → emitted_bytes (history_before n s) ≤ LAST_BYTES

-- the text spells a schedule of not too many events, before none of which too many bytes are emitted, and this is the picture of its
-- history
pub record IsPicture (text drawn : List ℕ) : Type 0 where
  pub schedule : Schedule
  pub spells : schedule_of text ≡ Ok schedule
  pub few : length schedule.events ≤ ROWS
  pub fits : FitsPicture schedule
  pub is : drawn ≡ picture_text (picture_of schedule)

-- the report of a schedule, as `vkernel replay` writes it
abbrev pub report_text : Schedule → List ℕ
report_text s = output_text forms.Report s

-- how many bytes the three texts of a page have together, of which the first spells the schedule
abbrev pub texts_len : List ℕ → Schedule → ℕ
texts_len text s = length text + length (report_text s) + length (frames_text s)

-- each of them is plain
abbrev pub are_plain : List ℕ → Schedule → Bool
are_plain text s = is_plain text && is_plain (report_text s) && is_plain (frames_text s)

-- The text spells a schedule, before no event of which too many bytes are emitted; its report and its frames have with it at most
-- 67,108,864 bytes, and all three are plain; and this is the page of them.
pub record IsPage (parts : PageParts) (text made : List ℕ) : Type 0 where
  pub schedule : Schedule
  pub spells : schedule_of text ≡ Ok schedule
  pub fits : FitsPicture schedule
  pub short : texts_len text schedule ≤ PAGE_BYTES
  pub plain : are_plain text schedule ≡ true
  pub is : made ≡ page_text parts text (report_text schedule) (frames_text schedule)

-- what is asked for of a text
abbrev pub IsMade : Drawing → PageParts → (text made : List ℕ) → Type 0
IsMade asked.Picture parts text made = IsPicture text made
IsMade asked.Page parts text made = IsPage parts text made

-- there are more events than are drawn, all before any line that is bad
abbrev pub HasTooMany : List ℕ → Type 0
HasTooMany text = (schedule_of text ≡ Err schedules.Limit) ⊎ ((s : Schedule) × (schedule_of text ≡ Ok s) × (ROWS < length s.events))

-- there are not, but before one of them too many bytes are emitted; a page has all events that a schedule may have
abbrev pub HasTooLarge : Drawing → List ℕ → Type 0
HasTooLarge asked.Picture text = (s : Schedule) × (schedule_of text ≡ Ok s) × (length s.events ≤ ROWS) × IsTooLarge s
HasTooLarge asked.Page text = (schedule_of text ≡ Err schedules.Limit) ⊎ ((s : Schedule) × (schedule_of text ≡ Ok s) × IsTooLarge s)

-- the three texts of the page have too many bytes
abbrev pub HasTooMuch : List ℕ → Type 0
HasTooMuch text = (s : Schedule) × (schedule_of text ≡ Ok s) × FitsPicture s × (PAGE_BYTES < texts_len text s)

-- they have not, but one of them is not plain
abbrev pub HasUnplain : List ℕ → Type 0
HasUnplain text =
    (s : Schedule) × (schedule_of text ≡ Ok s) × FitsPicture s × (texts_len text s ≤ PAGE_BYTES) × (are_plain text s ≡ false)

-- why nothing is made of a text
abbrev pub IsRefusal : Drawing → List ℕ → Status → Type 0
IsRefusal a text (status.BadInput line) = schedule_of text ≡ Err (schedules.BadInput line)
IsRefusal a text status.TooManyEvents = (a ≡ asked.Picture) × HasTooMany text
IsRefusal a text status.Limit = HasTooLarge a text
IsRefusal a text status.TooMuchText = (a ≡ asked.Page) × HasTooMuch text
IsRefusal a text status.NotPlain = (a ≡ asked.Page) × HasUnplain text
IsRefusal a text status.NoMemory = 0 < length text
IsRefusal a text s = ⊥

-- the input is the text of a schedule, and what is asked for is written behind what stood written
pub record IsDrawn (a : Drawing) (parts : PageParts) (input : List ℕ) (old new : Option (List ℕ)) : Type 0 where
  pub small : length input ≤ INPUT_BYTES
  pub drawn : List ℕ
  pub made : IsMade a parts input drawn
  pub output : Appends old new drawn

-- why nothing is written of an input: it is too long, or it is not, and nothing is made of it
abbrev pub IsRefused : Drawing → List ℕ → Status → Type 0
IsRefused a input s = ((s ≡ status.Limit) × (INPUT_BYTES < length input)) ⊎ ((length input ≤ INPUT_BYTES) × IsRefusal a input s)

-- the answers of an input that was read
abbrev pub IsOfText : Status → Type 0
IsOfText (status.BadInput line) = Unit {0}
IsOfText status.TooManyEvents = Unit {0}
IsOfText status.Limit = Unit {0}
IsOfText status.TooMuchText = Unit {0}
IsOfText status.NotPlain = Unit {0}
IsOfText s = ⊥

-- what a schedule asks for where nothing fails: a picture, or a page
abbrev pub picture_status : Schedule → Status
picture_status s = if nat_lt ROWS (length s.events) then status.TooManyEvents else if is_cut s then status.Limit else status.Done

abbrev pub page_status : List ℕ → Schedule → Status
page_status text s =
    if is_cut s then status.Limit
    else if nat_lt PAGE_BYTES (texts_len text s) then status.TooMuchText
    else if are_plain text s then status.Done
    else status.NotPlain

abbrev pub schedule_status : Drawing → List ℕ → Schedule → Status
schedule_status asked.Picture text s = picture_status s
schedule_status asked.Page text s = page_status text s

-- what a text asks for; only code can want memory, so that no text has this refusal
abbrev pub text_status : Drawing → List ℕ → Result Schedule TextRefusal → Status
text_status a text (Ok s) = schedule_status a text s
text_status a text (Err why) = refused a why

-- what an input asks for
abbrev pub status_of : Drawing → List ℕ → Status
status_of a input = if nat_lt INPUT_BYTES (length input) then status.Limit else text_status a input (schedule_of input)

-- The input decides the answer, but for faults and want of memory. A fault of the output is told only of what is asked for.
abbrev pub IsDecided : Drawing → Option (List ℕ) → Status → Type 0
IsDecided a told status.Usage = Unit {0}
IsDecided a told status.ReadFault = Unit {0}
IsDecided a told status.NoMemory = Unit {0}
IsDecided a told status.WriteFault = OfInput told (λ i. status_of a i ≡ status.Done)
IsDecided a told s = OfInput told (λ i. status_of a i ≡ s)

-- the answers that come once the input was read, to its end or to a byte too many
abbrev pub IsLate : Status → Type 0
IsLate status.Usage = ⊥
IsLate status.ReadFault = ⊥
IsLate status.NoMemory = ⊥
IsLate s = Unit {0}

-- the answers at which nothing is written
abbrev pub IsEarly : Status → Type 0
IsEarly status.Done = ⊥
IsEarly status.WriteFault = ⊥
IsEarly s = Unit {0}

-- so many bytes of what is asked for are written behind what stood written
pub record IsFront (a : Drawing) (parts : PageParts) (input : List ℕ) (old new : Option (List ℕ)) : Type 0 where
  pub small : length input ≤ INPUT_BYTES
  pub drawn : List ℕ
  pub made : IsMade a parts input drawn
  pub count : ℕ
  pub written : Appends old new (take count drawn)
