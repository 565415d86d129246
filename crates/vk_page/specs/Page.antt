-- The page of a history: a fixed text around three plain texts.
use Rattle.std.specs.Prelude.{◌≡◌, ◌≢◌, ℕ, ◌+◌, ◌==◌, ◌||◌, Bool, true, All, List, ◌++◌}
use Rattle.std.specs.Int.{is_in_range}
use Rattle.std.specs.List.{list_all}
use Rattle.vk_page.specs.declared.parts.PageParts.{PageParts}

-- the schedule, its report and its frames, each within the fixed text
abbrev pub page_text : PageParts → (schedule report frames : List ℕ) → List ℕ
page_text p schedule report frames =
    p.opening.now ++ schedule ++ p.before_report.now ++ report ++ p.before_frames.now ++ frames ++ p.ending.now

-- a letter from a to z, a digit, a space, a full stop, a colon, a hyphen or a line feed
abbrev pub is_plain_byte : ℕ → Bool
is_plain_byte b = is_in_range 97 122 b || is_in_range 48 57 b || b == 32 || b == 46 || b == 58 || b == 45 || b == 10

abbrev pub is_plain : List ℕ → Bool
is_plain text = list_all is_plain_byte text

-- A byte that HTML leaves as it is: none that begins a tag or a reference, no zero, and no carriage return.
pub record IsKept (b : ℕ) : Type 0 where
  pub no_tag : b ≢ 60
  pub no_reference : b ≢ 38
  pub no_zero : b ≢ 0
  pub no_return : b ≢ 13

-- no element ends within a plain text, and nothing of it is changed
abbrev pub PlainTextsAreKept : Type 0
PlainTextsAreKept = (text : List ℕ) → is_plain text ≡ true → All IsKept text
