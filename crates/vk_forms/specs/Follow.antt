-- How far a line follows a form.
use Rattle.std.specs.Prelude.{ℕ, ◌==◌, ◌&&◌, ◌||◌, nat_lt, Bool, false, List, [], ◌∷◌, length, if◌then◌else◌}
use Rattle.vk_types.specs.Types.{ProcessSpec}
use Rattle.vk_text.specs.Lines.{is_end, words_from}
use Rattle.vk_forms.specs.Forms.{Form}
use Rattle.vk_forms.specs.Slots.{fits}

-- Where a line no longer follows a form: the word of the form that is next, none at its end, and the words of the line that are left.
pub record Stop : Type 0 where
  pub slot : List ℕ
  pub left : List (List ℕ)

-- the first word, none where there is none
abbrev pub first_slot : List (List ℕ) → List ℕ
first_slot [] = []
first_slot (s ∷ ss) = s

-- where these words no longer follow those of a form, one by one
unfoldable pub stop : List ProcessSpec → List (List ℕ) → List (List ℕ) → Stop
stop specs [] ws = record { slot = []; left = ws }
stop specs (s ∷ ss) [] = record { slot = s; left = [] }
stop specs (s ∷ ss) (w ∷ ws) = if fits specs s w then stop specs ss ws else record { slot = s; left = w ∷ ws }

-- the same for a row behind words that a line follows up to there
abbrev pub stop_at : List ProcessSpec → List ℕ → List ℕ → List (List ℕ) → Stop
stop_at specs row [] ws = stop specs (words_from row 0) ws
stop_at specs row (b ∷ bs) ws = record { slot = b ∷ bs; left = ws }

abbrev pub stop_behind : List ProcessSpec → List ℕ → Stop → Stop
stop_behind specs row s = stop_at specs row s.slot s.left

-- where the words of a line no longer follow the form: its front, and where they follow that whole, the row behind it
abbrev pub stop_of : List ProcessSpec → Form → List (List ℕ) → Stop
stop_of specs form ws = stop_behind specs form.row (stop specs (words_from form.front 0) ws)

-- the fewer words
abbrev pub fewer : List (List ℕ) → List (List ℕ) → List (List ℕ)
fewer vs ws = if nat_lt (length ws) (length vs) then ws else vs

-- The words that are left by the form that a line follows farthest: what these forms leave of the words, where it is fewer than that many.
unfoldable pub farthest : List ProcessSpec → List (List ℕ) → List (List ℕ) → List Form → List (List ℕ)
farthest specs ws best [] = best
farthest specs ws best (f ∷ fs) = farthest specs ws (fewer best (stop_of specs f ws).left) fs

-- the words from the first on at which no form goes on
abbrev pub unread : List ProcessSpec → List Form → List (List ℕ) → List (List ℕ)
unread specs forms ws = farthest specs ws ws forms

-- the line follows the form whole
abbrev pub is_whole : Stop → Bool
is_whole s = length s.slot == 0 && is_end s.left

-- the line follows one of the forms whole
unfoldable pub follows : List ProcessSpec → List (List ℕ) → List Form → Bool
follows specs ws [] = false
follows specs ws (f ∷ fs) = is_whole (stop_of specs f ws) || follows specs ws fs

-- With which words the forms go on that leave so many words, in order; none is the end of the line.
unfoldable pub goes_on : List ProcessSpec → List (List ℕ) → ℕ → List Form → List (List ℕ)
goes_on specs ws left [] = []
goes_on specs ws left (f ∷ fs) =
    if length (stop_of specs f ws).left == left then (stop_of specs f ws).slot ∷ goes_on specs ws left fs
    else goes_on specs ws left fs
