-- Laws of marks, and of the grammar that the forms are.
use Rattle.std.specs.Prelude.{◌≡◌, ℕ, ◌≤◌, ◌⊎◌, true, false, List, [], ◌∷◌, ◌++◌, length, Some}
use Rattle.vk_types.specs.Types.{ProcessSpec, Step}
use Rattle.vk_text.specs.Lines.{words_from}
use Rattle.v_trace.specs.Laws.{IsLawfulStep}
use Rattle.v_trace.specs.Steps.{step_of}
use Rattle.vk_forms.specs.declared.table.TextKind.TheVariants as texts
use Rattle.vk_forms.specs.Follow.{Stop, first_slot, follows, stop, stop_of, unread}
use Rattle.vk_forms.specs.Forms.{Form, forms_of}
use Rattle.vk_forms.specs.Slots.{fits}

-- each word may stand where the word of the form stands
abbrev pub AllFit : List ProcessSpec → List (List ℕ) → List (List ℕ) → Type 0
AllFit specs [] [] = Unit {0}
AllFit specs (s ∷ ss) (w ∷ ws) = (fits specs s w ≡ true) × AllFit specs ss ws
AllFit specs [] (w ∷ ws) = ⊥
AllFit specs (s ∷ ss) [] = ⊥

-- no word is left of one of both, or the next word may not stand there
abbrev pub EndsHere : List ProcessSpec → List (List ℕ) → List (List ℕ) → Type 0
EndsHere specs [] ws = Unit {0}
EndsHere specs (s ∷ ss) [] = Unit {0}
EndsHere specs (s ∷ ss) (w ∷ ws) = fits specs s w ≡ false

-- The words of a line follow those of a form, each of them, up to here, and no farther.
pub record IsStop (specs : List ProcessSpec) (ss ws : List (List ℕ)) (s : Stop) : Type 0 where
  pub passed : List (List ℕ)
  pub read : List (List ℕ)
  pub next : List (List ℕ)
  pub form : ss ≡ passed ++ next
  pub words : ws ≡ read ++ s.left
  pub fit : AllFit specs passed read
  pub slot : s.slot ≡ first_slot next
  pub ends : EndsHere specs next s.left

-- the words follow the form so far, and no farther
abbrev pub StopsAreFirst : Type 0
StopsAreFirst = (specs : List ProcessSpec) (ss ws : List (List ℕ)) → IsStop specs ss ws (stop specs ss ws)

abbrev pub EachForm : (Form → Type 0) → List Form → Type 0
EachForm P [] = Unit {0}
EachForm P (f ∷ fs) = P f × EachForm P fs

abbrev pub SomeForm : (Form → Type 0) → List Form → Type 0
SomeForm P [] = ⊥
SomeForm P (f ∷ fs) = P f ⊎ SomeForm P fs

-- no form reads farther than to the mark, and one reads as far, unless no form reads the first word
abbrev pub MarksAreExact : Type 0
MarksAreExact = (specs : List ProcessSpec) (forms : List Form) (ws : List (List ℕ)) →
    EachForm (λ f. length (unread specs forms ws) ≤ length (stop_of specs f ws).left) forms
    × ((unread specs forms ws ≡ ws) ⊎ SomeForm (λ f. (stop_of specs f ws).left ≡ unread specs forms ws) forms)

-- A line that is read as a step, which a trace of these processes may have, follows a form of traces whole.
abbrev pub StepsFollowForms : Type 0
StepsFollowForms = (specs : List ProcessSpec) (step : Step) (line : List ℕ) → IsLawfulStep specs step →
    step_of (words_from line 0) ≡ Some step → follows specs (words_from line 0) (forms_of texts.Trace) ≡ true
