-- What is said of a text.
use Rattle.std.specs.Prelude.{ℕ, ◌≡◌, ◌+◌, ◌⊎◌, Bool, true, false, List, [], length, codes, Some, None, Ok, Err}
use Rattle.vk_types.specs.Types.{ProcessSpec}
use Rattle.vk_base.specs.Kernel.{initial_kernel}
use Rattle.vk_text.specs.Heads.{head_of}
use Rattle.v_trace.specs.declared.trace.TraceRefusal.TheVariants as refusals
use Rattle.v_obstacle.specs.Sights.{IsSeen, Sight, answers_of, behind_head, sights_of, steps_of}
use Rattle.vk_explain.specs.declared.words.Asked.{Asked}
use Rattle.vk_explain.specs.Observed.{observed_by}
use Rattle.vk_explain.specs.Reading.{IsOverIn, IsWrongIn}
use Rattle.vk_explain.specs.Told.{bad_line_text}

-- its steps, so many, are a run, and the answers that it tells, so many, are those that the kernel gives to see
pub record IsRight (text : List ℕ) (steps answers : ℕ) : Type 0 where
  pub specs : List ProcessSpec
  pub sights : List Sight
  pub reads : sights_of text ≡ Ok (specs, sights)
  pub seen : IsSeen (initial_kernel specs) sights
  pub steps_are : steps ≡ length sights
  pub answers_are : answers ≡ length (answers_of sights)

-- the steps are a run, the answers that it tells are those that the kernel gives to see, and this is the text with all of them
pub record IsObserved (asked : Asked) (text observed : List ℕ) : Type 0 where
  pub specs : List ProcessSpec
  pub sights : List Sight
  pub reads : sights_of text ≡ Ok (specs, sights)
  pub seen : IsSeen (initial_kernel specs) sights
  pub is : observed ≡ observed_by asked specs (steps_of sights)

-- its first line is no title, and this is told
pub record IsUntitled (text told : List ℕ) : Type 0 where
  pub reads : sights_of text ≡ Err (refusals.BadInput 1)
  pub line : List ℕ
  pub is : told ≡ bad_line_text 1 line

-- of the lines behind its head one is the first in which something is wrong, and this is told
pub record IsWrongBehind (text told : List ℕ) : Type 0 where
  pub tells : Bool
  pub specs : List ProcessSpec
  pub lines : List (List ℕ)
  pub reads : sights_of text ≡ behind_head tells specs lines
  pub wrong : IsWrongIn tells specs [] (length specs + 2) lines told

abbrev pub IsWrong : List ℕ → List ℕ → Type 0
IsWrong text told = IsUntitled text told ⊎ IsWrongBehind text told

-- behind its head a limit is met before anything that is wrong
pub record IsOver (text : List ℕ) : Type 0 where
  pub tells : Bool
  pub specs : List ProcessSpec
  pub lines : List (List ℕ)
  pub reads : sights_of text ≡ behind_head tells specs lines
  pub over : IsOverIn tells specs [] (length specs + 2) lines

-- these lines begin with the title of a trace, or of a text that tells answers, and these stand behind the head
abbrev pub IsTitled : List (List ℕ) → Bool → List ProcessSpec → List (List ℕ) → Type 0
IsTitled lines false specs left = head_of (codes "vkernel trace 1") lines ≡ Some (specs, left)
IsTitled lines true specs left =
    (head_of (codes "vkernel trace 1") lines ≡ None) × (head_of (codes "vkernel observed 1") lines ≡ Some (specs, left))
