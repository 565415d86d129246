-- What the parts of the top call promise one another.
use Rattle.std.specs.Prelude.{ℕ, ◌≡◌, ◌<◌, ◌⊎◌, List, [], length, Option}
use Rattle.std.specs.Io.KnownBytes.{Appends}
use Rattle.vk_edge.specs.Inputs.{IsReadOver, IsReadPartly, IsReadWhole, IsReadWithin, OfInput}
use Rattle.vk_top.specs.declared.status.Status.{Status}
use Rattle.vk_top.specs.declared.status.Status.TheVariants as status
use Rattle.vk_top.specs.declared.top.TextOutput.{TextOutput}
use Rattle.vk_top.specs.declared.words.TextCommand.{TextCommand}
use Rattle.vk_top.specs.Top.{IsBadAt, IsBehindText, IsCutShort, IsDecided, IsDone, IsNotARun, IsOverLimit, IsPart, IsRefusedLate, IsStrayAt, IsTextOutput, IsToWrite, IsToldWhole, status_of, text_status}

-- no line before the third is the first that is refused, so that one stands before it that is kept, or that memory is wanted for
abbrev pub KeepsLines : TextCommand → List ℕ → Type 0
KeepsLines a text = (line : ℕ) → text_status a text ≡ status.BadInput line → 2 < line

-- why nothing is written of a text
abbrev pub IsRefusal : TextCommand → List ℕ → Status → Type 0
IsRefusal a text (status.BadInput line) = text_status a text ≡ status.BadInput line
IsRefusal a text (status.Stray host event) = text_status a text ≡ status.Stray host event
IsRefusal a text status.Limit = (text_status a text ≡ status.Limit) × IsOverLimit a text
IsRefusal a text status.NoMemory = 0 < length text
IsRefusal a text s = ⊥

-- the answers behind a write
abbrev pub IsLate : Status → Type 0
IsLate status.Limit = Unit {0}
IsLate s = IsToldWhole s

-- what is written of a text, and the answer then
pub record IsWork (a : TextCommand) (text : List ℕ) (w : TextOutput) : Type 0 where
  pub late : IsLate w.status
  pub limit : w.status ≡ status.Limit → IsRefusedLate a text
  pub output : IsTextOutput a text w.text.items
  pub status : w.status ≡ text_status a text

-- Limit is answered without a change, of an input that is over a limit; or an event of a schedule is refused, and what comes before it is
-- written
abbrev pub IsLimit : Type 0 → TextCommand → List ℕ → Option (List ℕ) → Option (List ℕ) → Type 0
IsLimit Unchanged a input old new = (IsOverLimit a input × Unchanged) ⊎ IsCutShort a input old new

-- what the answer to a text says, which was read whole
pub record IsAnswered (Unchanged : Type 0) (a : TextCommand) (text : List ℕ) (old new : Option (List ℕ)) (s : Status) : Type 0 where
  pub kinds : ¬ (s ≡ status.Usage) × ¬ (s ≡ status.ReadFault) × ¬ (s ≡ status.CrewFault) × ¬ (s ≡ status.LinkFault)
  pub done : s ≡ status.Done → IsDone a text old new
  pub no : (step : ℕ) → s ≡ status.NotARun step → IsNotARun a text step old new
  pub bad : (line : ℕ) → s ≡ status.BadInput line → IsBadAt a text line
  pub stray : (host event : ℕ) → s ≡ status.Stray host event → IsStrayAt a text host event
  pub limit : s ≡ status.Limit → IsLimit Unchanged a text old new
  pub memory : s ≡ status.NoMemory → 0 < length text
  pub writing : s ≡ status.WriteFault → IsToWrite a text
  pub complete : (s ≡ status.NoMemory) ⊎ (s ≡ status.WriteFault) ⊎ (s ≡ status_of a text)
  pub front : Appends old new [] ⊎ IsPart a text old new

-- what the answer to an input says, which has these bytes left and then those
pub record IsOutcome (Unchanged : Type 0) (a : TextCommand) (left rest old new : Option (List ℕ)) (s : Status) : Type 0 where
  pub kinds : ¬ (s ≡ status.Usage) × ¬ (s ≡ status.CrewFault) × ¬ (s ≡ status.LinkFault)
  pub done : s ≡ status.Done → OfInput left (λ i. IsDone a i old new)
  pub no : (step : ℕ) → s ≡ status.NotARun step → OfInput left (λ i. IsNotARun a i step old new)
  pub whole : IsBehindText s → IsReadWhole left rest
  pub bad : (line : ℕ) → s ≡ status.BadInput line → OfInput left (λ i. IsBadAt a i line)
  pub stray : (host event : ℕ) → s ≡ status.Stray host event → OfInput left (λ i. IsStrayAt a i host event)
  pub limit : s ≡ status.Limit → OfInput left (λ i. IsLimit Unchanged a i old new)
  pub limit_whole : s ≡ status.Limit → (IsReadOver left rest × Unchanged) ⊎ IsReadWhole left rest
  pub reading : s ≡ status.ReadFault → IsReadWithin left rest
  pub memory : s ≡ status.NoMemory → IsReadPartly left rest
  pub writing : s ≡ status.WriteFault → OfInput left (IsToWrite a)
  pub complete : IsDecided a left s
  pub front : OfInput left (λ i. Appends old new [] ⊎ IsPart a i old new)
