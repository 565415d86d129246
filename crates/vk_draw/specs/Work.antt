-- What the parts of the top call promise one another.
use Rattle.std.specs.Prelude.{ℕ, ◌≡◌, ◌<◌, ◌≤◌, List, [], length, Option, Some, IfSome}
use Rattle.vk_base.specs.declared.limits.TheConstants.{INPUT_BYTES}
use Rattle.vk_edge.specs.Inputs.{IsReadPartly, OfInput}
use Rattle.vk_draw.specs.declared.status.Status.{Status}
use Rattle.vk_draw.specs.declared.status.Status.TheVariants as status
use Rattle.vk_draw.specs.declared.words.Drawing.{Drawing}
use Rattle.vk_page.specs.declared.parts.PageParts.{PageParts}
use Rattle.vk_draw.specs.Top.{IsDrawn, IsEarly, IsFront, IsLate, IsOfText, IsRefusal, IsRefused}

-- what the answer to a text says, which was read whole
pub record IsAnswered (Unchanged : Type 0) (a : Drawing) (parts : PageParts) (text : List ℕ) (old new : Option (List ℕ))
    (s : Status) : Type 0 where
  pub kinds : ¬ (s ≡ status.Usage) × ¬ (s ≡ status.ReadFault)
  pub done : s ≡ status.Done → IsDrawn a parts text old new
  pub refused : IsOfText s → IsRefusal a text s
  pub memory : s ≡ status.NoMemory → 0 < length text
  pub nothing : IsEarly s → Unchanged
  pub front : s ≡ status.WriteFault → IsFront a parts text old new

-- what the answer to an input says, which has these bytes left and then those
pub record IsOutcome (Unchanged : Type 0) (a : Drawing) (parts : PageParts) (left rest old new : Option (List ℕ))
    (s : Status) : Type 0 where
  pub kinds : ¬ (s ≡ status.Usage)
  pub done : s ≡ status.Done → OfInput left (λ i. IsDrawn a parts i old new)
  pub whole : IsLate s → IfSome left (λ i. length i ≤ INPUT_BYTES → rest ≡ Some [])
  pub refused : IsOfText s → OfInput left (λ i. IsRefused a i s)
  pub memory : s ≡ status.NoMemory → IsReadPartly left rest
  pub nothing : IsEarly s → Unchanged
  pub front : s ≡ status.WriteFault → OfInput left (λ i. IsFront a parts i old new)
