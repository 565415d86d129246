-- What the input of a program was, and why it is not read whole.
use Rattle.std.specs.Prelude.{ℕ, ◌≡◌, ◌<◌, ◌≤◌, ◌⊎◌, List, [], length, Option, Some, IfSome}
use Rattle.vk_base.specs.declared.limits.TheConstants.{INPUT_BYTES}
use Rattle.vk_io.specs.Causes.{LosesFront}
use Rattle.vk_io.specs.declared.whole.ReadRefusal.{ReadRefusal}
use Rattle.vk_io.specs.declared.whole.ReadRefusal.TheVariants as refusals

-- the bytes of the input: those that the source tells as left, or some where it tells none, and this holds of them
pub record OfInput (told : Option (List ℕ)) (Holds : List ℕ → Type 0) : Type 0 where
  pub input : List ℕ
  pub all : IfSome told (λ bytes. bytes ≡ input)
  pub holds : Holds input

-- the input was read to its end, which a source tells if it tells what is left
abbrev pub IsReadWhole : (left rest : Option (List ℕ)) → Type 0
IsReadWhole left rest = IfSome left (λ i. rest ≡ Some [])

-- of the input more bytes were read than there may be
abbrev pub IsReadOver : (left rest : Option (List ℕ)) → Type 0
IsReadOver left rest = LosesFront left rest (λ n. INPUT_BYTES < n)

-- of the input no more bytes were read than there may be
abbrev pub IsReadWithin : (left rest : Option (List ℕ)) → Type 0
IsReadWithin left rest = LosesFront left rest (λ n. n ≤ INPUT_BYTES)

-- some of the input was read, but no byte too many
abbrev pub IsReadPartly : (left rest : Option (List ℕ)) → Type 0
IsReadPartly left rest = LosesFront left rest (λ n. (0 < n) × (n ≤ INPUT_BYTES))

-- memory was wanted for the words, and then nothing was read; or some of the input was read, but no byte too many
abbrev pub IsWanting : Type 0 → Option (List ℕ) → Option (List ℕ) → Type 0
IsWanting Unread left rest = Unread ⊎ IsReadPartly left rest

-- this is all of the input, which was read to its end
pub record IsText (left rest : Option (List ℕ)) (text : List ℕ) : Type 0 where
  pub small : length text ≤ INPUT_BYTES
  pub all : IfSome left (λ i. (text ≡ i) × (rest ≡ Some []))

-- why the input was not read whole
abbrev pub IsUnread : Option (List ℕ) → Option (List ℕ) → ReadRefusal → Type 0
IsUnread left rest refusals.Failed = IsReadWithin left rest
IsUnread left rest refusals.TooLong = IsReadOver left rest
IsUnread left rest refusals.NoMemory = IsReadPartly left rest
