-- What the top call answers and writes.
use Rattle.std.specs.Prelude.{ℕ, ◌≡◌, List, take, Option}
use Rattle.std.specs.Io.KnownBytes.{Appends}
use Rattle.vk_explain.specs.declared.status.Status.{Status}
use Rattle.vk_explain.specs.declared.status.Status.TheVariants as status
use Rattle.vk_explain.specs.declared.words.Asked.{Asked}
use Rattle.vk_explain.specs.declared.words.Asked.TheVariants as asks
use Rattle.vk_explain.specs.Explained.{IsObserved, IsRight, IsWrong}
use Rattle.vk_explain.specs.Told.{right_text}

-- this is told of a text in which nothing is wrong, where this is asked
abbrev pub IsToldRight : Asked → List ℕ → List ℕ → Type 0
IsToldRight asks.Verdict text told = (steps : ℕ) × (answers : ℕ) × IsRight text steps answers × (told ≡ right_text steps answers)
IsToldRight asks.Answers text told = IsObserved asks.Answers text told

-- this is told of a text, with this status
abbrev pub IsTold : Asked → List ℕ → List ℕ → Status → Type 0
IsTold asked text told status.Right = IsToldRight asked text told
IsTold asked text told status.Wrong = IsWrong text told
IsTold asked text told s = ⊥

-- and it is written behind what stood written
pub record IsSaid (asked : Asked) (text : List ℕ) (old new : Option (List ℕ)) (s : Status) : Type 0 where
  pub told : List ℕ
  pub is : IsTold asked text told s
  pub output : Appends old new told

-- so many bytes of what is to be told are written
pub record IsFront (asked : Asked) (text : List ℕ) (old new : Option (List ℕ)) : Type 0 where
  pub told : List ℕ
  pub status_is : Status
  pub is : IsTold asked text told status_is
  pub count : ℕ
  pub output : Appends old new (take count told)

-- the answers at which all was looked at and is told
abbrev pub IsAnswer : Status → Type 0
IsAnswer status.Right = Unit {0}
IsAnswer status.Wrong = Unit {0}
IsAnswer s = ⊥

-- the answers at which nothing is written
abbrev pub IsEarly : Status → Type 0
IsEarly status.Right = ⊥
IsEarly status.Wrong = ⊥
IsEarly status.WriteFault = ⊥
IsEarly s = Unit {0}
