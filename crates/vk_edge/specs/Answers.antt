-- What an answer says of faults and of a text that is written. Each program has statuses of its own: S is their type.
use Rattle.std.specs.Prelude.{ℕ, ◌≡◌, ◌≢◌, ◌<◌, ◌⊎◌, List, Option}
use Rattle.std.specs.Io.KnownBytes.{Appends}
use Rattle.vk_io.specs.Causes.{Rose}

-- the status tells of faults that were counted, and is that one wherever some were
pub record TellsFaults {S : Type 0} (why s : S) (before now : ℕ) : Type 0 where
  pub answered : s ≡ why → Rose before now
  pub told : before < now → s ≡ why

-- the count of faults rose where the status tells of them, and at every other it is as it was
abbrev pub CountsFaults : {S : Type 0} → (why s : S) → (before now : ℕ) → Type 0
CountsFaults why s before now = ((s ≡ why) × Rose before now) ⊎ ((s ≢ why) × (now ≡ before))

-- all was written, and the answer is that of the work; or it is that of a fault
abbrev pub IsWritten : {S : Type 0} → (told fault : S) → (text : List ℕ) → (old new : Option (List ℕ)) → S → Type 0
IsWritten told fault text old new s = ((s ≡ told) × Appends old new text) ⊎ (s ≡ fault)
