-- Sets of slots, a bit for each, that of slot 0 the lowest.
use Rattle.std.specs.Int.{bit_at}
use Rattle.std.specs.Prelude.{ℕ, ◌≡◌, ◌<◌, ◌≤◌, ◌+◌, ◌*◌, Bool, List, [], ◌∷◌, if◌then◌else◌}

abbrev pub set_of : List Bool → ℕ
set_of [] = 0
set_of (here ∷ rest) = (if here then 1 else 0) + 2 * set_of rest

-- the lowest slot of a set that is not below `from`; and that there is none
pub record IsNextSlot (slots from slot : ℕ) : Type 0 where
  pub low : slot < 32
  pub behind : from ≤ slot
  pub here : bit_at slots slot ≡ 1
  pub others : (k : ℕ) → from ≤ k → k < slot → bit_at slots k ≡ 0

abbrev pub AreOver : ℕ → ℕ → Type 0
AreOver slots from = (k : ℕ) → from ≤ k → k < 32 → bit_at slots k ≡ 0
