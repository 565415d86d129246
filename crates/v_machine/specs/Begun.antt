-- Internal: no public contract rests on this file. Sends of a process of which the first are forgotten.
use Rattle.std.specs.Prelude.{ℕ, ◌≡◌, ◌+◌, ◌<◌, ◌≤◌, ◌⊎◌, true, List, [], ◌∷◌, ◌++◌, length, replicate, slice_get, Some}
use Rattle.vk_types.specs.Types.{Exchange}
use Rattle.vk_base.specs.Kernel.{holds_of}
use Rattle.v_machine.specs.Places.{numbered}
use Rattle.v_machine.specs.Spent.{has_ended}

-- Sends that stand behind so many that are forgotten, for each of which the first of them stands
abbrev pub behind : ℕ → List Exchange → List Exchange
behind count [] = []
behind count (e ∷ es) = replicate count e ++ e ∷ es

-- where some are forgotten, the first that is kept has ended
abbrev pub HaveEnded : ℕ → List Exchange → Type 0
HaveEnded count es = 0 < count → holds_of has_ended (slice_get es 0) ≡ true

-- Of the Sends up to a number, all of which have ended, each is seen as the one of this number, behind which there is another one.
pub record IsForgetting (low : ℕ) (old new : List Exchange) : Type 0 where
  pub count : length new ≡ length old
  pub before : low < length old
  pub ended : (n : ℕ) (e : Exchange) → n ≤ low → numbered old n ≡ Some e → has_ended e ≡ true
  pub last : Exchange
  pub is_last : numbered old low ≡ Some last
  pub forgotten : (n : ℕ) → 0 < n → n ≤ low → numbered new n ≡ Some last
  pub kept : (n : ℕ) → low < n → numbered new n ≡ numbered old n

-- some are forgotten so, or all stay
abbrev pub Forgets : List Exchange → List Exchange → Type 0
Forgets old new = (new ≡ old) ⊎ ((low : ℕ) × IsForgetting low old new)

-- these have ended, up to a place behind which there is another one
pub record AreEnded (m : ℕ) (es : List Exchange) : Type 0 where
  pub before : m + 1 < length es
  pub ended : (i : ℕ) (e : Exchange) → i ≤ m → slice_get es i ≡ Some e → has_ended e ≡ true
