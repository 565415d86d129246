-- Since when aliens are closed, through all changes of them, and that none is over before its time.
use Rattle.std.proofs.Common.{◌≡◌, ℕ, zero, suc, ◌+◌, ◌-◌, ◌<◌, ◌≤◌, Bool, true, false, cond, nat_lt, List, [], ◌∷◌, ◌++◌, length, map, max, min, replicate, set, arith, refl, ap, sym, subst, inl, inr, Option, Some, None, IfSome, ◌∙◌}
use Rattle.std.proofs.lemmas.Bool.{cases_eq, le-ltb}
use Rattle.vk_types.specs.Types.{Times}
use Rattle.vk_base.specs.Kernel.{holds_of}
use Rattle.vk_pool.specs.declared.alien.Alien.{Alien}
use Rattle.vk_pool.specs.declared.alien.AlienStage.{AlienStage}
use Rattle.vk_pool.specs.Aliens.{alien_at, closed_in, kept, span}
use Rattle.vk_pool.specs.Kept.{AreClosedFrom, IsClosedFrom}

abbrev Aliens : Type 0
Aliens = List (Option Alien)

-- one alien that changed
abbrev IsFrom : ℕ → Option ℕ → Type 0
IsFrom oldest o = IfSome o (λ closed. oldest ≤ closed)

from_less : (a b : ℕ) (o : Option ℕ) → b ≤ a → IsFrom a o → IsFrom b o
from_less a b None less is = tt
from_less a b (Some closed) less is = omega (arith, less, is)

closed_by : (oldest : ℕ) (used : Bool) (a : Alien) → IsFrom oldest (closed_in a.stage) → IsClosedFrom oldest (cond used (Some a) None)
closed_by oldest true a is = is
closed_by oldest false a is = tt

pub still_open : (oldest : ℕ) (used : Bool) (a : Alien) → closed_in a.stage ≡ None → IsClosedFrom oldest (cond used (Some a) None)
still_open oldest used a is = closed_by oldest used a (subst (IsFrom oldest) (sym is) tt)

pub closed_now : (oldest closed : ℕ) (used : Bool) (a : Alien) → closed_in a.stage ≡ Some closed → oldest ≤ closed →
    IsClosedFrom oldest (cond used (Some a) None)
closed_now oldest closed used a is less = closed_by oldest used a (subst (IsFrom oldest) (sym is) less)

pub as_before : (oldest : ℕ) (used : Bool) (a b : Alien) → a.stage ≡ b.stage → IsClosedFrom oldest (cond used (Some b) None) →
    IsClosedFrom oldest (cond used (Some a) None)
as_before oldest true a b same is = subst (λ (s : AlienStage). IsFrom oldest (closed_in s)) (sym same) is
as_before oldest false a b same is = tt

-- all
pub closed_at : (oldest : ℕ) (xs : Aliens) (i : ℕ) → AreClosedFrom oldest xs → IsClosedFrom oldest (alien_at xs i)
closed_at oldest [] i all = tt
closed_at oldest (x ∷ xs) zero all = all.0
closed_at oldest (x ∷ xs) (suc i) all = closed_at oldest xs i all.1

less_by : (a b : ℕ) (o : Option Alien) → b ≤ a → IsClosedFrom a o → IsClosedFrom b o
less_by a b None less is = tt
less_by a b (Some x) less is = from_less a b (closed_in x.stage) less is

pub closed_less : (a b : ℕ) (xs : Aliens) → b ≤ a → AreClosedFrom a xs → AreClosedFrom b xs
closed_less a b [] less all = tt
closed_less a b (x ∷ xs) less all = (less_by a b x less all.0, closed_less a b xs less all.1)

pub closed_set : (oldest : ℕ) (xs : Aliens) (i : ℕ) (o : Option Alien) → AreClosedFrom oldest xs → IsClosedFrom oldest o →
    AreClosedFrom oldest (set xs i o)
closed_set oldest [] i o all is = tt
closed_set oldest (x ∷ xs) zero o all is = (is, all.1)
closed_set oldest (x ∷ xs) (suc i) o all is = (all.0, closed_set oldest xs i o all.1 is)

pub none_closed : (oldest n : ℕ) → AreClosedFrom oldest (replicate n None)
none_closed oldest zero = tt
none_closed oldest (suc n) = (tt, none_closed oldest n)

pub closed_more : (oldest : ℕ) (xs : Aliens) (n : ℕ) → AreClosedFrom oldest xs → AreClosedFrom oldest (xs ++ replicate n None)
closed_more oldest [] n all = none_closed oldest n
closed_more oldest (x ∷ xs) n all = (all.0, closed_more oldest xs n all.1)

-- so many are looked at
abbrev pub AreFrontClosed : ℕ → ℕ → Aliens → Type 0
AreFrontClosed oldest to xs = (k : ℕ) → k < to → IsClosedFrom oldest (alien_at xs k)

pub front_more : (oldest one to : ℕ) (xs : Aliens) → AreFrontClosed oldest to xs → IsClosedFrom one (alien_at xs to) →
    AreFrontClosed (min oldest one) (to + 1) xs
front_more oldest one to xs front here k less = elim (cases_eq k to) [
  | inl is ↦ less_by one (min oldest one) (alien_at xs k) (omega arith) (subst (λ n. IsClosedFrom one (alien_at xs n)) (sym is) here)
  | inr ne ↦ less_by oldest (min oldest one) (alien_at xs k) (omega arith) (front k (omega (arith, less, ne)))
]

pub front_all : (oldest : ℕ) (xs : Aliens) → AreFrontClosed oldest (length xs) xs → AreClosedFrom oldest xs
front_all oldest [] front = tt
front_all oldest (x ∷ xs) front = (front 0 (omega arith), front_all oldest xs (λ k less. front (suc k) (omega (arith, less))))

-- none is over before its time
module _ (t : Times) (now oldest : ℕ) (early : now - oldest ≤ span t) where
  stays_by : (newest : ℕ) (o : Option ℕ) → IsFrom oldest o → holds_of (λ closed. nat_lt (max closed newest + span t) now) o ≡ false
  stays_by newest None from = refl
  stays_by newest (Some closed) from = le-ltb (max closed newest + span t) now (omega (arith, early, from))

  stays : (o : Option Alien) → IsClosedFrom oldest o → kept t now o ≡ o
  stays None is = refl
  stays (Some a) is = ap (λ b. cond b None (Some a)) (stays_by a.newest (closed_in a.stage) is)

  pub none_over : (xs : Aliens) → AreClosedFrom oldest xs → xs ≡ map (kept t now) xs
  none_over [] all = refl
  none_over (x ∷ xs) all = ap (λ o. o ∷ xs) (sym (stays x all.0)) ∙ ap (λ ys. kept t now x ∷ ys) (none_over xs all.1)
