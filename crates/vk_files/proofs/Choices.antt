-- What holds of both sides of a test.
use Rattle.std.proofs.Common.{◌≡◌, Bool, true, false, cond, ◌&&◌, Option, Some, None, refl}

-- what follows from each outcome holds of the choice
pub either : {A : Type 0} (P : A → Type 0) (b : Bool) (x y : A) → (b ≡ true → P x) → (b ≡ false → P y) → P (cond b x y)
either P true x y yes_is no_is = yes_is refl
either P false x y yes_is no_is = no_is refl

-- both of two tests
pub both : (a b : Bool) → (a && b) ≡ true → (a ≡ true) × (b ≡ true)
both true b h = (refl, h)
both false b h = absurd (cc)

-- a choice with nothing on its other side
pub found_first : {A : Type 0} (b : Bool) (o : Option A) (x : A) → cond b o (Some x) ≡ None → (b ≡ true) × (o ≡ None)
found_first true o x h = (refl, h)
found_first false o x h = absurd (cc)

pub found_second : {A : Type 0} (b : Bool) (x y : A) → cond b None (Some x) ≡ Some y → (b ≡ false) × (x ≡ y)
found_second true x y h = absurd (cc)
found_second false x y h = (refl, cc)
