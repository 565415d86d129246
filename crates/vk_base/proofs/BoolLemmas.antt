-- Tests and numbers, beside what std says of them.
use Rattle.std.proofs.Common.{◌≡◌, ℕ, zero, suc, ◌+◌, ◌<◌, Bool, true, false, cond, ◌==◌, ◌&&◌, ◌||◌, Option, Some, is_some, refl, sym, arith}
use Rattle.std.proofs.lemmas.Bool.{eqb-false, ne_eqb}

pub or_rest : (a b : Bool) → (a || b) ≡ true → a ≡ false → b ≡ true
or_rest true b h k = cc
or_rest false b h k = h

pub or_false : (a : Bool) → (a || false) ≡ a
or_false true = refl
or_false false = refl

pub or_true : (a : Bool) → (a || true) ≡ true
or_true true = refl
or_true false = refl

pub and_true : (a : Bool) → (a && true) ≡ a
and_true true = refl
and_true false = refl

pub and_false : (a : Bool) → (a && false) ≡ false
and_false true = refl
and_false false = refl

pub and_swap : (a b : Bool) → (a && b) ≡ (b && a)
and_swap true true = refl
and_swap true false = refl
and_swap false true = refl
and_swap false false = refl

pub not_zero : (n : ℕ) → (n == 0) ≡ false → 0 < n
not_zero zero f = absurd (eqb-false 0 0 f refl)
not_zero (suc n) f = omega arith

pub and_second : (a b : Bool) → (a && b) ≡ true → b ≡ true
and_second true b h = h
and_second false b h = cc

pub cond_same : (b : Bool) (n : ℕ) → cond b n n ≡ n
cond_same true n = refl
cond_same false n = refl

pub eqb_turned : (m n : ℕ) → (m == n) ≡ false → (n == m) ≡ false
eqb_turned m n f = ne_eqb n m (λ e. eqb-false m n f (sym e))

pub plus_zero : (n : ℕ) → n + 0 ≡ n
plus_zero n = omega arith

pub is_some_or : {A : Type 0} (b r : Bool) (x : A) (o : Option A) → is_some o ≡ r → is_some (cond b (Some x) o) ≡ (b || r)
is_some_or true r x o e = refl
is_some_or false r x o e = e
