-- Lists that are joined, mapped and cut, beside what std says of them.
use Rattle.std.proofs.Common.{◌≡◌, ℕ, zero, suc, ◌≤◌, Bool, true, false, cond, ◌&&◌, List, [], ◌∷◌, ◌++◌, length, map, filter, take, drop, replicate, eqb, All, refl, sym, ap, ◌∙◌, arith}
use Rattle.std.proofs.lemmas.Grind.{common_steps}
use Rattle.std.proofs.lemmas.List.Elements.{All-cons, All-head, All-nil, All-tail}
use Rattle.std.specs.List.{AllByRecursion}
unfoldable use Rattle.std.specs.List.{IsDistinct}
use Rattle.vk_base.proofs.BoolLemmas.{and_swap}

pub cons_not_nil : {A : Type 0} (x : A) (xs : List A) → x ∷ xs ≡ [] → ⊥
cons_not_nil x xs e = cc

pub map_append : {A B : Type 0} (f : A → B) (xs ys : List A) → map f (xs ++ ys) ≡ map f xs ++ map f ys
map_append f [] ys = refl
map_append f (x ∷ xs) ys = ap (λ l. f x ∷ l) (map_append f xs ys)

pub map_end : {A B : Type 0} (f : A → B) (xs : List A) (x : A) → map f (xs ++ x ∷ []) ≡ map f xs ++ f x ∷ []
map_end f xs x = map_append f xs (x ∷ [])

pub take_all : {A : Type 0} (xs : List A) (n : ℕ) → length xs ≤ n → take n xs ≡ xs
take_all [] zero few = refl
take_all [] (suc n) few = refl
take_all (x ∷ xs) zero few = absurd (omega arith)
take_all (x ∷ xs) (suc n) few = ap (λ ys. x ∷ ys) (take_all xs n (omega arith))

pub drop_front : (n : ℕ) (bytes : List ℕ) → drop n (replicate n 0 ++ bytes) ≡ bytes
drop_front zero bytes = refl
drop_front (suc n) bytes = drop_front n bytes

-- what is written over all elements of a vector is what it has then
pub all_written : {A : Type 0} (n : ℕ) (new old : List A) → n ≡ length old → length new ≡ length old → take n (new ++ drop (length new) old) ≡ new
all_written n new old e f = grind (arith, common_steps)

pub filter_step : {A : Type 0} (p : A → Bool) (b : Bool) (x : A) (xs : List A) →
    filter p (cond b (x ∷ xs) xs) ≡ cond (b && p x) (x ∷ filter p xs) (filter p xs)
filter_step p true x xs = refl
filter_step p false x xs = refl

pub filter_swap : {A : Type 0} (p q : A → Bool) (xs : List A) → filter p (filter q xs) ≡ filter q (filter p xs)
filter_swap p q [] = refl
filter_swap p q (x ∷ xs) =
    filter_step p (q x) x (filter q xs)
    ∙ ap (λ b. cond b (x ∷ filter p (filter q xs)) (filter p (filter q xs))) (and_swap (q x) (p x))
    ∙ ap (λ l. cond (p x && q x) (x ∷ l) l) (filter_swap p q xs)
    ∙ sym (filter_step q (p x) x (filter p xs))

-- what holds of all holds of the first ones and of the last ones
pub all_before : {A : Type 0} (P : A → Type 0) (xs ys : List A) → All P (xs ++ ys) → All P xs
all_before P [] ys all = All-nil P
all_before P (x ∷ xs) ys all = All-cons P x xs (All-head P x (xs ++ ys) all) (all_before P xs ys (All-tail P x (xs ++ ys) all))

pub all_behind : {A : Type 0} (P : A → Type 0) (xs ys : List A) → All P (xs ++ ys) → All P ys
all_behind P [] ys all = all
all_behind P (x ∷ xs) ys all = all_behind P xs ys (All-tail P x (xs ++ ys) all)

-- the front of different numbers
pub all_front : (P : ℕ → Type 0) (xs ys : List ℕ) → AllByRecursion P (xs ++ ys) → AllByRecursion P xs
all_front P [] ys all = tt
all_front P (x ∷ xs) ys all = (all.0, all_front P xs ys all.1)

pub front_distinct : (xs ys : List ℕ) → IsDistinct eqb (xs ++ ys) → IsDistinct eqb xs
unfolding IsDistinct
front_distinct [] ys all = tt
front_distinct (x ∷ xs) ys all = (all_front (λ y. eqb x y ≡ false) xs ys all.0, front_distinct xs ys all.1)
