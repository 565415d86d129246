-- Pieces of a list, and of one that grows.
use Rattle.std.proofs.Common.{◌≡◌, ℕ, zero, suc, ◌≤◌, List, [], ◌∷◌, ◌++◌, length, map, take, drop, Some, option_map, refl, ap, ◌∙◌, arith}
use Rattle.std.proofs.lemmas.List.{length-drop, take-append-le, drop-append-le, drop_at, take_all}
use Rattle.std.proofs.lemmas.Option.{none-some, slice_get-map}
use Rattle.vk_rules.specs.Each.{Each}
use Rattle.vk_rules.proofs.Lists.{each_weaker, each_at}
use Rattle.vk_cluster.specs.declared.emitted.Span.{Span}
use Rattle.vk_cluster.specs.Piles.{IsSpanWithin, from_one, spanned}

-- What holds of each element holds of the one at a place, and of one that is written.

pub each_one : {A : Type 0} (P : A → Type 0) (xs : List A) (n : ℕ) (x : A) → Each P xs → from_one xs n ≡ Some x → P x
each_one P xs zero x h found = absurd (none-some x found)
each_one P xs (suc n) x h found = each_at P xs n x h found

-- A list that grows.
pub piece_more : {A : Type 0} (xs ys : List A) (p : Span) → IsSpanWithin (length xs) p → spanned (xs ++ ys) p ≡ spanned xs p
piece_more xs ys p within =
    let start : p.from ≤ length xs = omega arith in
    let rest : p.count ≤ length (drop p.from xs) = omega (arith, length-drop p.from xs) in
    ap (take p.count) (drop-append-le p.from xs ys start) ∙ take-append-le p.count (drop p.from xs) ys rest

pub pieces_more : {A : Type 0} (xs ys : List A) (ps : List Span) → Each (IsSpanWithin (length xs)) ps →
    map (spanned (xs ++ ys)) ps ≡ map (spanned xs) ps
pieces_more xs ys [] h = refl
pieces_more xs ys (p ∷ ps) h =
    ap (λ x. x ∷ map (spanned (xs ++ ys)) ps) (piece_more xs ys p h.0) ∙ ap (λ l. spanned xs p ∷ l) (pieces_more xs ys ps h.1)

pub all_pieces_more : {A : Type 0} (xs ys : List A) (pss : List (List Span)) → Each (Each (IsSpanWithin (length xs))) pss →
    map (map (spanned (xs ++ ys))) pss ≡ map (map (spanned xs)) pss
all_pieces_more xs ys [] h = refl
all_pieces_more xs ys (ps ∷ pss) h =
    ap (λ x. x ∷ map (map (spanned (xs ++ ys))) pss) (pieces_more xs ys ps h.0)
    ∙ ap (λ l. map (spanned xs) ps ∷ l) (all_pieces_more xs ys pss h.1)

pub within_more : (n m : ℕ) (ps : List Span) → n ≤ m → Each (IsSpanWithin n) ps → Each (IsSpanWithin m) ps
within_more n m ps more h = each_weaker (IsSpanWithin n) (IsSpanWithin m) ps h (λ p in_n. omega arith)

pub all_within_more : (n m : ℕ) (pss : List (List Span)) → n ≤ m → Each (Each (IsSpanWithin n)) pss → Each (Each (IsSpanWithin m)) pss
all_within_more n m pss more h =
    each_weaker (Each (IsSpanWithin n)) (Each (IsSpanWithin m)) pss h (λ ps in_n. within_more n m ps more in_n)

-- the last piece
pub last_piece : {A : Type 0} (xs ys : List A) (p : Span) → p.from ≡ length xs → p.count ≡ length ys → spanned (xs ++ ys) p ≡ ys
last_piece xs ys p start size =
    ap (λ n. take n (drop p.from (xs ++ ys))) size
    ∙ ap (λ n. take (length ys) (drop n (xs ++ ys))) start
    ∙ ap (take (length ys)) (drop_at xs ys (length xs) refl)
    ∙ take_all (length ys) ys (omega arith)

-- Pieces of a list whose elements are changed.
pub from_one-map : {A B : Type 0} (f : A → B) (xs : List A) (n : ℕ) → from_one (map f xs) n ≡ option_map f (from_one xs n)
from_one-map f xs zero = refl
from_one-map f xs (suc n) = slice_get-map f xs n
