-- Lists of what there is at places, pages that are set, and bytes that are read back.
use Rattle.std.proofs.Common.{◌≡◌, ℕ, zero, suc, ◌+◌, ◌<◌, ◌≤◌, List, [], ◌∷◌, ◌++◌, take, drop, length, replicate, slice_get, slice_set, Option, Some, None, option_to_list, refl, sym, ap, ◌∙◌, inl, inr, arith}
use Rattle.std.proofs.lemmas.Bool.{cases_eq, cases_lt}
use Rattle.std.proofs.lemmas.List.{append_assoc, append-nil, append_cancel_left, length-append, length-take-le}
use Rattle.std.proofs.Math.Seq.{drop-append_seam, take-append_seam}
use Rattle.vk_base.specs.Ranges.{range_of, bytes_in, with_bytes}
use Rattle.v_laws.proofs.FilterLemmas.{same_head}
use Rattle.v_pages.specs.Followed.{up_to}

-- One element more at the end.
ends_as : {A : Type 0} (xs ys : List A) (x y : A) → xs ++ x ∷ [] ≡ ys ++ y ∷ [] → length xs ≡ length ys
ends_as xs ys x y e =
    let a = length-append xs (x ∷ []) in
    let b = length-append ys (y ∷ []) in
    let c = ap length e in
    omega arith

pub front_same : {A : Type 0} (xs ys : List A) (x y : A) → xs ++ x ∷ [] ≡ ys ++ y ∷ [] → xs ≡ ys
front_same xs ys x y e =
    sym (take-append_seam xs (x ∷ [])) ∙ ap (take (length xs)) e
    ∙ ap (λ n. take n (ys ++ y ∷ [])) (ends_as xs ys x y e) ∙ take-append_seam ys (y ∷ [])

pub end_same : {A : Type 0} (xs ys : List A) (x y : A) → xs ++ x ∷ [] ≡ ys ++ y ∷ [] → x ≡ y
end_same xs ys x y e =
    same_head x y [] [] (append_cancel_left xs (x ∷ []) (y ∷ []) (e ∙ ap (λ zs. zs ++ y ∷ []) (sym (front_same xs ys x y e))))

pub not_empty : {A : Type 0} (xs : List A) (x : A) → [] ≡ xs ++ x ∷ [] → ⊥
not_empty xs x e =
    let a = length-append xs (x ∷ []) in
    let b = ap length e in
    absurd (omega arith)

-- What there is up to a place.
pub up_to_none : {A : Type 0} (at : ℕ → Option A) (i : ℕ) → at i ≡ None → up_to at (suc i) ≡ up_to at i
unfolding up_to
up_to_none at i none = ap (λ o. up_to at i ++ option_to_list o) none ∙ append-nil (up_to at i)

pub up_to_some : {A : Type 0} (at : ℕ → Option A) (i : ℕ) (x : A) → at i ≡ Some x → up_to at (suc i) ≡ up_to at i ++ x ∷ []
unfolding up_to
up_to_some at i x some = ap (λ o. up_to at i ++ option_to_list o) some

-- What there is up to a place stays.
pub up_to_later : {A : Type 0} (at : ℕ → Option A) (i j : ℕ) → i ≤ j → (rest : List A) × (up_to at j ≡ up_to at i ++ rest)
unfolding up_to
up_to_later at i zero up = let none : i ≡ 0 = omega (arith, up) in ([], ap (up_to at) (sym none) ∙ sym (append-nil (up_to at i)))
up_to_later at i (suc j) up = elim (cases_eq i (suc j)) [
  | inl same ↦ ([], ap (up_to at) (sym same) ∙ sym (append-nil (up_to at i)))
  | inr apart ↦
      let more = up_to_later at i j (omega (arith, up, apart)) in (
        more.0 ++ option_to_list (at j),
        ap (λ xs. xs ++ option_to_list (at j)) more.1 ∙ append_assoc (up_to at i) more.0 (option_to_list (at j)),
      )
]

-- the last place at which there is something
pub record IsLastAt {A : Type 0} (at : ℕ → Option A) (j : ℕ) (xs : List A) (x : A) : Type 0 where
  pub place : ℕ
  pub earlier : place < j
  pub is : at place ≡ Some x
  pub front : up_to at place ≡ xs
  pub none : (t : ℕ) → place < t → t < j → at t ≡ None

-- nothing at the place itself
last_before : {A : Type 0} (at : ℕ → Option A) (j : ℕ) (xs : List A) (x : A) → at j ≡ None → IsLastAt at j xs x → IsLastAt at (suc j) xs x
last_before at j xs x none l =
    let earlier = l.earlier in
    record { place = l.place; earlier = omega arith; is = l.is; front = l.front; none = λ t more less. by_place t more less }
  where
    by_place : (t : ℕ) → l.place < t → t < suc j → at t ≡ None
    by_place t more less = elim (cases_lt t j) [
      | inl below ↦ l.none t more below
      | inr there ↦ let same : t ≡ j = omega arith in ap at same ∙ none
    ]

last_by : {A : Type 0} (at : ℕ → Option A) (j : ℕ) (xs : List A) (x : A) (o : Option A) → at j ≡ o → up_to at (suc j) ≡ xs ++ x ∷ [] →
    (up_to at j ≡ xs ++ x ∷ [] → IsLastAt at j xs x) → IsLastAt at (suc j) xs x
last_by at j xs x None is e again = last_before at j xs x is (again (sym (up_to_none at j is) ∙ e))
last_by at j xs x (Some y) is e again =
    let whole = sym (up_to_some at j y is) ∙ e in
    record {
      place = j;
      earlier = omega arith;
      is = is ∙ ap (λ z. Some z) (end_same (up_to at j) xs y x whole);
      front = front_same (up_to at j) xs y x whole;
      none = λ t more less. absurd (omega arith);
    }

pub last_at : {A : Type 0} (at : ℕ → Option A) (j : ℕ) (xs : List A) (x : A) → up_to at j ≡ xs ++ x ∷ [] → IsLastAt at j xs x
unfolding up_to
last_at at zero xs x e = absurd (not_empty xs x e)
last_at at (suc j) xs x e = last_by at j xs x (at j) refl e (last_at at j xs x)

-- Pages.
pub set_here : {A : Type 0} (xs : List A) (i : ℕ) (y : A) → i < length xs → slice_get (slice_set xs i y) i ≡ Some y
set_here [] i y less = absurd (omega arith)
set_here (z ∷ zs) zero y less = refl
set_here (z ∷ zs) (suc i) y less = set_here zs i y (omega arith)

pub set_other : {A : Type 0} (xs : List A) (i j : ℕ) (y : A) → (j ≡ i → ⊥) → slice_get (slice_set xs i y) j ≡ slice_get xs j
set_other [] i j y apart = refl
set_other (z ∷ zs) zero zero y apart = absurd (apart refl)
set_other (z ∷ zs) zero (suc j) y apart = refl
set_other (z ∷ zs) (suc i) zero y apart = refl
set_other (z ∷ zs) (suc i) (suc j) y apart = set_other zs i j y (λ e. apart (ap suc e))

pub get_replicate : {A : Type 0} (n i : ℕ) (x : A) → i < n → slice_get (replicate n x) i ≡ Some x
get_replicate zero i x less = absurd (omega arith)
get_replicate (suc n) zero x less = refl
get_replicate (suc n) (suc i) x less = get_replicate n i x (omega arith)

-- Bytes that were written are there.
pub read_back : (memory : List ℕ) (at : ℕ) (bytes : List ℕ) → at ≤ length memory →
    bytes_in (range_of at (length bytes)) (with_bytes memory at bytes) ≡ bytes
read_back memory at bytes within =
    let front = length-take-le at memory within in
    let rest = drop (at + length bytes) memory in
    ap (λ n. take (length bytes) (drop n (with_bytes memory at bytes))) (sym front)
    ∙ ap (λ xs. take (length bytes) (drop (length (take at memory)) xs)) (append_assoc (take at memory) bytes rest)
    ∙ ap (take (length bytes)) (drop-append_seam (take at memory) (bytes ++ rest))
    ∙ take-append_seam bytes rest
