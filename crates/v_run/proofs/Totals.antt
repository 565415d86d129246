-- Sums over the entries of a history, each weighed with what stands before it, and the same by the numbers of its seats.
use Rattle.std.proofs.Common.{◌≡◌, ℕ, ◌+◌, ◌==◌, Bool, true, false, List, [], ◌∷◌, ◌++◌, map, cond, refl, sym, ap, ◌∙◌, arith, append_assoc, append-nil}
use Rattle.turn_cell.specs.History.{events_of}

-- added up over a list
abbrev pub added : {A : Type 0} → (A → ℕ) → List A → ℕ
added f [] = 0
added f (x ∷ xs) = f x + added f xs

pub added_same : {A : Type 0} (f g : A → ℕ) (xs : List A) → ((x : A) → f x ≡ g x) → added f xs ≡ added g xs
added_same f g [] same = refl
added_same f g (x ∷ xs) same = let h = same x in let t = added_same f g xs same in omega arith

pub added_sum : {A : Type 0} (f g : A → ℕ) (xs : List A) → added (λ x. f x + g x) xs ≡ added f xs + added g xs
added_sum f g [] = refl
added_sum f g (x ∷ xs) = let t = added_sum f g xs in omega arith

pub added_none : {A : Type 0} (f : A → ℕ) (xs : List A) → ((x : A) → f x ≡ 0) → added f xs ≡ 0
added_none f [] none = refl
added_none f (x ∷ xs) none = let h = none x in let t = added_none f xs none in omega arith

pub added_append : {A : Type 0} (f : A → ℕ) (xs ys : List A) → added f (xs ++ ys) ≡ added f xs + added f ys
added_append f [] ys = omega arith
added_append f (x ∷ xs) ys = let t = added_append f xs ys in omega arith

pub added_map : {A B : Type 0} (f : B → ℕ) (g : A → B) (xs : List A) → added f (map g xs) ≡ added (λ x. f (g x)) xs
added_map f g [] = refl
added_map f g (x ∷ xs) = ap (λ n. f (g x) + n) (added_map f g xs)

-- a number stands once among these
abbrev pub IsOnce : List ℕ → ℕ → Type 0
IsOnce ns k = (m : ℕ) → added (λ n. cond (k == n) m 0) ns ≡ m

-- an entry's place: what stands before it, and its event
abbrev pub Place : Type 0 → Type 0
Place E = List (ℕ × E) × E

module _ {E : Type 0} where
  abbrev pub places : ℕ → List (ℕ × E) → List (ℕ × E) → List (Place E)
  places n acc [] = []
  places n acc (x ∷ xs) = cond (x.0 == n) ((acc, x.1) ∷ places n (acc ++ x ∷ []) xs) (places n (acc ++ x ∷ []) xs)

  abbrev pub total : (List (ℕ × E) → E → ℕ) → List (ℕ × E) → List (ℕ × E) → ℕ
  total w acc [] = 0
  total w acc (x ∷ xs) = w acc x.1 + total w (acc ++ x ∷ []) xs

  -- the number of each entry stands once among these
  abbrev pub AllOnce : List ℕ → List (ℕ × E) → Type 0
  AllOnce ns [] = Unit {0}
  AllOnce ns (x ∷ xs) = IsOnce ns x.0 × AllOnce ns xs

  abbrev pub weight : (List (ℕ × E) → E → ℕ) → List (Place E) → ℕ
  weight w ps = added (λ (p : Place E). w p.0 p.1) ps

  weight_by : (w : List (ℕ × E) → E → ℕ) (p : Place E) (ps : List (Place E)) (b : Bool)
      → weight w (cond b (p ∷ ps) ps) ≡ cond b (w p.0 p.1) 0 + weight w ps
  weight_by w p ps true = refl
  weight_by w p ps false = omega arith

  -- all entries are those of the numbers
  pub by_seats : (w : List (ℕ × E) → E → ℕ) (ns : List ℕ) (acc xs : List (ℕ × E)) → AllOnce ns xs
      → total w acc xs ≡ added (λ k. weight w (places k acc xs)) ns
  by_seats w ns acc [] once = sym (added_none (λ k. 0) ns (λ k. refl))
  by_seats w ns acc (x ∷ xs) once =
      let more = acc ++ x ∷ [] in
      let rest = by_seats w ns more xs once.1 in
      let one = once.0 (w acc x.1) in
      let split = added_same (λ k. weight w (places k acc (x ∷ xs))) (λ k. cond (x.0 == k) (w acc x.1) 0 + weight w (places k more xs)) ns
      (λ k. weight_by w (acc, x.1) (places k more xs) (x.0 == k)) in
      let sum = added_sum (λ k. cond (x.0 == k) (w acc x.1) 0) (λ k. weight w (places k more xs)) ns in
      omega arith

  -- places of one list behind another
  places_by : (b : Bool) (p : Place E) (ps qs : List (Place E)) → cond b (p ∷ (ps ++ qs)) (ps ++ qs) ≡ cond b (p ∷ ps) ps ++ qs
  places_by true p ps qs = refl
  places_by false p ps qs = refl

  pub places_append : (n : ℕ) (acc xs ys : List (ℕ × E)) → places n acc (xs ++ ys) ≡ places n acc xs ++ places n (acc ++ xs) ys
  places_append n acc [] ys = ap (λ l. places n l ys) (sym (append-nil acc))
  places_append n acc (x ∷ xs) ys =
      let more = acc ++ x ∷ [] in
      let rest : places n more (xs ++ ys) ≡ places n more xs ++ places n (acc ++ (x ∷ xs)) ys =
      places_append n more xs ys ∙ ap (λ l. places n more xs ++ places n l ys) (append_assoc acc (x ∷ []) xs) in
      ap (λ l. cond (x.0 == n) ((acc, x.1) ∷ l) l) rest ∙ places_by (x.0 == n) (acc, x.1) (places n more xs) (places n (acc ++ (x ∷ xs)) ys)

  -- where a number has no events it has no places
  no_place_by : (b : Bool) (e : E) (es : List E) (p : Place E) (ps : List (Place E)) → cond b (e ∷ es) es ≡ [] → (es ≡ [] → ps ≡ [])
      → cond b (p ∷ ps) ps ≡ []
  no_place_by true e es p ps none rest = absurd (cc none)
  no_place_by false e es p ps none rest = rest none

  pub no_places : (n : ℕ) (acc xs : List (ℕ × E)) → events_of n xs ≡ [] → places n acc xs ≡ []
  no_places n acc [] none = refl
  no_places n acc (x ∷ xs) none =
      no_place_by (x.0 == n) x.1 (events_of n xs) (acc, x.1) (places n (acc ++ x ∷ []) xs) none (no_places n (acc ++ x ∷ []) xs)

  pub events_append : (n : ℕ) (xs ys : List (ℕ × E)) → events_of n (xs ++ ys) ≡ events_of n xs ++ events_of n ys
  events_append n [] ys = refl
  events_append n (x ∷ xs) ys = ap (λ l. cond (x.0 == n) (x.1 ∷ l) l) (events_append n xs ys) ∙ by (x.0 == n)
    where
      by : (b : Bool) → cond b (x.1 ∷ (events_of n xs ++ events_of n ys)) (events_of n xs ++ events_of n ys)
          ≡ cond b (x.1 ∷ events_of n xs) (events_of n xs) ++ events_of n ys
      by true = refl
      by false = refl

  events_by : (b : Bool) (p : Place E) (es : List E) (ps : List (Place E)) → map (λ (q : Place E). q.1) ps ≡ es
      → map (λ (q : Place E). q.1) (cond b (p ∷ ps) ps) ≡ cond b (p.1 ∷ es) es
  events_by true p es ps same = ap (λ l. p.1 ∷ l) same
  events_by false p es ps same = same

  pub events_at_places : (n : ℕ) (acc xs : List (ℕ × E)) → map (λ (p : Place E). p.1) (places n acc xs) ≡ events_of n xs
  events_at_places n acc [] = refl
  events_at_places n acc (x ∷ xs) =
      events_by (x.0 == n) (acc, x.1) (events_of n xs) (places n (acc ++ x ∷ []) xs) (events_at_places n (acc ++ x ∷ []) xs)
