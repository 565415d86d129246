-- Lists made number by number.
use Rattle.std.proofs.Common.{◌≡◌, ℕ, ◌+◌, ◌*◌, ◌<◌, List, [], ◌∷◌, ◌++◌, length, map, flat_map, set, take, refl, ap, sym, ◌∙◌, arith, append_assoc, length-append}
use Rattle.std.specs.List.{range_with_len}
use Rattle.std.proofs.lemmas.List.{flat_map_more, take_all, take_more_set}
use Rattle.std.proofs.lemmas.List.FromFn.{length-map-range_with_len, map-range_with_len_more}

same : ℕ → ℕ
same n = n

kept : (a n : ℕ) → map same (range_with_len a n) ≡ range_with_len a n
unfolding same
kept a n = go (range_with_len a n)
  where
    go : (xs : List ℕ) → map same xs ≡ xs
    go [] = refl
    go (x ∷ xs) = ap (λ l. x ∷ l) (go xs)

range_more : (n : ℕ) → range_with_len 0 (n + 1) ≡ range_with_len 0 n ++ n ∷ []
unfolding same
range_more n =
    sym (kept 0 (n + 1)) ∙ map-range_with_len_more same 0 n n (omega arith) ∙ ap (λ (l : List ℕ). l ++ n ∷ []) (kept 0 n)

pub byte_more : (f : ℕ → ℕ) (block : List ℕ) (n b : ℕ) → n < length block → take n block ≡ map f (range_with_len 0 n) → b ≡ f n
    → take (n + 1) (set block n b) ≡ map f (range_with_len 0 (n + 1))
byte_more f block n b low done is =
    take_more_set block n b low ∙ ap (λ (l : List ℕ). l ++ b ∷ []) done ∙ ap (λ (x : ℕ). map f (range_with_len 0 n) ++ x ∷ []) is
    ∙ sym (map-range_with_len_more f 0 n n (omega arith))

pub block_more : (f : ℕ → List ℕ) (before old new : List (List ℕ)) (n : ℕ) (b : List ℕ) → old ≡ before ++ map f (range_with_len 0 n)
    → b ≡ f n → new ≡ old ++ b ∷ [] → new ≡ before ++ map f (range_with_len 0 (n + 1))
block_more f before old new n b done is next =
    next ∙ ap (λ (l : List (List ℕ)). l ++ b ∷ []) done ∙ append_assoc before (map f (range_with_len 0 n)) (b ∷ [])
    ∙ ap (λ (x : List ℕ). before ++ (map f (range_with_len 0 n) ++ x ∷ [])) is
    ∙ ap (λ (l : List (List ℕ)). before ++ l) (sym (map-range_with_len_more f 0 n n (omega arith)))

pub file_more : (f : ℕ → List (List ℕ)) (first : List ℕ) (old new : List (List ℕ)) (n : ℕ) → old ≡ first ∷ flat_map f (range_with_len 0 n)
    → new ≡ old ++ f n → new ≡ first ∷ flat_map f (range_with_len 0 (n + 1))
file_more f first old new n done next =
    next ∙ ap (λ (l : List (List ℕ)). l ++ f n) done ∙ flat_map_more f (first ∷ []) (range_with_len 0 n) n
    ∙ ap (λ (r : List ℕ). first ∷ flat_map f r) (sym (range_more n))

pub bytes_done : (f : ℕ → ℕ) (block : List ℕ) (n all : ℕ) → length block ≡ all → n ≡ all → take n block ≡ map f (range_with_len 0 n)
    → block ≡ map f (range_with_len 0 all)
bytes_done f block n all whole end done =
    sym (take_all all block (omega (arith, whole))) ∙ ap (λ (k : ℕ). take k block) (sym end) ∙ done
    ∙ ap (λ (k : ℕ). map f (range_with_len 0 k)) end

pub blocks_done : (f : ℕ → List ℕ) (before blocks : List (List ℕ)) (n all : ℕ) → n ≡ all → blocks ≡ before ++ map f (range_with_len 0 n)
    → blocks ≡ before ++ map f (range_with_len 0 all)
blocks_done f before blocks n all end done = done ∙ ap (λ (k : ℕ). before ++ map f (range_with_len 0 k)) end

pub files_first : (f : ℕ → List (List ℕ)) (first b : List ℕ) (none blocks : List (List ℕ)) → none ≡ [] → b ≡ first → blocks ≡ none ++ b ∷ []
    → blocks ≡ first ∷ flat_map f (range_with_len 0 0)
files_first f first b none blocks empty is next =
    next ∙ ap (λ (l : List (List ℕ)). l ++ b ∷ []) empty ∙ ap (λ (x : List ℕ). x ∷ []) is

pub longer_by : (f : ℕ → List ℕ) (old new : List (List ℕ)) (n all : ℕ) → length old ≡ 1 + all * n
    → new ≡ old ++ map f (range_with_len 0 all) → length new ≡ 1 + all * (n + 1)
longer_by f old new n all many next =
    let sum = ap (λ (l : List (List ℕ)). length l) next ∙ length-append old (map f (range_with_len 0 all)) in
    let part = length-map-range_with_len f 0 all in
    let product : all * (n + 1) ≡ all * n + all = grind arith in
    omega (arith, many, sum, part, product)

pub files_done : (f : ℕ → List (List ℕ)) (first : List ℕ) (blocks : List (List ℕ)) (n files : ℕ) → n ≡ files
    → blocks ≡ first ∷ flat_map f (range_with_len 0 n) → blocks ≡ first ∷ flat_map f (range_with_len 0 files)
files_done f first blocks n files end done = done ∙ ap (λ (k : ℕ). first ∷ flat_map f (range_with_len 0 k)) end
