-- What a buffer gathers, read by read.
use Rattle.std.proofs.Common.{◌≡◌, ℕ, ◌+◌, ◌-◌, ◌<◌, ◌≤◌, Result, Ok, Err, IfOk, length-take, length-drop, List, [], ◌++◌, length, take, drop, Option, ap, subst, ◌∙◌, arith, length-append}
use Rattle.std.proofs.KnownBytes.{Consumes-trans}
use Rattle.std.proofs.Math.Seq.{take-add}
use Rattle.std.proofs.lemmas.List.{take_at, drop_at, nil_from_length, take-append-le, length-take-le}
use Rattle.std.specs.Io.{ReadsAtMost}
use Rattle.std.specs.Io.KnownBytes.{ReadConsumes}
use Rattle.vk_edge.specs.Pieces.{Gathered, IsFilled, IsReadBehind, IsReadOn, IsReadSince}

-- what a read leaves of the filled bytes, and behind them
pub read_in : (xs into rest : List ℕ) (filled n : ℕ) → filled ≤ length xs → n ≤ length into
    → take (filled + n) (take filled xs ++ (into ++ rest)) ≡ take filled xs ++ take n into
read_in xs into rest filled n within fits =
    let all = take filled xs ++ (into ++ rest) in
    let short = length-take-le filled xs within in
    let front : take filled all ≡ take filled xs = take_at (take filled xs) (into ++ rest) filled short in
    let behind : drop filled all ≡ into ++ rest = drop_at (take filled xs) (into ++ rest) filled short in
    take-add filled n all ∙ ap (λ l. l ++ take n (drop filled all)) front
    ∙ ap (λ l. take filled xs ++ l) (ap (take n) behind ∙ take-append-le n into rest fits)

-- and then more
pub on_more : (left mid rest : Option (List ℕ)) (bs cs : List ℕ) (before count now : ℕ) → IsReadOn left mid bs before count
    → IsReadOn mid rest cs count now → IsReadOn left rest (bs ++ cs) before now
on_more left mid rest bs cs before count now first second = record {
  taken = Consumes-trans left mid rest bs cs first.taken second.taken;
  count = omega (arith, first.count, second.count, length-append bs cs);
  few = second.few;
}

pub since_more : (left mid rest : Option (List ℕ)) (cs : List ℕ) (before count from now : ℕ) → IsReadSince left mid before count
    → from ≡ count → IsReadOn mid rest cs from now → IsReadSince left rest before now
since_more left mid rest cs before count from now first same second =
    (first.0 ++ cs, on_more left mid rest first.0 cs before count now first.1 (subst (λ n. IsReadOn mid rest cs n now) same second))

-- where nothing was kept and a read brings none, nothing is kept
pub none_behind : (left rest : Option (List ℕ)) (old new : Gathered) (n : ℕ) → IsFilled left rest old new n → old.bytes ≡ [] → n ≡ 0 →
    new.bytes ≡ []
none_behind left rest old new n filled empty none =
    filled.more.kept ∙ ap (λ bs. bs ++ filled.more.bytes) empty
    ∙ nil_from_length filled.more.bytes (omega (arith, filled.step, filled.more.read.count, none))

-- what stands in a vector once its whole slice was written
pub vec_written : (xs ys : List ℕ) (n : ℕ) → length ys ≡ n → take n (ys ++ drop (length ys) xs) ≡ ys
vec_written xs ys n e = take_at ys (drop (length ys) xs) n e

-- one read behind what is filled
pub read_behind_is : {E : Type 0} (left rest : Option (List ℕ)) (r : Result ℕ E) (xs d into : List ℕ) (filled n : ℕ)
    → d ≡ xs → n ≡ length xs → filled < length xs → length into ≡ length d - filled
    → ReadsAtMost r into → ReadConsumes left rest r into
    → let ys = take filled d ++ (into ++ drop (length d - filled) (drop filled d)) in
    IfOk r (IsReadBehind left rest filled xs (take n (ys ++ drop (length ys) xs)))
read_behind_is left rest (Err e) xs d into filled n same size within room bound bytes = tt
read_behind_is left rest (Ok k) xs d into filled n same size within room bound bytes =
    let post = drop (length d - filled) (drop filled d) in
    let ys = take filled d ++ (into ++ post) in
    let many : length d ≡ length xs = ap length same in
    let front = length-take filled d in
    let none = length-drop (length d - filled) (drop filled d) in
    let mid = length-drop filled d in
    let whole = length-append (take filled d) (into ++ post) in
    let tail = length-append into post in
    let sized : length ys ≡ n = omega (arith, many, front, none, mid, whole, tail, room, size, within) in
    let written = vec_written xs ys n sized in
    let few : k ≤ length into = omega (arith, bound) in
    record {
      bytes = take k into;
      taken = bytes.0;
      many = length-take-le k into few;
      kept =
          ap (take (filled + k)) written
          ∙ read_in d into post filled k (omega (arith, many, within)) few
          ∙ ap (λ l. take filled l ++ take k into) same;
      at_end = λ none. bytes.1 none (omega (arith, room, many, within));
    }
