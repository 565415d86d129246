-- A list that is written over as many in two parts, its first elements and its last, which may overlap.
use Rattle.std.proofs.Common.{◌≡◌, ℕ, ◌+◌, ◌≤◌, List, ◌++◌, length, take, drop, take-take, take_all, take-append-drop, arith, ap, sym, ◌∙◌}
use Rattle.std.proofs.lemmas.List.{length-drop}
use Rattle.std.proofs.lemmas.Simd.{take_more_put_chunk, length-put_chunk, length-chunk}
use lib.Lanes.{chunk, put_chunk}

pub overlapped : (k at : ℕ) (bytes old : List ℕ) → length old ≡ length bytes → at + k ≡ length bytes → at ≤ k
    → put_chunk at (put_chunk 0 old (chunk 0 k bytes)) (chunk at k bytes) ≡ bytes
overlapped k at bytes old same whole few =
    let first : List ℕ = put_chunk 0 old (chunk 0 k bytes) in
    let long : length first ≡ length bytes = length-put_chunk 0 old (chunk 0 k bytes) ∙ same in
    let front_len : length (chunk 0 k bytes) ≡ k = length-chunk 0 k bytes (omega arith) in
    let back_len : length (chunk at k bytes) ≡ k = length-chunk at k bytes (omega arith) in
    let one : take k first ≡ take k bytes = take_more_put_chunk 0 old (chunk 0 k bytes) k (omega arith) (omega arith) in
    let front : take at first ≡ take at bytes = sym (take-take at k first few) ∙ ap (take at) one ∙ take-take at k bytes few in
    let two = take_more_put_chunk at first (chunk at k bytes) (at + k) (omega arith) (omega arith) in
    let back : chunk at k bytes ≡ drop at bytes = take_all k (drop at bytes) (omega (arith, length-drop at bytes)) in
    let written : List ℕ = put_chunk at first (chunk at k bytes) in
    let ends : length written ≡ length first = length-put_chunk at first (chunk at k bytes) in
    sym (take_all (at + k) written (omega arith))
    ∙ two ∙ ap (λ l. l ++ chunk at k bytes) front ∙ ap (λ l. take at bytes ++ l) back ∙ take-append-drop at bytes
