-- Where the last line of a text ends.
use Rattle.std.proofs.Common.{◌≡◌, ◌≢◌, ℕ, zero, suc, ◌+◌, ◌-◌, ◌<◌, ◌≤◌, List, [], ◌∷◌, length, drop, slice_index, ap, arith}
use Rattle.std.proofs.lemmas.List.{drop_all, drop_more}
use Rattle.std.proofs.lemmas.List.Elements.{All-cons, All-nil, All-same, All-tail}
use Rattle.vk_edge.specs.Pieces.{EndsNone}

-- nothing stands behind the end
pub none_at_end : (bytes : List ℕ) → EndsNone (drop (length bytes) bytes)
none_at_end bytes = All-same (λ (byte : ℕ). byte ≢ 10) _ _ (drop_all (length bytes) bytes (omega arith)) (All-nil (λ (byte : ℕ). byte ≢ 10))

-- a byte more in front of what was looked at
pub none_more : (bytes : List ℕ) (at : ℕ) → 0 < at → at ≤ length bytes → slice_index bytes (at - 1) ≢ 10 →
    EndsNone (drop at bytes) → EndsNone (drop (at - 1) bytes)
none_more bytes at some within other none =
    let next : at - 1 + 1 ≡ at = omega (arith, some) in
    All-same (λ (byte : ℕ). byte ≢ 10) _ _ (drop_more bytes (at - 1) 0 (omega (arith, some, within)))
    (All-cons (λ (byte : ℕ). byte ≢ 10) _ _ other
    (All-same (λ (byte : ℕ). byte ≢ 10) _ _ (ap (λ n. drop n bytes) next) none))

none_behind : (bytes : List ℕ) (n : ℕ) → EndsNone bytes → EndsNone (drop n bytes)
none_behind bytes zero none = none
none_behind [] (suc n) none = none
none_behind (byte ∷ bytes) (suc n) none = none_behind bytes n (All-tail (λ (b : ℕ). b ≢ 10) byte bytes none)

-- what ends no line ends none further behind
pub none_further : (bytes : List ℕ) (at from : ℕ) → at ≤ from → EndsNone (drop at bytes) → EndsNone (drop from bytes)
none_further bytes zero from before none = none_behind bytes from none
none_further [] (suc at) zero before none = none
none_further [] (suc at) (suc from) before none = none
none_further (byte ∷ bytes) (suc at) zero before none = absurd (omega (arith, before))
none_further (byte ∷ bytes) (suc at) (suc from) before none = none_further bytes at from (omega (arith, before)) none
