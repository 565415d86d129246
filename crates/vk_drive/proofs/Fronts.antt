-- A storm of which the first events are told: they are the first of all.
use Rattle.std.proofs.Common.{◌≡◌, ℕ, zero, suc, ◌+◌, ◌-◌, ◌<◌, ◌≤◌, Bool, true, false, nat_lt, [], ◌∷◌, length, take, refl, sym, ap, subst, ◌∙◌, length-append, arith}
use Rattle.std.proofs.lemmas.Bool.{ltb-true, ltb-false}
use Rattle.std.proofs.lemmas.List.{take-append-le, take_all}
use Rattle.vk_cluster.specs.declared.emitted.TheConstants.{LAST_BYTES}
use Rattle.vk_cluster.specs.Standing.{emitted_bytes}
use Rattle.vk_rules.specs.Histories.{history_of}
unfoldable use Rattle.vk_drive.specs.Storms.{storm_after}
use Rattle.vk_drive.specs.Storms.{IsStormTooMuch, Storm, StormFits, bytes_before, choice, one_more}
use Rattle.vk_drive.specs.Tasks.{settings}

-- each event is one
pub storm_count : (n count : ℕ) → length (storm_after n count).events ≡ count
unfolding storm_after
storm_count n zero = refl
storm_count n (suc count) =
    let s : Storm = storm_after n count in
    let rest = storm_count n count in
    let long = length-append s.events ((choice s.state (history_of settings s.events)).event ∷ []) in
    omega (arith, rest, long)

-- one event more
pub storm_next : (n count : ℕ) → storm_after n (count + 1) ≡ one_more (storm_after n count)
unfolding storm_after
storm_next n count = let one : count + 1 ≡ suc count = omega arith in ap (storm_after n) one

front_by : (n count more : ℕ) → take count (storm_after n (count + more)).events ≡ (storm_after n count).events
front_by n count zero =
    let same : count + 0 ≡ count = omega arith in
    ap (λ k. take count (storm_after n k).events) same
    ∙ take_all count (storm_after n count).events (omega (arith, storm_count n count))
front_by n count (suc more) =
    let next : count + suc more ≡ (count + more) + 1 = omega arith in
    let s : Storm = storm_after n (count + more) in
    ap (λ k. take count (storm_after n k).events) next
    ∙ ap (λ (t : Storm). take count t.events) (storm_next n (count + more))
    ∙ take-append-le count s.events ((choice s.state (history_of settings s.events)).event ∷ [])
    (omega (arith, storm_count n (count + more)))
    ∙ front_by n count more

pub front_of : (n count : ℕ) → count ≤ n → take count (storm_after n n).events ≡ (storm_after n count).events
front_of n count low =
    let all : count + (n - count) ≡ n = omega arith in
    ap (λ k. take count (storm_after n k).events) (sym all) ∙ front_by n count (n - count)

bytes_are : (n count : ℕ) → count ≤ n → bytes_before count n ≡ emitted_bytes (history_of settings (storm_after n count).events)
bytes_are n count low = ap (λ es. emitted_bytes (history_of settings es)) (front_of n count low)

-- before each of the first so many events there was room
abbrev pub FitsFront : ℕ → ℕ → Type 0
FitsFront n most = (count : ℕ) → count < most → emitted_bytes (history_of settings (storm_after n count).events) ≤ LAST_BYTES

pub fits_more : (n most : ℕ) → FitsFront n most → emitted_bytes (history_of settings (storm_after n most).events) ≤ LAST_BYTES →
    FitsFront n (most + 1)
fits_more n most before last count low = either (nat_lt count most) refl
  where
    either : (b : Bool) → nat_lt count most ≡ b → emitted_bytes (history_of settings (storm_after n count).events) ≤ LAST_BYTES
    either true is = before count (ltb-true count most is)
    either false is =
        let not_less : most ≤ count = ltb-false count most is in
        let same : count ≡ most = omega (arith, low) in
        subst (λ k. emitted_bytes (history_of settings (storm_after n k).events) ≤ LAST_BYTES) (sym same) last

pub fits_all : (n : ℕ) → FitsFront n n → StormFits n
fits_all n fits count low = subst (λ k. k ≤ LAST_BYTES) (sym (bytes_are n count (omega arith))) (fits count low)

pub too_much : (n count : ℕ) → count < n → LAST_BYTES < emitted_bytes (history_of settings (storm_after n count).events) → IsStormTooMuch n
too_much n count low over = (count, low, subst (λ k. LAST_BYTES < k) (sym (bytes_are n count (omega arith))) over)
