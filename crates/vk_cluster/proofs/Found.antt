-- What is handed over is found by its position.
use Rattle.std.proofs.Common.{◌≡◌, ◌≢◌, ℕ, zero, suc, ◌+◌, ◌<◌, Bool, true, false, cond, ◌==◌, ◌&&◌, List, [], ◌∷◌, ◌++◌, length, find, Option, Some, None, refl, sym, ap, subst, ◌∙◌, inl, inr, arith}
use Rattle.std.specs.Prelude.{slice_get}
use Rattle.std.proofs.lemmas.Bool.{cases_Bool, cond-false, eqb-true, eq-eqb, ne_eqb}
use Rattle.std.proofs.lemmas.List.{length-append}
use Rattle.std.proofs.lemmas.List.Folds.{find-append}
use Rattle.std.proofs.lemmas.Option.{slice_get_past}
use Rattle.std.specs.Option.{option_or}
use Rattle.vk_base.specs.Options.{◌>>=◌}
use Rattle.vk_frame.specs.declared.header.Header.{Header}
use Rattle.vk_rules.specs.Entries.{Entry}
use Rattle.vk_rules.specs.Frames.{Frame}
use Rattle.vk_rules.specs.Histories.{is_output, emitted}
use Rattle.vk_rules.specs.Laws.{HaveHeaders, AllRise}
use Rattle.vk_cluster.specs.Found.{events_in, if_addressed, is_addressed, frame_for}
use Rattle.vk_cluster.specs.Piles.{from_one}

-- Frames of one event.
not_head : (a b c : Bool) → a ≡ false → (a && b && c) ≡ false
not_head true b c h = cc
not_head false b c h = refl

pub not_second : (a b c : Bool) → b ≡ false → (a && b && c) ≡ false
not_second true true c h = cc
not_second true false c h = refl
not_second false b c h = refl

third : (a b c : Bool) → a ≡ true → b ≡ true → (a && b && c) ≡ c
third true true c h k = refl
third true false c h k = cc
third false b c h k = cc

skips : (test : Frame → Bool) (f : Frame) (fs : List Frame) → test f ≡ false → find test (f ∷ fs) ≡ find test fs
skips test f fs no_f = cond-false (test f) (Some f) (find test fs) no_f

pub of_other_event : (host stamp number at first : ℕ) (to event output : ℕ) (fs : List Frame) → HaveHeaders host stamp number at first fs →
    event ≢ at → find (is_output to event output) fs ≡ None
of_other_event host stamp number at first to event output [] have apart = refl
of_other_event host stamp number at first to event output (f ∷ fs) have apart =
    let event_is : f.header.event ≡ at = ap (λ (h : Header). h.event) have.0 in
    let differ : f.header.event ≢ event = λ e. apart (sym e ∙ event_is) in
    skips (is_output to event output) f fs
    (not_head (f.header.event == event) (f.header.output == output) (is_addressed to f.header) (ne_eqb f.header.event event differ))
    ∙ of_other_event host stamp number at (first + 1) to event output fs have.1 apart

below_first : (host stamp number at first : ℕ) (to event output : ℕ) (fs : List Frame) → HaveHeaders host stamp number at first fs →
    output < first → find (is_output to event output) fs ≡ None
below_first host stamp number at first to event output [] have low = refl
below_first host stamp number at first to event output (f ∷ fs) have low =
    let output_is : f.header.output ≡ first = ap (λ (h : Header). h.output) have.0 in
    let differ : f.header.output ≢ output = λ e. omega arith in
    skips (is_output to event output) f fs
    (not_second (f.header.event == event) (f.header.output == output) (is_addressed to f.header) (ne_eqb f.header.output output differ))
    ∙ below_first host stamp number at (first + 1) to event output fs have.1 (omega arith)

with_first : (host stamp number event first : ℕ) (to output k : ℕ) (fs : List Frame) → HaveHeaders host stamp number event first fs →
    output ≡ first + k → find (is_output to event output) fs ≡ (slice_get fs k >>= if_addressed to)
with_first host stamp number event first to output k [] have at = refl
with_first host stamp number event first to output zero (f ∷ fs) have at =
    let event_is : f.header.event ≡ event = ap (λ (h : Header). h.event) have.0 in
    let output_is : f.header.output ≡ first = ap (λ (h : Header). h.output) have.0 in
    let here : f.header.output ≡ output = omega arith in
    let test : is_output to event output f ≡ is_addressed to f.header =
    third (f.header.event == event) (f.header.output == output) (is_addressed to f.header)
    (eq-eqb f.header.event event event_is) (eq-eqb f.header.output output here) in
    ap (λ b. cond b (Some f) (find (is_output to event output) fs)) test
    ∙ ap (λ o. cond (is_addressed to f.header) (Some f) o)
    (below_first host stamp number event (first + 1) to event output fs have.1 (omega arith))
with_first host stamp number event first to output (suc k) (f ∷ fs) have at =
    let output_is : f.header.output ≡ first = ap (λ (h : Header). h.output) have.0 in
    let differ : f.header.output ≢ output = λ e. omega arith in
    skips (is_output to event output) f fs
    (not_second (f.header.event == event) (f.header.output == output) (is_addressed to f.header) (ne_eqb f.header.output output differ))
    ∙ with_first host stamp number event (first + 1) to output k fs have.1 (omega arith)

pub of_this_event : (host stamp number event : ℕ) (to output : ℕ) (fs : List Frame) → HaveHeaders host stamp number event 1 fs →
    find (is_output to event output) fs ≡ (from_one fs output >>= if_addressed to)
of_this_event host stamp number event to zero fs have = below_first host stamp number event 1 to event 0 fs have (omega arith)
of_this_event host stamp number event to (suc n) fs have =
    let at : suc n ≡ 1 + n = omega arith in with_first host stamp number event 1 to (suc n) n fs have at

-- Events.
event_count : (es : List Entry) → length (events_in es) ≡ length es
event_count [] = refl
event_count (e ∷ es) =
    let before = event_count es in omega (arith, length-append (events_in es) (e.frames ∷ []))

pub pushed_other : {A : Type 0} (xs : List A) (x : A) (i : ℕ) → i ≢ length xs → slice_get (xs ++ x ∷ []) i ≡ slice_get xs i
pushed_other [] x zero apart = absurd (apart refl)
pushed_other [] x (suc i) apart = refl
pushed_other (y ∷ ys) x zero apart = refl
pushed_other (y ∷ ys) x (suc i) apart = pushed_other ys x i (λ e. apart (ap suc e))

pub pushed_last : {A : Type 0} (xs : List A) (x : A) → slice_get (xs ++ x ∷ []) (length xs) ≡ Some x
pushed_last [] x = refl
pushed_last (y ∷ ys) x = pushed_last ys x

pub one_other : {A : Type 0} (xs : List A) (x : A) (n : ℕ) → n ≢ length xs + 1 → from_one (xs ++ x ∷ []) n ≡ from_one xs n
one_other xs x zero apart = refl
one_other xs x (suc n) apart = pushed_other xs x n (λ e. apart (omega arith))

pub one_last : {A : Type 0} (xs : List A) (x : A) (n : ℕ) → n ≡ length xs + 1 → from_one (xs ++ x ∷ []) n ≡ Some x
one_last xs x zero at = absurd (omega arith)
one_last xs x (suc n) at = let same : n ≡ length xs = omega arith in ap (slice_get (xs ++ x ∷ [])) same ∙ pushed_last xs x

one_past : {A : Type 0} (xs : List A) (n : ℕ) → n ≡ length xs + 1 → from_one xs n ≡ None
one_past xs zero at = absurd (omega arith)
one_past xs (suc n) at = slice_get_past xs n (omega arith)

or_none : {A : Type 0} (o : Option A) → option_or o None ≡ o
or_none None = refl
or_none (Some x) = refl

-- what is found among all frames of a station's entries is the frame by its position
pub found_by_position : (host to event output : ℕ) (es : List Entry) → AllRise host es →
    find (is_output to event output) (emitted es) ≡ frame_for to event output (events_in es)
found_by_position host to zero output [] rise = refl
found_by_position host to (suc n) output [] rise = refl
found_by_position host to event output (e ∷ es) rise =
    let test = is_output to event output in
    let rest : List Frame = emitted es in
    let before = found_by_position host to event output es rise.1 in
    let count = event_count es in
    let split : find test (e.frames ++ rest) ≡ option_or (find test e.frames) (find test rest) = find-append test e.frames rest in
    let at_event : (o : Option (List Frame)) → Option Frame = λ o. o >>= λ fs. from_one fs output >>= if_addressed to in
    elim (cases_Bool (event == length es + 1)) [
      | inl t ↦
          let here : event ≡ length es + 1 = eqb-true event (length es + 1) t in
          let last : event ≡ length (events_in es) + 1 = omega arith in
          split
          ∙ ap (λ o. option_or (find test e.frames) o) (before ∙ ap at_event (one_past (events_in es) event last))
          ∙ or_none (find test e.frames)
          ∙ of_this_event host e.tick e.number event to output e.frames
          (subst (λ n. HaveHeaders host e.tick e.number n 1 e.frames) (sym here) rise.0.frames)
          ∙ ap at_event (sym (one_last (events_in es) e.frames event last))
      | inr f ↦
          let apart : event ≢ length es + 1 = λ same. cc (f, eq-eqb event (length es + 1) same) in
          let other : event ≢ length (events_in es) + 1 = λ same. apart (omega arith) in
          split
          ∙ ap (λ o. option_or o (find test rest))
          (of_other_event host e.tick e.number (length es + 1) 1 to event output e.frames rise.0.frames apart)
          ∙ before
          ∙ ap at_event (sym (one_other (events_in es) e.frames event other))
    ]
