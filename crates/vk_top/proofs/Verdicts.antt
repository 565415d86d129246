-- What the verdict on steps says of them.
use Rattle.std.proofs.Common.{◌≡◌, ℕ, zero, ◌+◌, ◌-◌, ◌≤◌, ◌<◌, nat_lt, Bool, true, false, cond, List, [], ◌∷◌, ◌++◌, length, take, suc, Option, Some, None, Ok, Err, is_some, option_to_list, refl, ap, subst, sym, ◌∙◌, arith, append-nil, append_assoc, length-append}
use Rattle.std.specs.Option.{IsSome, option_map_or}
use Rattle.std.proofs.lemmas.Bool.{cond-true, cond-false, le-ltb, lt-ltb, ltb-true}
use borrow.Author.Tests.{ltb-false}
use Rattle.vk_types.specs.Types.{Observation, Step}
use Rattle.vk_base.specs.Calls.{Effect}
use Rattle.vk_base.specs.Kernel.{◌>>=◌, Kernel, initial_kernel}
use Rattle.vk_base.specs.Steps.{Run, effect, run}
use Rattle.v_machine.specs.Apply.{most, notes}
use Rattle.v_machine.specs.Follows.{Follows, StandsFor}
use Rattle.v_machine.specs.Tables.{Tables}
use Rattle.v_machine.specs.declared.refusal.ApplyRefusal.TheVariants as refusals
use Rattle.v_trace.specs.Remaining.{Remaining, behind}
use Rattle.v_trace.specs.declared.trace.Trace.{Trace}
use Rattle.vk_top.specs.Checking.{IsAsFar, IsFound}
use Rattle.vk_top.specs.Check.{IsRun, IsVerdict, VerdictsAreExact, noted_by, noted_from, verdict_from, verdict_of}
use Rattle.vk_top.specs.declared.check.TraceVerdict.{TraceVerdict}
use Rattle.vk_top.specs.declared.check.TraceVerdict.TheVariants as verdicts

-- one step more

abbrev judged : Kernel → ℕ → ℕ → Step → List Step → Effect → TraceVerdict
judged k n noted s ss e = cond (nat_lt most (noted + notes k s)) verdicts.TooMuch (verdict_from e.after (n + 1) (noted + notes k s) ss)

verdict_by : (k : Kernel) (n noted : ℕ) (s : Step) (ss : List Step) →
    verdict_from k n noted (s ∷ ss) ≡ option_map_or (judged k n noted s ss) (effect k s) (verdicts.Refused (n + 1))
unfolding verdict_from
verdict_by k n noted s ss = refl

pub verdict-refused : (k : Kernel) (n noted : ℕ) (s : Step) (ss : List Step) → effect k s ≡ None →
    verdict_from k n noted (s ∷ ss) ≡ verdicts.Refused (n + 1)
verdict-refused k n noted s ss none = verdict_by k n noted s ss
    ∙ ap (λ o. option_map_or (judged k n noted s ss) o (verdicts.Refused (n + 1))) none

verdict-allowed : (k : Kernel) (n noted : ℕ) (s : Step) (ss : List Step) (e : Effect) → effect k s ≡ Some e →
    verdict_from k n noted (s ∷ ss) ≡ judged k n noted s ss e
verdict-allowed k n noted s ss e is = verdict_by k n noted s ss
    ∙ ap (λ o. option_map_or (judged k n noted s ss) o (verdicts.Refused (n + 1))) is

pub verdict-more : (k : Kernel) (n noted : ℕ) (s : Step) (ss : List Step) (e : Effect) → effect k s ≡ Some e → noted + notes k s ≤ most
    → verdict_from k n noted (s ∷ ss) ≡ verdict_from e.after (n + 1) (noted + notes k s) ss
verdict-more k n noted s ss e is few = verdict-allowed k n noted s ss e is ∙ cond-false _ _ _ (le-ltb most (noted + notes k s) few)

too_much_by : (k : Kernel) (n noted : ℕ) (s : Step) (ss : List Step) (o : Option Effect) → effect k s ≡ o → IsSome o →
    most < noted + notes k s → verdict_from k n noted (s ∷ ss) ≡ verdicts.TooMuch
too_much_by k n noted s ss None is some many = absurd (grind (arith, some))
too_much_by k n noted s ss (Some e) is some many = verdict-allowed k n noted s ss e is
    ∙ cond-true _ _ _ (lt-ltb most (noted + notes k s) many)

pub verdict-too_much : (k : Kernel) (n noted : ℕ) (s : Step) (ss : List Step) → IsSome (effect k s) → most < noted + notes k s →
    verdict_from k n noted (s ∷ ss) ≡ verdicts.TooMuch
verdict-too_much k n noted s ss some many = too_much_by k n noted s ss (effect k s) refl some many

pub verdict-end : (k : Kernel) (n noted : ℕ) (ss : List Step) → ss ≡ [] → verdict_from k n noted ss ≡ verdicts.Run n
unfolding verdict_from
verdict-end k n noted ss none = ap (verdict_from k n noted) none

-- how far the checking of steps has come, behind others

pub as_far_at_first : (k : Kernel) (before : ℕ) (steps : List Step) (machine : Tables) → StandsFor machine k →
    IsAsFar k before machine.noted steps machine before steps
as_far_at_first k before steps machine stands = record { kernel = k; stands = stands; verdict = λ later. refl }

-- with the next step taken off
pub next_far : (k : Kernel) (before noted : ℕ) (steps : List Step) (machine : Tables) (n : ℕ) (old new : Remaining) (s : Step) →
    old ≡ behind (s ∷ []) new → IsAsFar k before noted steps machine n old.steps → IsAsFar k before noted steps machine n (s ∷ new.steps)
next_far k before noted steps machine n old new s next far =
    subst (IsAsFar k before noted steps machine n) (ap (λ (r : Remaining). r.steps) next) far

-- with no step left all were allowed
pub as_far_over : (k : Kernel) (before noted : ℕ) (steps : List Step) (machine : Tables) (n : ℕ) (left : List Step) → left ≡ [] →
    n + length left ≡ before + length steps → IsAsFar k before noted steps machine n left
    → IsFound k before noted steps machine (verdicts.Run n)
as_far_over k before noted steps machine n left none counted far = (
  omega (arith, counted, ap (λ (l : List Step). length l) none),
  subst (IsAsFar k before noted steps machine n) none far,
)

module _ (k : Kernel) (before noted : ℕ) (steps : List Step) (old new : Tables) (n : ℕ) (s : Step) (ss : List Step)
    (far : IsAsFar k before noted steps old n (s ∷ ss)) where
  pub as_far_more : (seen : Option Observation) → Follows s old new (Ok seen) → IsAsFar k before noted steps new (n + 1) ss
  as_far_more seen applied =
      let took = applied.1 far.kernel far.stands in
      let few = took.few in
      let more = took.noted in
      record {
        kernel = took.after;
        stands = took.stands;
        verdict = λ later. far.verdict later ∙ verdict-more far.kernel n old.noted s (ss ++ later) _ took.is (omega arith)
            ∙ ap (λ m. verdict_from took.after (n + 1) m (ss ++ later)) (sym more);
      }

  pub as_far_refused : Follows s old new (Err refusals.NotAllowed) → IsFound k before noted steps new (verdicts.Refused (n + 1))
  as_far_refused applied later =
      far.verdict later ∙ verdict-refused far.kernel n old.noted s (ss ++ later) (applied.1 far.kernel far.stands).0

  pub as_far_too_much : Follows s old new (Err refusals.Limit) → IsFound k before noted steps new verdicts.TooMuch
  as_far_too_much applied later =
      let limit = (applied.1 far.kernel far.stands).0 in
      far.verdict later ∙ verdict-too_much far.kernel n old.noted s (ss ++ later) limit.0 limit.1

-- what was found of all steps is the verdict on them
pub found_verdict : (k : Kernel) (before noted : ℕ) (steps : List Step) (machine : Tables) (v : TraceVerdict)
    → IsFound k before noted steps machine v → v ≡ verdict_from k before noted steps
found_verdict k before noted steps machine (verdicts.Run n) found =
    sym (ap (verdict_from k before noted) (sym (append-nil steps)) ∙ found.1.verdict []
    ∙ verdict-end found.1.kernel n machine.noted [] refl)
found_verdict k before noted steps machine (verdicts.Refused step) found =
    sym (ap (verdict_from k before noted) (sym (append-nil steps)) ∙ found [])
found_verdict k before noted steps machine verdicts.TooMuch found =
    sym (ap (verdict_from k before noted) (sym (append-nil steps)) ∙ found [])

-- what was found of steps behind others that were all allowed
pub found_behind : (k : Kernel) (before noted n : ℕ) (steps more : List Step) (old new : Tables) (v : TraceVerdict)
    → (far : IsAsFar k before noted steps old n []) → n ≡ before + length steps → IsFound far.kernel n old.noted more new v
    → IsFound k before noted (steps ++ more) new v
found_behind k before noted n steps more old new (verdicts.Run m) far counted found = (
  omega (arith, counted, found.0, length-append steps more),
  record {
    kernel = found.1.kernel;
    stands = found.1.stands;
    verdict = λ later. ap (verdict_from k before noted) (append_assoc steps more later) ∙ far.verdict (more ++ later)
        ∙ found.1.verdict later;
  },
)
found_behind k before noted n steps more old new (verdicts.Refused step) far counted found =
    λ later. ap (verdict_from k before noted) (append_assoc steps more later) ∙ far.verdict (more ++ later) ∙ found later
found_behind k before noted n steps more old new verdicts.TooMuch far counted found =
    λ later. ap (verdict_from k before noted) (append_assoc steps more later) ∙ far.verdict (more ++ later) ∙ found later

-- what decided decides with more steps
pub decided_behind : (k : Kernel) (before noted : ℕ) (steps more : List Step) (v : TraceVerdict)
    → ((later : List Step) → verdict_from k before noted (steps ++ later) ≡ v)
    → (later : List Step) → verdict_from k before noted (steps ++ more ++ later) ≡ v
decided_behind k before noted steps more v decided later =
    ap (verdict_from k before noted) (append_assoc steps more later) ∙ decided (more ++ later)

-- runs and what they note, by their first step

run-none : (k : Kernel) (s : Step) (ss : List Step) → effect k s ≡ None → run k (s ∷ ss) ≡ None
unfolding run
run-none k s ss none =
    ap (λ o. o >>= λ (e : Effect). run e.after ss >>= λ r. Some (record { after = r.after; seen = option_to_list e.seen ++ r.seen })) none

abbrev with_first : Effect → Run → Option Run
with_first e r = Some (record { after = r.after; seen = option_to_list e.seen ++ r.seen })

run-some : (k : Kernel) (s : Step) (ss : List Step) (e : Effect) → effect k s ≡ Some e → run k (s ∷ ss) ≡ (run e.after ss >>= with_first e)
unfolding run
run-some k s ss e is = ap (λ o. o >>= λ (f : Effect). run f.after ss >>= with_first f) is

kept : (e : Effect) (o : Option Run) → is_some (o >>= with_first e) ≡ is_some o
kept e None = refl
kept e (Some r) = refl

run-is_some : (k : Kernel) (s : Step) (ss : List Step) (e : Effect) → effect k s ≡ Some e → IsSome (run e.after ss) →
    IsSome (run k (s ∷ ss))
run-is_some k s ss e is some = ap is_some (run-some k s ss e is) ∙ kept e (run e.after ss) ∙ some

run-is_none : (k : Kernel) (s : Step) (ss : List Step) (e : Effect) → effect k s ≡ Some e → run e.after ss ≡ None → run k (s ∷ ss) ≡ None
run-is_none k s ss e is none = run-some k s ss e is ∙ ap (λ o. o >>= with_first e) none

run-later : (k : Kernel) (s : Step) (ss : List Step) (e : Effect) → effect k s ≡ Some e → IsSome (run k (s ∷ ss)) → IsSome (run e.after ss)
run-later k s ss e is some = sym (kept e (run e.after ss)) ∙ sym (ap is_some (run-some k s ss e is)) ∙ some

none_kept : (e : Effect) (o : Option Run) → (o >>= with_first e) ≡ None → o ≡ None
none_kept e None none = refl
none_kept e (Some r) none = absurd (grind (arith, none))

run-none_later : (k : Kernel) (s : Step) (ss : List Step) (e : Effect) → effect k s ≡ Some e → run k (s ∷ ss) ≡ None → run e.after ss ≡ None
run-none_later k s ss e is none = none_kept e (run e.after ss) (sym (run-some k s ss e is) ∙ none)

run-nothing : (k : Kernel) → IsSome (run k [])
unfolding run
run-nothing k = refl

noted-more : (k : Kernel) (s : Step) (ss : List Step) (e : Effect) → effect k s ≡ Some e →
    noted_from k (s ∷ ss) ≡ notes k s + noted_from e.after ss
noted-more k s ss e is = ap (λ o. option_map_or (λ (f : Effect). notes k s + noted_from f.after ss) o 0) is

-- what a verdict on steps says, behind n others that noted so many bytes
abbrev pub Says : Kernel → ℕ → ℕ → List Step → TraceVerdict → Type 0
Says k n noted ss (verdicts.Run m) = IsSome (run k ss) × (m ≡ n + length ss) × (noted + noted_from k ss ≤ most)
Says k n noted ss (verdicts.Refused m) =
    (i : ℕ) × (m ≡ n + i + 1) × IsSome (run k (take i ss)) × (noted + noted_from k (take i ss) ≤ most) × (run k (take (suc i) ss) ≡ None)
Says k n noted ss verdicts.TooMuch = (i : ℕ) × IsSome (run k (take i ss)) × (most < noted + noted_from k (take i ss))

more : (k : Kernel) (n noted : ℕ) (s : Step) (ss : List Step) (e : Effect) (v : TraceVerdict) → effect k s ≡ Some e →
    Says e.after (n + 1) (noted + notes k s) ss v → Says k n noted (s ∷ ss) v
more k n noted s ss e (verdicts.Run m) is (some, counted, few) =
    (run-is_some k s ss e is some, omega (arith, counted), omega (arith, few, noted-more k s ss e is))
more k n noted s ss e (verdicts.Refused m) is (i, counted, some, few, none) = (
  suc i,
  omega (arith, counted),
  run-is_some k s (take i ss) e is some,
  omega (arith, few, noted-more k s (take i ss) e is),
  run-is_none k s (take (suc i) ss) e is none,
)
more k n noted s ss e verdicts.TooMuch is (i, some, many) =
    (suc i, run-is_some k s (take i ss) e is some, omega (arith, many, noted-more k s (take i ss) e is))

by_room : (k : Kernel) (n noted : ℕ) (s : Step) (ss : List Step) (e : Effect) (b : Bool) → effect k s ≡ Some e →
    nat_lt most (noted + notes k s) ≡ b
    → (noted + notes k s ≤ most → Says e.after (n + 1) (noted + notes k s) ss (verdict_from e.after (n + 1) (noted + notes k s) ss))
    → Says k n noted (s ∷ ss) (cond b verdicts.TooMuch (verdict_from e.after (n + 1) (noted + notes k s) ss))
by_room k n noted s ss e true is room rest =
    (1, run-is_some k s [] e is (run-nothing e.after), omega (arith, ltb-true most (noted + notes k s) room, noted-more k s [] e is))
by_room k n noted s ss e false is room rest = more k n noted s ss e _ is (rest (omega (arith, ltb-false most (noted + notes k s) room)))

by_effect : (k : Kernel) (n noted : ℕ) (s : Step) (ss : List Step) (o : Option Effect) → effect k s ≡ o → noted ≤ most
    → ((e : Effect) → noted + notes k s ≤ most →
    Says e.after (n + 1) (noted + notes k s) ss (verdict_from e.after (n + 1) (noted + notes k s) ss))
    → Says k n noted (s ∷ ss) (option_map_or (judged k n noted s ss) o (verdicts.Refused (n + 1)))
by_effect k n noted s ss None is few rest = (0, omega arith, run-nothing k, omega (arith, few), run-none k s [] is)
by_effect k n noted s ss (Some e) is few rest = by_room k n noted s ss e _ is refl (rest e)

pub says : (k : Kernel) (n noted : ℕ) (ss : List Step) → noted ≤ most → Says k n noted ss (verdict_from k n noted ss)
unfolding verdict_from
says k n noted [] few = (run-nothing k, omega arith, omega (arith, few))
says k n noted (s ∷ ss) few = by_effect k n noted s ss (effect k s) refl few (λ e room. says e.after (n + 1) (noted + notes k s) ss room)

-- the verdict on a trace holds of it
by_says : (t : Trace) (v : TraceVerdict) → Says (initial_kernel t.config.specs) 0 0 t.steps v → IsVerdict t v
by_says t (verdicts.Run m) (some, counted, few) = (omega (arith, counted), some, omega (arith, few))
by_says t (verdicts.Refused m) (i, counted, some, few, none) =
    let place : suc i ≡ m = omega (arith, counted) in
    let earlier : i ≡ m - 1 = omega (arith, place) in (
      subst (λ j. IsRun t.config.specs (take j t.steps)) earlier some,
      subst (λ j. noted_by t.config.specs (take j t.steps) ≤ most) earlier (omega (arith, few)),
      subst (λ j. run (initial_kernel t.config.specs) (take j t.steps) ≡ None) place none,
    )
by_says t verdicts.TooMuch (i, some, many) = (i, some, omega (arith, many))

pub verdict_holds : (t : Trace) → IsVerdict t (verdict_of t)
verdict_holds t = by_says t (verdict_of t) (says (initial_kernel t.config.specs) 0 0 t.steps (omega arith))

-- no other verdict holds of it

nothing_left : (i : ℕ) → take {A = Step} i [] ≡ []
nothing_left zero = refl
nothing_left (suc i) = refl

-- a run cannot be none
both_ways : (o : Option Run) → IsSome o → o ≡ None → ⊥
both_ways None some none = absurd (grind (arith, some))
both_ways (Some r) some none = absurd (grind (arith, none))

less : (k : Kernel) (n noted : ℕ) (s : Step) (ss : List Step) (e : Effect) (v : TraceVerdict) → effect k s ≡ Some e →
    noted + notes k s ≤ most → Says k n noted (s ∷ ss) v → Says e.after (n + 1) (noted + notes k s) ss v
less k n noted s ss e (verdicts.Run m) is room (some, counted, few) =
    (run-later k s ss e is some, omega (arith, counted), omega (arith, few, noted-more k s ss e is))
less k n noted s ss e (verdicts.Refused m) is room (zero, counted, some, few, none) =
    absurd (both_ways _ (run-is_some k s [] e is (run-nothing e.after)) none)
less k n noted s ss e (verdicts.Refused m) is room (suc i, counted, some, few, none) = (
  i,
  omega (arith, counted),
  run-later k s (take i ss) e is some,
  omega (arith, few, noted-more k s (take i ss) e is),
  run-none_later k s (take (suc i) ss) e is none,
)
less k n noted s ss e verdicts.TooMuch is room (zero, some, many) = absurd (omega (arith, many, room))
less k n noted s ss e verdicts.TooMuch is room (suc i, some, many) =
    (i, run-later k s (take i ss) e is some, omega (arith, many, noted-more k s (take i ss) e is))

-- once too much is noted, no other verdict holds
over : (k : Kernel) (n noted : ℕ) (s : Step) (ss : List Step) (e : Effect) (v : TraceVerdict) → effect k s ≡ Some e → noted ≤ most →
    most < noted + notes k s → Says k n noted (s ∷ ss) v → verdicts.TooMuch ≡ v
over k n noted s ss e (verdicts.Run m) is small room (some, counted, few) = absurd (omega (arith, few, room, noted-more k s ss e is))
over k n noted s ss e (verdicts.Refused m) is small room (zero, counted, some, few, none) =
    absurd (both_ways _ (run-is_some k s [] e is (run-nothing e.after)) none)
over k n noted s ss e (verdicts.Refused m) is small room (suc i, counted, some, few, none) =
    absurd (omega (arith, few, room, noted-more k s (take i ss) e is))
over k n noted s ss e verdicts.TooMuch is small room said = refl

-- a step that is not allowed is the first
stops : (k : Kernel) (n noted : ℕ) (s : Step) (ss : List Step) (v : TraceVerdict) → effect k s ≡ None → noted ≤ most →
    Says k n noted (s ∷ ss) v → verdicts.Refused (n + 1) ≡ v
stops k n noted s ss (verdicts.Run m) none small (some, counted, few) = absurd (both_ways _ some (run-none k s ss none))
stops k n noted s ss (verdicts.Refused m) none small (zero, counted, some, few, refused) = ap verdicts.Refused (omega (arith, counted))
stops k n noted s ss (verdicts.Refused m) none small (suc i, counted, some, few, refused) =
    absurd (both_ways _ some (run-none k s (take i ss) none))
stops k n noted s ss verdicts.TooMuch none small (zero, some, many) = absurd (omega (arith, many, small))
stops k n noted s ss verdicts.TooMuch none small (suc i, some, many) = absurd (both_ways _ some (run-none k s (take i ss) none))

ends : (k : Kernel) (n noted : ℕ) (v : TraceVerdict) → noted ≤ most → Says k n noted [] v → verdicts.Run n ≡ v
ends k n noted (verdicts.Run m) small (some, counted, few) = ap verdicts.Run (omega (arith, counted))
ends k n noted (verdicts.Refused m) small (i, counted, some, few, none) = absurd (both_ways _ (run-nothing k) none)
ends k n noted verdicts.TooMuch small (i, some, many) =
    absurd (omega (arith, small, subst (λ ss. most < noted + noted_from k ss) (nothing_left i) many))

only_by_room : (k : Kernel) (n noted : ℕ) (s : Step) (ss : List Step) (e : Effect) (v : TraceVerdict) (b : Bool) → effect k s ≡ Some e →
    nat_lt most (noted + notes k s) ≡ b → noted ≤ most
    → (noted + notes k s ≤ most → Says e.after (n + 1) (noted + notes k s) ss v → verdict_from e.after (n + 1) (noted + notes k s) ss ≡ v)
    → Says k n noted (s ∷ ss) v → cond b verdicts.TooMuch (verdict_from e.after (n + 1) (noted + notes k s) ss) ≡ v
only_by_room k n noted s ss e v true is room small rest said =
    over k n noted s ss e v is small (ltb-true most (noted + notes k s) room) said
only_by_room k n noted s ss e v false is room small rest said =
    let few : noted + notes k s ≤ most = omega (arith, ltb-false most (noted + notes k s) room) in
    rest few (less k n noted s ss e v is few said)

only_by_effect : (k : Kernel) (n noted : ℕ) (s : Step) (ss : List Step) (v : TraceVerdict) (o : Option Effect) → effect k s ≡ o →
    noted ≤ most
    → ((e : Effect) → noted + notes k s ≤ most → Says e.after (n + 1) (noted + notes k s) ss v →
    verdict_from e.after (n + 1) (noted + notes k s) ss ≡ v)
    → Says k n noted (s ∷ ss) v → option_map_or (judged k n noted s ss) o (verdicts.Refused (n + 1)) ≡ v
only_by_effect k n noted s ss v None is small rest said = stops k n noted s ss v is small said
only_by_effect k n noted s ss v (Some e) is small rest said = only_by_room k n noted s ss e v _ is refl small (rest e) said

only : (k : Kernel) (n noted : ℕ) (ss : List Step) (v : TraceVerdict) → noted ≤ most → Says k n noted ss v → verdict_from k n noted ss ≡ v
unfolding verdict_from
only k n noted [] v small said = ends k n noted v small said
only k n noted (s ∷ ss) v small said =
    only_by_effect k n noted s ss v (effect k s) refl small (λ e few. only e.after (n + 1) (noted + notes k s) ss v few) said

-- a step that is refused is one of them
place_of : (t : Trace) (m : ℕ) → IsVerdict t (verdicts.Refused m) → m ≡ suc (m - 1)
place_of t zero (some, few, none) = absurd (both_ways _ some none)
place_of t (suc i) said = omega arith

to_says : (t : Trace) (v : TraceVerdict) → IsVerdict t v → Says (initial_kernel t.config.specs) 0 0 t.steps v
to_says t (verdicts.Run m) (counted, some, few) = (some, omega (arith, counted), omega (arith, few))
to_says t (verdicts.Refused m) (some, few, none) =
    let place = place_of t m (some, few, none) in (
      m - 1,
      omega (arith, place),
      some,
      omega (arith, few),
      subst (λ j. run (initial_kernel t.config.specs) (take j t.steps) ≡ None) place none,
    )
to_says t verdicts.TooMuch (i, some, many) = (i, some, omega (arith, many))

pub exact : VerdictsAreExact
exact t v = (
  λ is. subst (IsVerdict t) is (verdict_holds t),
  λ holds. only (initial_kernel t.config.specs) 0 0 t.steps v (omega arith) (to_says t v holds),
)
