-- A work waits for its next due tick, and fails in its turn.
use Rattle.std.proofs.Common.{◌≡◌, ℕ, ◌+◌, ◌-◌, ◌*◌, ◌<◌, ◌≤◌, Bool, true, false, cond, ◌&&◌, ◌||◌, not, List, [], ◌∷◌, ◌++◌, flat_map, Some, refl, sym, ap, subst, ◌∙◌, inl, inr, arith}
use Rattle.std.proofs.lemmas.Bool.{and_from, and_parts, both_ways, cases_Bool, cases_lt, cond-true, cond-false, eqb-true, eq-eqb, le-leb, leb-true, not-true}
use Rattle.std.specs.List.{list_any}
use Rattle.vk_types.specs.Types.{Call, Pid, Times}
use Rattle.vk_base.specs.declared.answer.Answer.TheVariants as answers_given
use Rattle.vk_base.specs.declared.kernel.State.TheVariants as states
use Rattle.vk_base.specs.declared.step.Step.TheVariants as steps
use Rattle.vk_base.specs.Kernel.{Kernel}
use Rattle.vk_base.specs.Packets.{Packet}
use Rattle.vk_base.specs.Pids.{same_pid}
use Rattle.vk_base.specs.Settings.{Settings}
use Rattle.vk_base.specs.Steps.{next}
use Rattle.vk_rules.specs.CallOutcomes.{call_outcome, collect_outcome, packets_of, sent_again, tick_outcome}
use Rattle.vk_rules.specs.Entries.{Entry, Input, Called, Collected, Ticked, Delivered, is_begun}
use Rattle.vk_rules.specs.Readings.{Reading, reading, reading_after}
use Rattle.vk_rules.specs.Right.{answer_to, own_pids, number_after, right_entry, tick_after}
use Rattle.vk_rules.specs.Works.{Work, begins, answers, has_round, is_base, is_due, is_of_round, is_unanswered, restarts, work_after}
use Rattle.vk_rules.proofs.Lists.{each_weaker}
use Rattle.v_ages.proofs.Outcomes.{First, OfCall, OfTick, Other, call_packets, tick_packets}
use Rattle.v_ages.proofs.Taken.{any_each}
use Rattle.v_ended.proofs.Spared as spared
use Rattle.v_due.specs.Failures.{IsAtWork, WorksRestUntilDue, failure_of, reading_behind}
use Rattle.v_due.specs.Turns.{FailuresComeInTurn, IsPatient, IsSince, WorksArePatient, WorksFailInTurn, is_base_next, next_entry}
use Rattle.v_due.proofs.Blocked.{WasBlocked, first_free, frames_any, was_blocked}
use Rattle.v_due.proofs.Dues.{doing_behind, failures_come_when_due, over_doing, own_here, unanswered_works_fail}
use Rattle.v_due.proofs.Rounds.{due_works_go_out_again, none_fails}
use Rattle.v_due.proofs.Told.{never_both, view_after}

-- What makes a round of the process go out: a base, or a due tick that does not give its work up.
abbrev DueNow : Times → Reading → Pid → Type 0
DueNow t rd s = (is_due t (rd.now + 1) (rd.work s) && not (is_unanswered t (rd.work s))) ≡ true

called_round : (before after : Kernel) (rd : Reading) (q : Pid) (d : Call) (a : _) (s : Pid) →
    list_any (is_of_round s) (packets_of before after rd.slots q d a) ≡ true → (same_pid q s && is_begun a) ≡ true
called_round before after rd q d a s is =
    any_each ((same_pid q s && is_begun a) ≡ true) (is_of_round s) (packets_of before after rd.slots q d a) is
    (each_weaker (OfCall after q s 0 (is_begun a)) (λ p. is_of_round s p ≡ true → (same_pid q s && is_begun a) ≡ true)
    (packets_of before after rd.slots q d a) (call_packets before after rd.slots q d a s 0) of_call)
  where
    of_call : (p : Packet) → OfCall after q s 0 (is_begun a) p → is_of_round s p ≡ true → (same_pid q s && is_begun a) ≡ true
    of_call p (Other x) t = absurd (x.of t)
    of_call p (First begun x) t = and_from (same_pid q s) (is_begun a) (x.of t) begun

-- of an entry that is no base
round_by : (c : Settings) (host : ℕ) (rd : Reading) (i : Input) (s : Pid) → begins s (right_entry c host rd i) ≡ false →
    restarts s (right_entry c host rd i) ≡ false → has_round s (right_entry c host rd i) ≡ true → (i ≡ Ticked) × DueNow c.times rd s
unfolding right_entry call_outcome collect_outcome tick_outcome
round_by c host rd (Called q d) s none off is =
    let l = next rd.view (steps.Call q d) in
    let a = answer_to c host rd (Called q d) in
    absurd (both_ways (same_pid q s && is_begun a) none
    (called_round rd.view l rd q d a s (sym (frames_any s host _ _ _ 1 (packets_of rd.view l rd.slots q d a)) ∙ is)))
round_by c host rd (Collected q) s none off is = absurd (both_ways false refl is)
round_by c host rd Ticked s none off is =
    let ps = flat_map (sent_again c.times (rd.now + 1) rd) (own_pids c host) in (
      refl,
      any_each (DueNow c.times rd s) (is_of_round s) ps
          (sym (frames_any s host (rd.now + 1) (number_after rd Ticked) (rd.events + 1) 1 ps) ∙ is)
          (each_weaker (OfTick c.times (rd.now + 1) rd s 0) (λ p. is_of_round s p ≡ true → DueNow c.times rd s) ps
          (tick_packets c.times (rd.now + 1) rd (own_pids c host) s 0) (λ p x. x.of)),
    )
round_by c host rd (Delivered u) s none off is = absurd (both_ways (restarts s (right_entry c host rd (Delivered u))) off is)

-- The work behind an entry.
parts_of_base : (a b d : Bool) → (a || b || d) ≡ false → (a ≡ false) × (b ≡ false) × (d ≡ false)
parts_of_base true b d e = absurd (both_ways true e refl)
parts_of_base false true d e = absurd (both_ways true e refl)
parts_of_base false false d e = (refl, refl, e)

-- a base begins the count
record IsBegun (s : Pid) (e : Entry) (w : Work) : Type 0 where
  since : w.since ≡ e.tick
  rounds : w.rounds ≡ (cond (has_round s e) 1 0)

base_work : (k : Kernel) (s : Pid) (e : Entry) (w : Work) → is_base k s e w ≡ true → IsBegun s e (work_after k s e w)
unfolding work_after
base_work k s e w base = record {
  since = cond-true (is_base k s e w || has_round s e) e.tick w.since (ap (λ b. b || has_round s e) base);
  rounds = ap (λ n. n + cond (has_round s e) 1 0) (cond-true (is_base k s e w) 0 w.rounds base) ∙ omega arith;
}

-- a round more, or nothing
data Goes (t : Times) (rd : Reading) (i : Input) (s : Pid) (e : Entry) (w : Work) : Type 0 where
  Again : i ≡ Ticked → DueNow t rd s → w.since ≡ rd.now + 1 → w.rounds ≡ (rd.work s).rounds + 1 → Goes t rd i s e w
  Rests : has_round s e ≡ false → w.since ≡ (rd.work s).since → w.rounds ≡ (rd.work s).rounds → Goes t rd i s e w

tick_of : (c : Settings) (host : ℕ) (rd : Reading) (i : Input) → i ≡ Ticked → (right_entry c host rd i).tick ≡ rd.now + 1
unfolding right_entry
tick_of c host rd i is = ap (tick_after rd) is

goes_on : (c : Settings) (host : ℕ) (rd : Reading) (i : Input) (s : Pid) →
    is_base rd.view s (right_entry c host rd i) (rd.work s) ≡ false →
    Goes c.times rd i s (right_entry c host rd i) (work_after rd.view s (right_entry c host rd i) (rd.work s))
unfolding work_after
goes_on c host rd i s none =
    let e = right_entry c host rd i in
    let w = rd.work s in
    let b = is_base rd.view s e w in
    let parts = parts_of_base (begins s e) (answers rd.view s e w) (restarts s e) none in
    let same : cond b 0 w.rounds ≡ w.rounds = cond-false b 0 w.rounds none in
    elim (cases_Bool (has_round s e)) [
      | inl t ↦
          let by = round_by c host rd i s parts.0 parts.2 t in
          Again by.0 by.1
          (cond-true (b || has_round s e) e.tick w.since (ap (λ x. x || has_round s e) none ∙ t) ∙ tick_of c host rd i by.0)
          (ap (λ n. n + cond (has_round s e) 1 0) same ∙ ap (λ x. w.rounds + cond x 1 0) t)
      | inr f ↦
          Rests f (cond-false (b || has_round s e) e.tick w.since (ap (λ x. x || has_round s e) none ∙ f))
          (ap (λ n. n + cond (has_round s e) 1 0) same ∙ ap (λ x. w.rounds + cond x 1 0) f ∙ omega arith)
    ]

-- Since its base a work has waited one interval for each round more.
abbrev pub own_round : Pid → Entry → ℕ
own_round s e = cond (has_round s e) 1 0

abbrev pub InTurn : (t : ℕ) (w : Work) (s : Pid) (e : Entry) → Type 0
InTurn t w s e = w.since + t * own_round s e ≡ e.tick + t * w.rounds

turn_first : (t : ℕ) (w : Work) (s : Pid) (e : Entry) → IsBegun s e w → InTurn t w s e
turn_first t w s e begun = ap (λ n. n + t * own_round s e) begun.since ∙ ap (λ n. e.tick + t * n) (sym begun.rounds)

one_more_turn : (t n m since tick own : ℕ) → since + own ≡ tick + t * n → m ≡ n + 1 → since + t + own ≡ tick + t * m
one_more_turn t n m since tick own is more =
    let product : t * (n + 1) ≡ t * n + t = mul-suc-of t n in
    let there : t * m ≡ t * n + t = ap (λ z. t * z) more ∙ product in
    omega arith
  where
    mul-suc-of : (a b : ℕ) → a * (b + 1) ≡ a * b + a
    mul-suc-of a b = grind arith

due_is : (t : Times) (rd : Reading) (s : Pid) → DueNow t rd s → rd.now + 1 ≡ (rd.work s).since + t.interval
due_is t rd s due =
    eqb-true (rd.now + 1) ((rd.work s).since + t.interval)
    (and_parts (is_due t (rd.now + 1) (rd.work s)) (not (is_unanswered t (rd.work s))) due).0

turn_more : (t : Times) (rd : Reading) (i : Input) (s : Pid) (e : Entry) (w : Work) (first : Entry) → Goes t rd i s e w →
    InTurn t.interval (rd.work s) s first → InTurn t.interval w s first
turn_more t rd i s e w first (Again tick due since rounds) before =
    ap (λ n. n + t.interval * own_round s first) (since ∙ due_is t rd s due)
    ∙ one_more_turn t.interval (rd.work s).rounds w.rounds (rd.work s).since first.tick (t.interval * own_round s first) before rounds
turn_more t rd i s e w first (Rests none since rounds) before =
    ap (λ n. n + t.interval * own_round s first) since ∙ before ∙ ap (λ n. first.tick + t.interval * n) (sym rounds)

pub in_turn : (c : Settings) (host : ℕ) (earlier : List Input) (first : Input) (later : List Input) (s : Pid) →
    IsSince c host earlier first later s →
    InTurn c.times.interval ((reading_behind c host (later ++ first ∷ earlier)).work s) s (next_entry c host earlier first)
unfolding reading reading_after
in_turn c host earlier first [] s since =
    let rd = reading_behind c host earlier in
    turn_first c.times.interval _ s (next_entry c host earlier first)
    (base_work rd.view s (next_entry c host earlier first) (rd.work s) since.base)
in_turn c host earlier first (i ∷ is) s since =
    let rd = reading_behind c host (is ++ first ∷ earlier) in
    turn_more c.times rd i s (right_entry c host rd i) _ (next_entry c host earlier first) (goes_on c host rd i s since.none.0)
    (in_turn c host earlier first is s (record { base = since.base; none = since.none.1 }))

-- Patience.
now_of : (c : Settings) (host : ℕ) (is : List Input) (i : Input) → (reading_behind c host (i ∷ is)).now ≡ tick_after (reading_behind c host is) i
unfolding reading reading_after right_entry
now_of c host is i = refl

work_of : (c : Settings) (host : ℕ) (is : List Input) (i : Input) (s : Pid) → (reading_behind c host (i ∷ is)).work s
    ≡ work_after (reading_behind c host is).view s (next_entry c host is i) ((reading_behind c host is).work s)
unfolding reading reading_after
work_of c host is i s = refl

tick_is : (c : Settings) (host : ℕ) (is : List Input) (i : Input) → (next_entry c host is i).tick ≡ tick_after (reading_behind c host is) i
unfolding right_entry
tick_is c host is i = refl

few_rounds : (b : Bool) (t : ℕ) → 0 < t → cond b 1 0 ≤ t
few_rounds true t some = omega arith
few_rounds false t some = omega arith

patient_base : (c : Settings) (host : ℕ) (is : List Input) (i : Input) (s : Pid) → 0 < c.times.tries → 0 < c.times.interval →
    is_base_next c host is i s ≡ true → IsPatient c host (i ∷ is) s
patient_base c host is i s tries interval base =
    let rd = reading_behind c host is in
    let e = next_entry c host is i in
    let begun = base_work rd.view s e (rd.work s) base in
    let work = work_of c host is i s in
    let since = ap (λ (w : Work). w.since) work ∙ begun.since ∙ tick_is c host is i in
    let now = now_of c host is i in
    record {
      past = omega (arith, since, now);
      ahead = omega (arith, since, now, interval);
      few = subst (λ n. n ≤ c.times.tries) (sym (ap (λ (w : Work). w.rounds) work
          ∙ begun.rounds)) (few_rounds (has_round s e) c.times.tries tries);
    }

not_late : (t : Times) (w : Work) → not (is_unanswered t w) ≡ true → w.rounds + 1 ≤ t.tries
not_late t w off = elim (cases_lt w.rounds t.tries) [
  | inl less ↦ omega arith
  | inr late ↦ absurd (both_ways (is_unanswered t w) (not-true (is_unanswered t w) off) (le-leb t.tries w.rounds late))
]

-- a tick at which nothing goes out is not due
not_due : (c : Settings) (host : ℕ) (is : List Input) (s : Pid) (call : Call) → IsAtWork c host is s call →
    spared.doing (reading_behind c host (Ticked ∷ is)).view s ≡ Some (states.Blocked call) →
    has_round s (next_entry c host is Ticked) ≡ false →
    is_due c.times ((reading_behind c host is).now + 1) ((reading_behind c host is).work s) ≡ false
not_due c host is s call at still none =
    elim (cases_Bool (is_due c.times ((reading_behind c host is).now + 1) ((reading_behind c host is).work s))) [
      | inr off ↦ off
      | inl due ↦ elim (cases_Bool (is_unanswered c.times ((reading_behind c host is).work s))) [
        | inl late ↦
            let fails = unanswered_works_fail c host is Ticked s call at (record { tick = refl; due = due; unanswered = late }) in
            absurd (never_both (spared.doing (reading_behind c host (Ticked ∷ is)).view s) call call (answers_given.Refused (failure_of call)) still
            (over_doing ((reading_behind c host (Ticked ∷ is)).view.procs s) call (answers_given.Refused (failure_of call)) fails))
        | inr answered ↦
            absurd (both_ways (has_round s (next_entry c host is Ticked)) none (due_works_go_out_again c host is s call at due answered).round)
      ]
    ]

patient_rests : (c : Settings) (host : ℕ) (is : List Input) (i : Input) (s : Pid) (call : Call) → IsAtWork c host is s call →
    spared.doing (reading_behind c host (i ∷ is)).view s ≡ Some (states.Blocked call) → has_round s (next_entry c host is i) ≡ false →
    IsPatient c host is s →
    (tick_after (reading_behind c host is) i < ((reading_behind c host is).work s).since + c.times.interval)
    × (((reading_behind c host is).work s).since ≤ tick_after (reading_behind c host is) i)
patient_rests c host is (Called q d) s call at still none before = (before.ahead, before.past)
patient_rests c host is (Collected q) s call at still none before = (before.ahead, before.past)
patient_rests c host is (Delivered u) s call at still none before = (before.ahead, before.past)
patient_rests c host is Ticked s call at still none before =
    let rd = reading_behind c host is in
    let off = not_due c host is s call at still none in
    let apart : rd.now + 1 ≡ (rd.work s).since + c.times.interval →
    ⊥ = λ e. both_ways _ off (eq-eqb (rd.now + 1) ((rd.work s).since + c.times.interval) e) in
    let ahead = before.ahead in
    let past = before.past in (
      elim (cases_lt (rd.now + 1) ((rd.work s).since + c.times.interval)) [
        | inl less ↦ less
        | inr more ↦ absurd (apart (omega arith))
      ],
      omega arith,
    )

patient_on : (c : Settings) (host : ℕ) (is : List Input) (i : Input) (s : Pid) (call : Call) → IsAtWork c host is s call →
    spared.doing (reading_behind c host (i ∷ is)).view s ≡ Some (states.Blocked call) →
    Goes c.times (reading_behind c host is) i s (next_entry c host is i) ((reading_behind c host (i ∷ is)).work s) → IsPatient c host is s →
    0 < c.times.interval → IsPatient c host (i ∷ is) s
patient_on c host is i s call at still (Again tick due since rounds) before interval =
    let rd = reading_behind c host is in
    let now = now_of c host is i ∙ ap (tick_after rd) tick in
    let late = not_late c.times (rd.work s) (and_parts (is_due c.times (rd.now + 1) (rd.work s)) _ due).1 in
    record { past = omega (arith, since, now); ahead = omega (arith, since, now, interval); few = omega (arith, rounds, late) }
patient_on c host is i s call at still (Rests none since rounds) before interval =
    let rd = reading_behind c host is in
    let now = now_of c host is i in
    let rests = patient_rests c host is i s call at still none before in
    let ahead = rests.0 in
    let past = rests.1 in
    let few = before.few in
    record { past = omega (arith, since, now); ahead = omega (arith, since, now); few = omega (arith, rounds) }

-- at work before
was_at_work : (c : Settings) (host : ℕ) (is : List Input) (i : Input) (s : Pid) (call : Call) → IsAtWork c host (i ∷ is) s call →
    spared.doing (reading_behind c host is).view s ≡ Some (states.Blocked call) → IsAtWork c host is s call
was_at_work c host is i s call at before = record {
  waits = record {
    own = at.waits.own.1;
    here = at.waits.here;
    blocked = spared.doing_blocked ((reading_behind c host is).view.procs s) call before;
  };
  work = at.work;
}

patient_next : (c : Settings) (host : ℕ) (is : List Input) (i : Input) (s : Pid) (call : Call) → 0 < c.times.tries → 0 < c.times.interval →
    IsAtWork c host (i ∷ is) s call → (IsAtWork c host is s call → IsPatient c host is s) →
    WasBlocked c host (reading_behind c host is) i s call → IsPatient c host (i ∷ is) s
patient_next c host is i s call tries interval at before (inr begun) =
    patient_base c host is i s tries interval
    (ap (λ b. b || answers (reading_behind c host is).view s (next_entry c host is i) ((reading_behind c host is).work s)
    || restarts s (next_entry c host is i)) begun.0)
patient_next c host is i s call tries interval at before (inl was) = elim (cases_Bool (is_base_next c host is i s)) [
  | inl base ↦ patient_base c host is i s tries interval base
  | inr none ↦
      let then_at = was_at_work c host is i s call at was in
      let goes = subst (Goes c.times (reading_behind c host is) i s (next_entry c host is i)) (sym (work_of c host is i s))
      (goes_on c host (reading_behind c host is) i s none) in
      patient_on c host is i s call then_at (doing_behind c host (i ∷ is) s call at.waits) goes (before then_at) interval
]

pub works_are_patient : WorksArePatient
unfolding reading
works_are_patient c host [] s call tries interval at =
    absurd (first_free c host s call (doing_behind c host [] s call at.waits))
works_are_patient c host (i ∷ is) s call tries interval at =
    let was = was_blocked c host (reading_behind c host is) i s call (own_here c host s at.waits.here)
    (doing_behind c host (i ∷ is) s call at.waits) in
    patient_next c host is i s call tries interval at (works_are_patient c host is s call tries interval) was

-- A tick that is not due.
pub works_rest_until_due : WorksRestUntilDue
unfolding reading reading_after right_entry tick_outcome
works_rest_until_due c host is s call at off =
    let rd = reading_behind c host is in
    let e = right_entry c host rd Ticked in
    let quiet = ap (λ b. b && is_unanswered c.times (rd.work s)) off in
    let still = none_fails c.times (rd.now + 1) rd s call (own_pids c host) rd.view quiet (doing_behind c host is s call at.waits) in
    record {
      none = elim (cases_Bool (has_round s e)) [
        | inl t ↦ absurd (both_ways (is_due c.times (rd.now + 1) (rd.work s)) off
            (and_parts (is_due c.times (rd.now + 1) (rd.work s)) _ (round_by c host rd Ticked s refl refl t).1).0)
        | inr f ↦ f
      ];
      waits = spared.doing_blocked ((view_after c host rd Ticked).procs s) call still;
    }

-- The tick at which a work fails.
last_of : (t : Times) (b : Bool) (since tick rounds : ℕ) → since + t.interval * cond b 1 0 ≡ tick + t.interval * rounds → rounds ≡ t.tries →
    since + t.interval ≡ tick + t.interval * cond b t.tries (t.tries + 1)
last_of t true since tick rounds is all =
    let one : t.interval * 1 ≡ t.interval = grind arith in
    let same : t.interval * rounds ≡ t.interval * t.tries = ap (λ n. t.interval * n) all in
    omega arith
last_of t false since tick rounds is all =
    let none : t.interval * 0 ≡ 0 = grind arith in
    let more : t.interval * (t.tries + 1) ≡ t.interval * t.tries + t.interval = grind arith in
    let same : t.interval * rounds ≡ t.interval * t.tries = ap (λ n. t.interval * n) all in
    omega arith

pub failures_come_in_turn : FailuresComeInTurn
failures_come_in_turn c host earlier first later i s call tries interval since at refused =
    let is = later ++ first ∷ earlier in
    let rd = reading_behind c host is in
    let given_up = failures_come_when_due c host is i s call at refused in
    let patient = works_are_patient c host is s call tries interval at in
    let few = patient.few in
    let late = leb-true c.times.tries (rd.work s).rounds given_up.unanswered in
    let all : (rd.work s).rounds ≡ c.times.tries = omega arith in
    record {
      tick = given_up.tick;
      last = eqb-true (rd.now + 1) ((rd.work s).since + c.times.interval) given_up.due
          ∙ last_of c.times (has_round s (next_entry c host earlier first)) (rd.work s).since (next_entry c host earlier first).tick
          (rd.work s).rounds
          (in_turn c host earlier first later s since) all;
    }

-- no earlier tick is so late
not_before : (t n m : ℕ) → n < m → t * n + t ≤ t * m
not_before t n m less =
    let gap = below_is n m less in
    let there : t * m ≡ t * n + t + t * gap.0 = ap (λ z. t * z) gap.1 ∙ spread t n gap.0 in
    omega arith
  where
    below_is : (n m : ℕ) → n < m → (d : ℕ) × (m ≡ n + 1 + d)
    below_is n m less = (m - (n + 1), omega arith)

    spread : (t n d : ℕ) → t * (n + 1 + d) ≡ t * n + t + t * d
    spread t n d = grind arith

all_rounds : (t : Times) (b : Bool) (since tick rounds now : ℕ) → since + t.interval * cond b 1 0 ≡ tick + t.interval * rounds →
    rounds ≤ t.tries → 0 < t.interval → now < since + t.interval → now + 1 ≡ tick + t.interval * cond b t.tries (t.tries + 1) →
    t.tries ≤ rounds
all_rounds t true since tick rounds now is few some ahead last =
    let one : t.interval * 1 ≡ t.interval = grind arith in
    elim (cases_lt rounds t.tries) [
      | inl less ↦ let more = not_before t.interval rounds t.tries less in absurd (omega arith)
      | inr all ↦ all
    ]
all_rounds t false since tick rounds now is few some ahead last =
    let none : t.interval * 0 ≡ 0 = grind arith in
    let next_one : t.interval * (t.tries + 1) ≡ t.interval * t.tries + t.interval = grind arith in
    elim (cases_lt rounds t.tries) [
      | inl less ↦ let more = not_before t.interval rounds t.tries less in absurd (omega arith)
      | inr all ↦ all
    ]

pub works_fail_in_turn : WorksFailInTurn
works_fail_in_turn c host earlier first later i s call tries interval since at last =
    let is = later ++ first ∷ earlier in
    let rd = reading_behind c host is in
    let e = next_entry c host earlier first in
    let patient = works_are_patient c host is s call tries interval at in
    let turn = in_turn c host earlier first later s since in
    let few = patient.few in
    let late = all_rounds c.times (has_round s e) (rd.work s).since e.tick (rd.work s).rounds rd.now turn few interval patient.ahead last.last in
    let all : (rd.work s).rounds ≡ c.times.tries = omega arith in
    let due : rd.now + 1 ≡ (rd.work s).since + c.times.interval =
    last.last ∙ sym (last_of c.times (has_round s e) (rd.work s).since e.tick (rd.work s).rounds turn all) in
    unanswered_works_fail c host is i s call at (record {
      tick = last.tick;
      due = eq-eqb (rd.now + 1) ((rd.work s).since + c.times.interval) due;
      unanswered = le-leb c.times.tries (rd.work s).rounds late;
    })
