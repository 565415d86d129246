-- No tick ends a work before it came so often as a work has patience for: each round but the first of a base waits for an interval.
use Rattle.std.proofs.Common.{◌≡◌, ℕ, ◌+◌, ◌*◌, ◌<◌, ◌≤◌, ◌&&◌, ◌||◌, not, nat_le, eqb-true, Bool, true, false, Option, None, List, [], ◌∷◌, ◌++◌, cond, if◌then◌else◌, refl, sym, ap, ◌∙◌, subst, arith, append_assoc, append-nil}
use Rattle.std.specs.List.{filter_map, list_any}
use Rattle.std.proofs.lemmas.Bool.{and_parts, false_from_ne_true}
use native.Mathlib.Nat.{add-mul, mul-le-mul_right, one-mul, zero-mul}
use Rattle.std.specs.List.{flat_map}
use Rattle.std.proofs.lemmas.Bool.Decides.{nat_tests}
use Rattle.vk_join.proofs.Joins.{told_entry}
use Rattle.vk_types.specs.Types.{EventAnswer, Pid, StationEvent, Step, Times}
use Rattle.vk_base.specs.Pids.{same_pid}
use Rattle.vk_rules.specs.CallOutcomes.{packets_of, sent_again}
use Rattle.vk_rules.specs.Works.{answers}
use Rattle.vk_rules.proofs.Lists.{each_weaker}
use Rattle.vk_base.specs.declared.step.Step.TheVariants as steps
use Rattle.vk_base.specs.Kernel.{Kernel}
use Rattle.vk_base.specs.Packets.{Packet}
use Rattle.vk_base.specs.Settings.{Settings}
use Rattle.vk_base.specs.Steps.{next, only_if}
use Rattle.vk_rules.specs.CallOutcomes.{failed, failing_step}
unfoldable use Rattle.vk_rules.specs.CallOutcomes.{call_outcome, collect_outcome, tick_outcome}
use Rattle.vk_rules.specs.Each.{Each}
use Rattle.vk_rules.specs.Entries.{Entry, Input, Called, Collected, Ticked, Delivered, is_tick, is_begun}
use Rattle.vk_rules.specs.Frames.{Frame, frames_of}
use Rattle.vk_rules.specs.Readings.{Reading}
unfoldable use Rattle.vk_rules.specs.Readings.{reading, reading_after}
use Rattle.vk_rules.specs.Right.{answer_to, entry_of, outcome_of, own_pids}
unfoldable use Rattle.vk_rules.specs.Right.{right_entry}
use Rattle.vk_rules.specs.Works.{Work, begins, has_round, is_base, is_due, is_of_round, is_unanswered, restarts}
unfoldable use Rattle.vk_rules.specs.Works.{work_after}
use Rattle.v_ages.proofs.Outcomes.{OfCall, Other, First, OfTick, call_packets, tick_packets}
use Rattle.v_ended.specs.Ends.{NoTickEnds}
use Rattle.v_run.specs.Outcomes.{ticks_in}
use Rattle.v_run.specs.Passages.{fresh_station}
use Rattle.vk_host.specs.Values.{input_of}
use Rattle.vk_port.specs.Stations.{StationHistory, entries_at}
use Rattle.vk_port.proofs.Histories.{entries_more}

-- what one of a list shows
any_shows : {A : Type 0} (test : A → Bool) (X : Type 0) (xs : List A) → Each (λ x. test x ≡ true → X) xs → list_any test xs ≡ true → X
any_shows test X [] each any = absurd (cc any)
any_shows test X (x ∷ xs) each any = by (test x) refl any (any_shows test X xs each.1)
  where
    by : (b : Bool) → test x ≡ b → (b || list_any test xs) ≡ true → (list_any test xs ≡ true → X) → X
    by true is any rest = each.0 is
    by false is any rest = rest any

-- the frames of an event have its packets
frames_any : (test : Packet → Bool) (host stamp number event output : ℕ) (ps : List Packet)
    → list_any (λ (f : Frame). test f.packet) (frames_of host stamp number event output ps) ≡ list_any test ps
frames_any test host stamp number event output [] = refl
frames_any test host stamp number event output (p ∷ ps) = ap (λ b. test p || b) (frames_any test host stamp number event (output + 1) ps)

round_is : (c : Settings) (host : ℕ) (r : Reading) (i : Input) (pid : Pid)
    → has_round pid (right_entry c host r i) ≡ list_any (is_of_round pid) (outcome_of c host r i (answer_to c host r i)).packets
unfolding right_entry
round_is c host r i pid = frames_any (is_of_round pid) host _ _ _ 1 (outcome_of c host r i (answer_to c host r i)).packets

-- the work has been given its rounds in good time
abbrev pub IsPatient : Times → ℕ → Work → Type 0
IsPatient t now w = (w.rounds * t.interval ≤ w.since + t.interval) × (w.since ≤ now)

numbers_after : (interval rounds since now tick : ℕ) (b h : Bool) → now ≤ tick → (b ≡ false → h ≡ true → tick ≡ since + interval)
    → rounds * interval ≤ since + interval → since ≤ now
    → (((if b then 0 else rounds) + (if h then 1 else 0)) * interval ≤ (if b || h then tick else since) + interval)
    × ((if b || h then tick else since) ≤ tick)
numbers_after interval rounds since now tick true true later due few low =
    (omega (arith, add-mul 0 1 interval, zero-mul interval, one-mul interval), omega arith)
numbers_after interval rounds since now tick true false later due few low =
    (omega (arith, add-mul 0 0 interval, zero-mul interval), omega arith)
numbers_after interval rounds since now tick false true later due few low =
    let is = due refl refl in (omega (arith, add-mul rounds 1 interval, one-mul interval), omega arith)
numbers_after interval rounds since now tick false false later due few low =
    (omega (arith, add-mul rounds 0 interval, zero-mul interval), omega arith)

module _ (c : Settings) (host : ℕ) (r : Reading) (pid : Pid) where
  base_of : (e : Entry) → begins pid e ≡ true → is_base r.view pid e (r.work pid) ≡ true
  base_of e is = ap (λ b. (b || answers r.view pid e (r.work pid)) || restarts pid e) is

  base_last : (e : Entry) → restarts pid e ≡ true → is_base r.view pid e (r.work pid) ≡ true
  base_last e is = or_last (begins pid e) (answers r.view pid e (r.work pid)) (restarts pid e) is
    where
      or_last : (a b c : Bool) → c ≡ true → (a || b || c) ≡ true
      or_last true b c is = refl
      or_last false true c is = refl
      or_last false false c is = is

  of_call : (q : Pid) (after : Kernel) (begun : Bool) (p : Packet) → OfCall after q pid 0 begun p → is_of_round pid p ≡ true
      → (begun ≡ true) × (same_pid q pid ≡ true)
  of_call q after begun p (Other x) is = absurd (x.of is)
  of_call q after begun p (First b x) is = (b, x.of is)

  abbrev E : Input → Entry
  E i = right_entry c host r i

  contradicts : (b : Bool) → b ≡ false → b ≡ true → ⊥
  contradicts b none some = cc (none, some)

  begins_so : (q : Pid) (a : EventAnswer) → (is_begun a ≡ true) × (same_pid q pid ≡ true) → (same_pid q pid && is_begun a) ≡ true
  begins_so q a is = ap (λ b. b && is_begun a) is.1 ∙ is.0

  -- a round that is no base is that of a tick which is due
  due_round : (i : Input) → is_base r.view pid (right_entry c host r i) (r.work pid) ≡ false
      → list_any (is_of_round pid) (outcome_of c host r i (answer_to c host r i)).packets ≡ true
      → (right_entry c host r i).tick ≡ (r.work pid).since + c.times.interval
  unfolding right_entry call_outcome collect_outcome tick_outcome
  due_round (Called q call) no_base any =
      let a = answer_to c host r (Called q call) in
      let after = next r.view (steps.Call q call) in
      let it = any_shows (is_of_round pid) ((is_begun a ≡ true) × (same_pid q pid ≡ true)) (packets_of r.view after r.slots q call a)
      (each_weaker (OfCall after q pid 0 (is_begun a)) _ _ (call_packets r.view after r.slots q call a pid 0)
      (λ p x is. of_call q after (is_begun a) p x is)) any in
      absurd (contradicts _ no_base (base_of (E (Called q call)) (begins_so q a it)))
  due_round (Collected q) no_base any = absurd (cc any)
  due_round Ticked no_base any =
      let it = any_shows (is_of_round pid) ((is_due c.times (r.now + 1) (r.work pid) && not (is_unanswered c.times (r.work pid))) ≡ true)
      (flat_map (sent_again c.times (r.now + 1) r) (own_pids c host))
      (each_weaker (OfTick c.times (r.now + 1) r pid 0) _ _ (tick_packets c.times (r.now + 1) r (own_pids c host) pid 0) (λ p x.
      x.of)) any in
      let parts = and_parts (is_due c.times (r.now + 1) (r.work pid)) (not (is_unanswered c.times (r.work pid))) it in
      eqb-true (r.now + 1) ((r.work pid).since + c.times.interval) parts.0
  due_round (Delivered u) no_base any =
      absurd (contradicts _ no_base (base_last (E (Delivered u)) (round_is c host r (Delivered u) pid ∙ any)))

  later_tick : (i : Input) → r.now ≤ (right_entry c host r i).tick
  unfolding right_entry
  later_tick (Called q call) = omega arith
  later_tick (Collected q) = omega arith
  later_tick Ticked = omega arith
  later_tick (Delivered u) = omega arith

  pub patient_step : (i : Input) → IsPatient c.times r.now (r.work pid)
      → IsPatient c.times (right_entry c host r i).tick (work_after r.view pid (right_entry c host r i) (r.work pid))
  unfolding work_after
  patient_step i patient =
      numbers_after c.times.interval (r.work pid).rounds (r.work pid).since r.now (right_entry c host r i).tick
      (is_base r.view pid (right_entry c host r i) (r.work pid)) (has_round pid (right_entry c host r i)) (later_tick i)
      (λ no_base has. due_round i no_base (sym (round_is c host r i pid) ∙ has)) patient.0 patient.1

-- no work is unanswered so early
early_by : (t : Times) (now : ℕ) (w : Work) → IsPatient t now w → now + 1 < t.tries * t.interval
    → (is_due t (now + 1) w && is_unanswered t w) ≡ true → ⊥
early_by t now w patient early both =
    let parts = and_parts (is_due t (now + 1) w) (is_unanswered t w) both in
    let due : now + 1 ≡ w.since + t.interval = eqb-true (now + 1) (w.since + t.interval) parts.0 in
    let many : t.tries ≤ w.rounds = below_of t.tries w.rounds parts.1 in
    let more : t.tries * t.interval ≤ w.rounds * t.interval = mul-le-mul_right t.interval many in
    let few = patient.0 in
    absurd (omega arith)
  where
    below_of : (m n : ℕ) → nat_le m n ≡ true → m ≤ n
    below_of m n is = grind (arith, nat_tests)

none_failed : (c : Settings) (r : Reading) (pids : List Pid) → ((pid : Pid) → IsPatient c.times r.now (r.work pid))
    → r.now + 1 < c.times.tries * c.times.interval → filter_map (failed c.times (r.now + 1) r) pids ≡ []
none_failed c r [] patient early = refl
none_failed c r (pid ∷ pids) patient early =
    let no_fail : failed c.times (r.now + 1) r pid ≡ None =
    ap (λ b. only_if b (failing_step r.view pid))
    (false_from_ne_true (is_due c.times (r.now + 1) (r.work pid) && is_unanswered c.times (r.work pid)) (early_by c.times r.now (r.work pid)
    (patient pid) early)) in
    filter_none (failed c.times (r.now + 1) r) pid pids no_fail ∙ none_failed c r pids patient early
  where
    filter_none : (f : Pid → Option Step) (x : Pid) (xs : List Pid) → f x ≡ None → filter_map f (x ∷ xs) ≡ filter_map f xs
    filter_none f x xs none = ap (λ (o : Option Step). Rattle.std.specs.List.cons_option o (filter_map f xs)) none

-- a tick that comes so early lists no step
pub early_tick : (c : Settings) (host : ℕ) (r : Reading) → ((pid : Pid) → IsPatient c.times r.now (r.work pid))
    → r.now + 1 < c.times.tries * c.times.interval → (right_entry c host r Ticked).steps ≡ []
unfolding right_entry tick_outcome
early_tick c host r patient early = none_failed c r (own_pids c host) patient early

-- Entries that were made one behind the other.
abbrev pub IsBuilt : Settings → ℕ → List Entry → Type 0
IsBuilt c host [] = Unit {0}
IsBuilt c host (e ∷ es) = ((i : Input) × (e ≡ entry_of c host es i)) × IsBuilt c host es

first_patient : (t : Times) → IsPatient t 0 (record { since = 0; rounds = 0; acknowledged = 0; received = 0; fresh = false })
first_patient t = (omega (arith, zero-mul t.interval), omega arith)

pub all_patient : (c : Settings) (host : ℕ) (es : List Entry) → IsBuilt c host es → (pid : Pid)
    → IsPatient c.times (reading c host es).now ((reading c host es).work pid)
unfolding reading reading_after
all_patient c host [] built pid = first_patient c.times
all_patient c host (e ∷ es) built pid =
    subst (λ (x : Entry). IsPatient c.times x.tick (work_after (reading c host es).view pid x ((reading c host es).work pid)))
    (sym built.0.1) (patient_step c host (reading c host es) pid built.0.0 (all_patient c host es built.1 pid))

tick_more : (c : Settings) (host : ℕ) (r : Reading) (i : Input)
    → (right_entry c host r i).tick ≡ cond (is_tick (right_entry c host r i).input) 1 0 + r.now
unfolding right_entry
tick_more c host r (Called q call) = omega arith
tick_more c host r (Collected q) = omega arith
tick_more c host r Ticked = omega arith
tick_more c host r (Delivered u) = omega arith

pub now_is : (c : Settings) (host : ℕ) (es : List Entry) → IsBuilt c host es → (reading c host es).now ≡ ticks_in es
unfolding reading reading_after
now_is c host [] built = refl
now_is c host (e ∷ es) built =
    let rest = now_is c host es built.1 in
    let one : e.tick ≡ cond (is_tick e.input) 1 0 + (reading c host es).now =
    subst (λ (x : Entry). x.tick
    ≡ cond (is_tick x.input) 1 0 + (reading c host es).now) (sym built.0.1) (tick_more c host (reading c host es) built.0.0) in
    omega arith

-- Where a station ticks less often than a work has patience for, no tick lists a step.
early_entry : (c : Settings) (host : ℕ) (es : List Entry) → IsBuilt c host es → ticks_in es + 1 < c.times.tries * c.times.interval
    → (i : Input)
    → is_tick i ≡ true → (entry_of c host es i).steps ≡ []
early_entry c host es built early (Called q call) tick = absurd (cc tick)
early_entry c host es built early (Collected q) tick = absurd (cc tick)
early_entry c host es built early Ticked tick =
    early_tick c host (reading c host es) (all_patient c host es built)
    (let now = now_is c host es built in omega arith)
early_entry c host es built early (Delivered u) tick = absurd (cc tick)

ticks_parts : (c : Settings) (host : ℕ) (e : Entry) (es : List Entry) (i : Input) → e ≡ entry_of c host es i → is_tick e.input ≡ true
    → ticks_in (e ∷ es) ≡ ticks_in es + 1
ticks_parts c host e es i is tick = let one : ◌≡◌ {A = ℕ} (cond (is_tick e.input) 1 0) 1 = ap (λ (b : Bool). cond {A = ℕ} b 1 0) tick in
    omega arith

one_early : (c : Settings) (host : ℕ) (e : Entry) (es : List Entry) → IsBuilt c host (e ∷ es)
    → ticks_in (e ∷ es) < c.times.tries * c.times.interval → is_tick e.input ≡ true → e.steps ≡ []
one_early c host e es built early tick =
    let i = built.0.0 in
    let more = ticks_parts c host e es i built.0.1 tick in
    let input : e.input ≡ i = ap (λ (x : Entry). x.input) built.0.1 ∙ told_entry c host es i in
    ap (λ (x : Entry). x.steps) built.0.1
    ∙ early_entry c host es built.1 (omega arith) i (ap is_tick (sym input) ∙ tick)

pub no_tick_ends : (c : Settings) (host : ℕ) (es : List Entry) → IsBuilt c host es → ticks_in es < c.times.tries * c.times.interval
    → NoTickEnds es
no_tick_ends c host [] built early = tt
no_tick_ends c host (e ∷ es) built early =
    (one_early c host e es built early, no_tick_ends c host es built.1 (omega arith))

-- the entries of a history were made one behind the other
built_more : (o : StationHistory) (acc xs : List (ℕ × StationEvent)) → IsBuilt o.config o.host (entries_at o acc)
    → IsBuilt o.config o.host (entries_at o (acc ++ xs))
built_more o acc [] built = subst (λ l. IsBuilt o.config o.host (entries_at o l)) (sym (append-nil acc)) built
built_more o acc (x ∷ xs) built =
    let next : IsBuilt o.config o.host (entries_at o (acc ++ x ∷ [])) =
    subst (IsBuilt o.config o.host) (sym (entries_more o acc x)) ((input_of x.1, refl), built) in
    subst (λ l. IsBuilt o.config o.host (entries_at o l)) (append_assoc acc (x ∷ []) xs) (built_more o (acc ++ x ∷ []) xs next)

pub built_at : (c : Settings) (host : ℕ) (history : List (ℕ × StationEvent)) → IsBuilt c host (entries_at (fresh_station c host) history)
built_at c host history = built_more (fresh_station c host) [] history tt
