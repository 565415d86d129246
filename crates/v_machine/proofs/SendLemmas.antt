-- Sends.
use Rattle.std.proofs.Common.{◌≡◌, ℕ, ◌+◌, ◌<◌, ◌≤◌, Bool, true, false, cond, not, ◌==◌, ◌&&◌, List, [], ◌∷◌, ◌++◌, length, get_or, set, take, Option, Some, None, IsSome, is_some, unwrap_or, Result, Ok, Err, refl, sym, ap, subst, ◌∙◌, inl, inr, ◌⊎◌, arith, length-set, if◌then◌else◌}
use Rattle.std.proofs.lemmas.Bool.{cases_Bool, both_ways, and_right, eq-eqb, eqb-true, false_from_ne_true}
use Rattle.std.proofs.lemmas.List.{set-set, take_at}
use Rattle.std.proofs.lemmas.Option.{same_Some, slice_get-get_or}
use Rattle.std.specs.List.{list_any, slice_get}
use Rattle.vk_types.specs.Types.{Call, Exchange, Message, Name, Observation, Pid, Process, State}
use Rattle.vk_base.specs.declared.answer.Refusal.TheVariants as refusals
use Rattle.vk_base.specs.declared.call.Call.TheVariants as calls
use Rattle.vk_base.specs.declared.kernel.Stage.TheVariants as stages
use Rattle.vk_base.specs.declared.kernel.State.TheVariants as states
use Rattle.vk_base.specs.Calls.{Effect, first_that_holds, tests_of, sent, sent_exchange}
use Rattle.vk_base.specs.Kernel.{◌>>=◌, Kernel, name_of, same_name, is_ready, is_live, is_queued, is_queued_at, is_at_target, is_posted, holds_of, put_process, put_exchange, with_state}
use Rattle.vk_base.specs.Messages.{segment_of}
use Rattle.vk_base.specs.Pids.{same_pid, same_host}
use Rattle.vk_base.specs.Ranges.{lies_in}
use Rattle.v_laws.specs.Sound.{IsSound}
use Rattle.v_laws.proofs.Tables.{same_pid_is, same_name_is, put_exchange_at, put_exchange_other, put_process_here, same_name_self}
use Rattle.v_laws.proofs.Without.{without_none}
use Rattle.v_machine.specs.declared.tables.latest.Latest.{Latest}
use Rattle.v_machine.specs.declared.tables.Store.{Store}
use Rattle.v_machine.specs.declared.refusal.ApplyRefusal.{ApplyRefusal}
use Rattle.v_machine.specs.declared.refusal.ApplyRefusal.TheVariants as refused
use Rattle.v_machine.specs.declared.calls.response.Response.{Response}
use Rattle.v_laws.specs.Sizes.{IsSized}
use Rattle.v_machine.specs.Kept.{IsKept, IsIndexed, IsAt, IsWaiting, IsLatest, kernel_in, latest_by, queued_at}
use Rattle.v_machine.specs.Latest.{latest_in}
use Rattle.v_machine.specs.Places.{place_in, at_place, list_at}
use Rattle.v_machine.specs.Rules.{Stays, posted, Answers, Judges, judged, seen_result}
use Rattle.v_machine.specs.Tables.{Tables, kernel_of, exchanges_by}
use Rattle.v_machine.proofs.Arrivals.{Others, not_waiting, indexed_arrived}
use Rattle.v_machine.proofs.KernelLemmas.{set_self}
use Rattle.v_machine.proofs.PlaceLemmas.{get-set_same, get-set_other}
use Rattle.v_machine.proofs.Stores.{is_at}
use Rattle.v_machine.proofs.Indexes.{alike_narrower, same_stage, waiting_same, list_at-set_same, list_at-set_other, list_at_is}

-- the numbers of hosts after numbers of one place are put that are the same
by_place : (latest : List (List Latest)) (at : ℕ) (old new : List Latest) (o : Option ℕ) → at < length latest → old ≡ get_or latest at old →
    ((h : ℕ) → latest_in new h ≡ latest_in old h) → (h : ℕ) →
    latest_in (unwrap_or (o >>= slice_get (set latest at new)) []) h ≡ latest_in (unwrap_or (o >>= slice_get latest) []) h
by_place latest at old new None low there same h = refl
by_place latest at old new (Some to) low there same h = elim (cases_Bool (to == at)) [
  | inl t ↦
      let one = eqb-true to at t in
      ap (λ i. latest_in (unwrap_or (slice_get (set latest at new) i) []) h) one
      ∙ ap (λ o. latest_in (unwrap_or o []) h) (get-set_same latest at new low)
      ∙ same h
      ∙ ap (λ o. latest_in (unwrap_or o []) h) (ap Some there ∙ sym (slice_get-get_or latest at old low))
      ∙ ap (λ i. latest_in (unwrap_or (slice_get latest i) []) h) (sym one)
  | inr f ↦ ap (λ o. latest_in (unwrap_or o []) h) (get-set_other latest at to new (λ e. both_ways (to == at) f (eq-eqb to at e)))
]

pub latest-same : (pids : List Pid) (latest : List (List Latest)) (at : ℕ) (old new : List Latest) → at < length latest →
    old ≡ get_or latest at old → ((h : ℕ) → latest_in new h ≡ latest_in old h) → (q : Pid) (h : ℕ) →
    latest_by pids (set latest at new) q h ≡ latest_by pids latest q h
unfolding at_place
latest-same pids latest at old new low there same q h = by_place latest at old new (place_in pids q) low there same h

-- what holds of a store holds of one that stands for the same tables
pub kept_stays : (s t : Store) → Stays s t → IsKept s → IsKept t
kept_stays s t st kept =
    let same : kernel_in t ≡ kernel_in s = ap kernel_of (st.tables 0) in
    record {
      indexed = st.indexed;
      sound = subst IsSound (sym same) kept.sound;
      size = kept.size;
      sized = subst (IsSized kept.size) (sym same) kept.sized;
    }

pub at_stays : (s t : Store) (pid : Pid) (at : ℕ) → Stays s t → IsAt s pid at → IsAt t pid at
at_stays s t pid at st here = is_at t pid at st.indexed (ap (λ (x : Tables). place_in x.pids pid) (st.tables 0) ∙ here.place)

pub stays_on : (s t u : Store) → Stays s t → Stays t u → Stays s u
stays_on s t u first second = record { tables = λ noted. second.tables noted ∙ first.tables noted; indexed = second.indexed }

pub answers_on : (o : Option Effect) (noted room : ℕ) (s t u : Store) (r : Result (Option Observation) ApplyRefusal) → Stays s t →
    Answers o noted room t u r → Answers o noted room s u r
answers_on o noted room s t u (Ok seen) st a = a
answers_on o noted room s t u (Err refused.NotAllowed) st a = (a.0, stays_on s t u st a.1)
answers_on o noted room s t u (Err refused.Limit) st a = (a.0, a.1, stays_on s t u st a.2)
answers_on o noted room s t u (Err refused.NoMemory) st a = (a.0, a.1, stays_on s t u st a.2)

pub judges_on : (pid : Pid) (c : Call) (s t u : Store) (r : Result Response ApplyRefusal) → Stays s t → Judges pid c t u r →
    Judges pid c s u r
judges_on pid c s t u r st judges = λ p there ready.
    let same : kernel_in t ≡ kernel_in s = ap kernel_of (st.tables 0) in
    answers_on (judged (kernel_in s) pid p c) 0 0 s t u (seen_result pid c r) st
    (subst (λ k. Answers (judged k pid p c) 0 0 t u (seen_result pid c r)) same
    (judges p (ap (λ (k : Kernel). k.procs pid) same ∙ there) ready))

-- a store whose numbers of hosts are the same stands for the same tables
pub stays_alike : (s t : Store) → t.places ≡ s.places → t.procs.items ≡ s.procs.items → t.sends.items ≡ s.sends.items →
    t.asked.items ≡ s.asked.items → t.names.items ≡ s.names.items → t.arrived ≡ s.arrived → t.queues.items ≡ s.queues.items →
    length t.latest.items ≡ length s.latest.items →
    ((q : Pid) (h : ℕ) → latest_by t.places t.latest.items q h ≡ latest_by s.places s.latest.items q h) → IsIndexed s → Stays s t
stays_alike s t places procs sends asked names arrived queues latest numbers old =
    let exchanges : exchanges_by t.places t.sends.items ≡ exchanges_by s.places s.sends.items = λ i. exchanges_by (places i) (sends i) in
    record {
      tables = λ noted i. record {
        pids = places i;
        procs = procs i;
        sends = sends i;
        asked = asked i;
        names = names i;
        arrived = arrived i;
        noted = noted;
      };
      indexed = record {
        procs = ap length procs ∙ old.procs ∙ sym (ap length places);
        sends = ap length sends ∙ old.sends ∙ sym (ap length places);
        asked = ap length asked ∙ old.asked ∙ sym (ap length places);
        queues = ap length queues ∙ old.queues ∙ sym (ap length places);
        latest = latest ∙ old.latest ∙ sym (ap length places);
        waiting = λ r there.
            let was = old.waiting r (subst (λ ps. IsSome (place_in ps r)) places there) in
            let names : list_at t.places t.queues.items r ≡ list_at s.places s.queues.items r = λ i. list_at (places i) (queues i) r in
            subst (λ ns. IsWaiting (exchanges_by t.places t.sends.items) t.arrived r ns) (sym names)
            (subst (λ a. IsWaiting (exchanges_by t.places t.sends.items) a r (list_at s.places s.queues.items r)) (sym arrived)
            (subst (λ f. IsWaiting f s.arrived r (list_at s.places s.queues.items r)) (sym exchanges) was));
        low = λ sender host.
            let was = old.low sender host in
            let number = numbers sender host in
            let count = ap (λ (ss : List Exchange). length ss) (λ i. list_at (places i) (sends i) sender) in
            omega arith;
        open_last = λ n y there.
            let was = old.open_last n y (ap (λ f. f n) (sym exchanges) ∙ there) in
            let number = numbers n.sender y.target.host in
            record { live = λ u. was.live u ∙ sym number; posted = λ u. let low = was.posted u in omega arith };
      };
    }

pub ready_is_not_blocked : (s : State) (c : Call) → is_ready s ≡ true → s ≡ states.Blocked c → ⊥
ready_is_not_blocked s c t is = both_ways false refl (ap is_ready (sym is) ∙ t)

-- A Send to a process of the same host.
module _ (s : Store) (pid : Pid) (at to : ℕ) (p : Process) (x : Exchange) (kept : IsKept s) (here : IsAt s pid at)
    (there : IsAt s x.at to) (local : same_host pid x.target ≡ true) (queued : is_queued x.stage ≡ true)
    (at_pid : (kernel_in s).procs pid ≡ Some p) (ready : is_ready p.state ≡ true) where
  fresh : (kernel_in s).exchanges (name_of pid (p.sends + 1)) ≡ None
  fresh = by_option ((kernel_in s).exchanges (name_of pid (p.sends + 1))) refl
    where
      by_option : (o : Option Exchange) → (kernel_in s).exchanges (name_of pid (p.sends + 1)) ≡ o → o ≡ None
      by_option None is = refl
      by_option (Some e) is =
          let begun = kept.sound.begun (name_of pid (p.sends + 1)) e is in
          let last : p.sends + 1 ≤ p.sends =
          subst (λ (b : Process). p.sends + 1 ≤ b.sends) (same_Some begun.process p (sym begun.is ∙ at_pid)) begun.last in
          absurd (omega arith)

  pub new : list_any (same_name (name_of pid (p.sends + 1))) s.arrived ≡ false
  new = false_from_ne_true (list_any (same_name (name_of pid (p.sends + 1))) s.arrived)
      (λ t. is_there (kernel_in s).exchanges (kept.sound.known (name_of pid (p.sends + 1)) t))
    where
      is_there : (exchanges : Name → Option Exchange) → IsSome ((kernel_in s).exchanges (name_of pid (p.sends + 1))) → ⊥
      is_there exchanges t = both_ways false refl (ap is_some (sym fresh) ∙ t)

  -- the names that are kept for the target's queue
  absent : (names : List Name) → names ≡ get_or s.queues.items to names →
      list_any (same_name (name_of pid (p.sends + 1))) names ≡ false
  absent names waits =
      not_waiting (exchanges_by s.places s.sends.items) s.arrived (name_of pid (p.sends + 1)) x.at names new
      (subst (IsWaiting (exchanges_by s.places s.sends.items) s.arrived x.at)
      (list_at_is s.places s.queues.items x.at to names there.place there.queues waits)
      (kept.indexed.waiting x.at (ap is_some there.place)))

  others : Others (exchanges_by s.places s.sends.items) (put_exchange (exchanges_by s.places s.sends.items) (name_of pid (p.sends + 1)) x)
      (name_of pid (p.sends + 1))
  others n y f is =
      let was = sym (put_exchange_other (exchanges_by s.places s.sends.items) (name_of pid (p.sends + 1)) x n f) ∙ is in
      (y, was, refl, same_stage y.stage, refl)

  -- no other exchange with its host is open or posted
  rest : (n : Name) (y : Exchange) → same_name n (name_of pid (p.sends + 1)) ≡ false →
      put_exchange (exchanges_by s.places s.sends.items) (name_of pid (p.sends + 1)) x n ≡ Some y → same_pid n.sender pid ≡ true →
      (y.target.host == x.target.host) ≡ true →
      (is_at_target y.stage ≡ true → ⊥) × (is_posted y.stage ≡ true → p.sends + 1 ≤ n.number)
  rest n y f is mine host =
      let was : exchanges_by s.places s.sends.items n ≡ Some y =
      sym (put_exchange_other (exchanges_by s.places s.sends.items) (name_of pid (p.sends + 1)) x n f) ∙ is in
      let sender = same_pid_is n.sender pid mine in
      let near : same_host n.sender y.target ≡ true =
      eq-eqb n.sender.host y.target.host (ap (λ (q : Pid). q.host) sender ∙ eqb-true pid.host x.target.host local
      ∙ sym (eqb-true y.target.host x.target.host host)) in (
        λ u.
            let w = kept.sound.awaited n y was near u in
            let same : w.process ≡ p = same_Some w.process p (sym w.is ∙ ap (kernel_in s).procs sender ∙ at_pid) in
            ready_is_not_blocked p.state (calls.Send y.target y.message) ready (ap (λ (q : Process). q.state) (sym same) ∙ w.blocked),
        λ u. absurd (both_ways (same_host n.sender y.target) (kept.sound.posted n y was u).remote near),
      )

  pub indexed_posted : (t : Store) (s' : List Exchange) (names : List Name) (l0 l2 : List Latest) → t.places ≡ s.places →
      length t.procs.items ≡ length s.procs.items → length t.asked.items ≡ length s.asked.items →
      t.sends.items ≡ set s.sends.items at s' → length s' ≡ p.sends + 1 → length (list_at s.places s.sends.items pid) ≤ length s' →
      exchanges_by s.places (set s.sends.items at s') ≡ put_exchange (exchanges_by s.places s.sends.items) (name_of pid (p.sends + 1))
      x →
      t.arrived ≡ s.arrived ++ name_of pid (p.sends + 1) ∷ [] →
      names ≡ get_or s.queues.items to names → t.queues.items ≡ set s.queues.items to (names ++ name_of pid (p.sends + 1) ∷ []) →
      l0 ≡ get_or s.latest.items at l0 → t.latest.items ≡ set s.latest.items at l2 →
      ((h : ℕ) → latest_in l2 h ≡ (if h == pid.host then p.sends + 1 else latest_in l0 h)) →
      IsIndexed t
  indexed_posted t s' names l0 l2 places procs asked sends grown longer exchanges arrived waits queues old_number latest number =
      indexed_arrived s t pid at to (p.sends + 1) x (put_exchange (exchanges_by s.places s.sends.items) (name_of pid (p.sends + 1)) x) here
      there kept.indexed
      (put_exchange_at (exchanges_by s.places s.sends.items) (name_of pid (p.sends + 1)) x (name_of pid (p.sends + 1))
      (same_name_self (name_of pid (p.sends + 1)))) queued others rest
      s' names l0 l2 places procs asked sends (omega arith) longer exchanges
      (arrived ∙ ap (λ ns. ns ++ name_of pid (p.sends + 1) ∷ []) (sym (without_none (name_of pid (p.sends + 1)) s.arrived new)))
      (absent names waits) waits queues old_number latest
      (λ h. number h ∙ ap (λ z. if h == z then p.sends + 1 else latest_in l0 h) (eqb-true pid.host x.target.host local))

-- a name that was pushed behind a queue is taken away again
pub truncated : (qs : List (List Name)) (to len : ℕ) (q0 q0' q1 q1' q2 : List Name) (n : Name) → to < length qs → q0 ≡ get_or qs to q0 →
    q0' ≡ get_or qs to q0' → len ≡ length q0' → q1 ≡ q0 ++ n ∷ [] → q1' ≡ get_or (set qs to q1) to q1' → q2 ≡ take len q1' →
    set (set qs to q1) to q2 ≡ qs
truncated qs to len q0 q0' q1 q1' q2 n low is is' count pushed read cut =
    let one : q0' ≡ q0 = same_Some q0' q0 (sym (slice_get-get_or qs to q0' low ∙ ap Some (sym is')) ∙ slice_get-get_or qs to q0 low ∙ ap Some (sym is)) in
    let again : q1' ≡ q1 = same_Some q1' q1 (ap Some read
    ∙ sym (slice_get-get_or (set qs to q1) to q1' (subst (λ m. to < m) (sym (length-set qs to q1)) low)) ∙ get-set_same qs to q1 low) in
    let back : q2 ≡ q0 = cut ∙ ap (take len) (again ∙ pushed) ∙ ap (λ m. take m (q0 ++ n ∷ [])) (count ∙ ap length one)
    ∙ take_at q0 (n ∷ []) (length q0) refl in
    set-set qs to q1 q2 ∙ ap (set qs to) back ∙ set_self qs to q0 is

-- The process that has begun a Send is blocked in it.
put_twice_at : (b : Bool) (x y : Process) (o : Option Process) → cond b (Some y) (cond b (Some x) o) ≡ cond b (Some y) o
put_twice_at true x y o = refl
put_twice_at false x y o = refl

pub put_twice : (procs : Pid → Option Process) (pid : Pid) (x y : Process) →
    put_process (put_process procs pid x) pid y ≡ put_process procs pid y
unfolding put_process
put_twice procs pid x y = λ i q. put_twice_at (same_pid q pid) x y (procs q) i

pub sent_is : (k : Kernel) (pid : Pid) (p : Process) (target : Pid) (m : Message) (x : Exchange) → x ≡ sent_exchange pid p target m →
    with_state (posted k pid p x) pid (record p { sends = p.sends + 1 }) (states.Blocked (calls.Send target m)) ≡ sent k pid p target m
unfolding sent
sent_is k pid p target m x is =
    ap (λ (e : Exchange). with_state (posted k pid p e) pid (record p { sends = p.sends + 1 }) (states.Blocked (calls.Send target m))) is
    ∙ ap (λ ps. record (posted k pid p (sent_exchange pid p target m)) { procs = ps })
    (put_twice k.procs pid (record p { sends = p.sends + 1 })
    (record p { state = states.Blocked (calls.Send target m); sends = p.sends + 1 }))

pub posted_there : (k : Kernel) (pid : Pid) (p : Process) (x : Exchange) →
    (posted k pid p x).procs pid ≡ Some (record p { sends = p.sends + 1 })
posted_there k pid p x = put_process_here k.procs pid (record p { sends = p.sends + 1 })

-- the tests of a Send pass
pub send_tests : (k : Kernel) (pid : Pid) (p : Process) (target : Pid) (m : Message) → lies_in (segment_of m) (length p.memory) ≡ true →
    (same_host pid target && not (is_live (k.procs target))) ≡ false → first_that_holds (tests_of k pid p (calls.Send target m)) ≡ None
send_tests k pid p target m lies live = λ i. first_that_holds ((not (lies i), refusals.BadSegment) ∷ (live i, refusals.NoProcess) ∷ [])

-- A Send to a process of another host.
module _ (s : Store) (pid : Pid) (at : ℕ) (p : Process) (x : Exchange) (kept : IsKept s) (here : IsAt s pid at)
    (away : same_host pid x.target ≡ false) (on_way : x.stage ≡ stages.Posted) (at_pid : (kernel_in s).procs pid ≡ Some p) where
  before_is : (n : Name) (y : Exchange) → put_exchange (exchanges_by s.places s.sends.items) (name_of pid (p.sends + 1)) x n ≡ Some y →
      (b : Bool) → same_name n (name_of pid (p.sends + 1)) ≡ b →
      ((x ≡ y) × (n ≡ name_of pid (p.sends + 1))) ⊎ (exchanges_by s.places s.sends.items n ≡ Some y)
  before_is n y is true t = inl (
    same_Some x y (sym
        (put_exchange_at (exchanges_by s.places s.sends.items) (name_of pid (p.sends + 1)) x n t) ∙ is),
    same_name_is n (name_of pid (p.sends + 1)) t,
  )
  before_is n y is false f = inr (sym (put_exchange_other (exchanges_by s.places s.sends.items) (name_of pid (p.sends + 1)) x n f) ∙ is)

  no_queue : (r : Pid) (n : Name) (b : Bool) → same_name n (name_of pid (p.sends + 1)) ≡ b →
      (queued_at (put_exchange (exchanges_by s.places s.sends.items) (name_of pid (p.sends + 1)) x) r n ≡ true) →
      queued_at (exchanges_by s.places s.sends.items) r n ≡ true
  no_queue r n true t u =
      let none : queued_at (put_exchange (exchanges_by s.places s.sends.items) (name_of pid (p.sends + 1)) x) r n ≡ false =
      ap (holds_of (is_queued_at r)) (put_exchange_at (exchanges_by s.places s.sends.items) (name_of pid (p.sends + 1)) x n t)
      ∙ and_right (same_pid x.at r) (is_queued x.stage) (ap is_queued on_way) in
      absurd (both_ways (queued_at (put_exchange (exchanges_by s.places s.sends.items) (name_of pid (p.sends + 1)) x) r n) none u)
  no_queue r n false f u =
      sym (ap (holds_of (is_queued_at r)) (put_exchange_other (exchanges_by s.places s.sends.items) (name_of pid (p.sends + 1)) x n f)) ∙ u

  pub indexed_away : (t : Store) (s' : List Exchange) → t.places ≡ s.places → length t.procs.items ≡ length s.procs.items →
      length t.asked.items ≡ length s.asked.items →
      t.sends.items ≡ set s.sends.items at s' → length s' ≡ p.sends + 1 → length (list_at s.places s.sends.items pid) ≤ p.sends + 1 →
      exchanges_by s.places (set s.sends.items at s') ≡ put_exchange (exchanges_by s.places s.sends.items) (name_of pid (p.sends + 1))
      x →
      t.arrived ≡ s.arrived → t.queues.items ≡ s.queues.items → t.latest.items ≡ s.latest.items → IsIndexed t
  indexed_away t s' places procs asked sends grown longer exchanges arrived queues latest =
      let all : exchanges_by t.places t.sends.items ≡ put_exchange (exchanges_by s.places s.sends.items) (name_of pid (p.sends + 1)) x =
      (λ i. exchanges_by (places i) (sends i)) ∙ exchanges in
      record {
        procs = procs ∙ kept.indexed.procs ∙ sym (ap length places);
        sends = ap length sends ∙ length-set s.sends.items at s' ∙ kept.indexed.sends ∙ sym (ap length places);
        asked = asked ∙ kept.indexed.asked ∙ sym (ap length places);
        queues = ap length queues ∙ kept.indexed.queues ∙ sym (ap length places);
        latest = ap length latest ∙ kept.indexed.latest ∙ sym (ap length places);
        waiting = λ r in_config.
            let was = kept.indexed.waiting r (subst (λ ps. IsSome (place_in ps r)) places in_config) in
            waiting_same _ _ _ _ r _ _ all arrived (λ i. list_at (places i) (queues i) r) (record {
              queue = alike_narrower (queued_at (exchanges_by s.places s.sends.items) r)
                  (queued_at (put_exchange (exchanges_by s.places s.sends.items) (name_of pid (p.sends + 1)) x) r)
                  (λ n. no_queue r n (same_name n (name_of pid (p.sends + 1))) refl) (list_at s.places s.queues.items r) s.arrived
                  was.queue;
              came = was.came;
            });
        low = λ sender host.
            let number : latest_by t.places t.latest.items sender host ≡ latest_by s.places s.latest.items sender host =
            λ i. latest_by (places i) (latest i) sender host in
            let count = ap (λ (ss : List Exchange). length ss) (λ i. list_at (places i) (sends i) sender) in
            let was = kept.indexed.low sender host in
            let more = longer_at s' sender grown longer (cases_Bool (same_pid sender pid)) in
            omega arith;
        open_last = λ n y is.
            let number : latest_by t.places t.latest.items n.sender y.target.host ≡ latest_by s.places s.latest.items n.sender
            y.target.host = λ i. latest_by (places i) (latest i) n.sender y.target.host in
            subst (λ m. IsLatest m n y) (sym number)
            (latest_at n y longer (before_is n y (sym (ap (λ f. f n) all) ∙ is) (same_name n (name_of pid (p.sends + 1))) refl));
      }
    where
      longer_at : (s' : List Exchange) (q : Pid) → length s' ≡ p.sends + 1 → length (list_at s.places s.sends.items pid) ≤ p.sends + 1 →
          (same_pid q pid ≡ true) ⊎ (same_pid q pid ≡ false) →
          length (list_at s.places s.sends.items q) ≤ length (list_at s.places (set s.sends.items at s') q)
      longer_at s' q grown longer (inl u) =
          subst (λ z. length (list_at s.places s.sends.items z) ≤ length (list_at s.places (set s.sends.items at s') z))
          (sym (same_pid_is q pid u))
          (let count = ap length (list_at-set_same s.places s.sends.items pid at s' here.place here.sends) in omega arith)
      longer_at s' q grown longer (inr f) = let count =
          ap (λ (ss : List Exchange). length ss) (list_at-set_other s.places s.sends.items pid q at s' here.place f) in omega arith

      latest_at : (n : Name) (y : Exchange) → length (list_at s.places s.sends.items pid) ≤ p.sends + 1 →
          ((x ≡ y) × (n ≡ name_of pid (p.sends + 1))) ⊎ (exchanges_by s.places s.sends.items n ≡ Some y) →
          IsLatest (latest_by s.places s.latest.items n.sender y.target.host) n y
      latest_at n y longer (inr is) = kept.indexed.open_last n y is
      latest_at n y longer (inl same) =
          let was = kept.indexed.low pid y.target.host in
          let low : latest_by s.places s.latest.items pid y.target.host ≤ p.sends + 1 = omega arith in
          subst (λ (m : Name). IsLatest (latest_by s.places s.latest.items m.sender y.target.host) m y) (sym same.1) (record {
            live = λ u. absurd
                (both_ways (is_at_target y.stage) (ap (λ (z : Exchange). is_at_target z.stage) (sym same.0) ∙ ap is_at_target on_way) u);
            posted = λ u. low;
          })
