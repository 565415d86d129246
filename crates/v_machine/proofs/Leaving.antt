-- The kernel's tables after an Exit.
use Rattle.std.proofs.Common.{◌≡◌, ℕ, ◌<◌, Bool, true, false, cond, ◌==◌, ◌&&◌, not, List, [], length, get_or, set, filter, refl, sym, ap, subst, ◌∙◌, arith, Option, Some, None, is_some, option_map, unwrap_or, inl, inr, length-set, if◌then◌else◌}
use Rattle.std.proofs.lemmas.Bool.{cases_Bool, both_ways, and_parts, eq-eqb, eqb-true, cond-true, cond-false, false_from_ne_true}
use Rattle.std.proofs.lemmas.List.Elements.{filter_agree}
use Rattle.std.proofs.lemmas.Option.{same_Some, none-some, slice_get-get_or}
use Rattle.std.specs.List.{slice_get}
use Rattle.vk_types.specs.Types.{Exchange, Lookup, Name, Pid, Process, Registration, State}
use Rattle.vk_base.specs.declared.answer.Answer.TheVariants as answers
use Rattle.vk_base.specs.declared.answer.Refusal.TheVariants as refusals
use Rattle.vk_base.specs.declared.call.Call.TheVariants as calls
use Rattle.vk_base.specs.declared.kernel.Stage.TheVariants as stages
use Rattle.vk_base.specs.declared.kernel.State.TheVariants as states
use Rattle.vk_base.specs.Calls.{exited, released, dropped_at, is_message_at, answered}
use Rattle.vk_base.specs.Kernel.{◌>>=◌, Kernel, name_of, holds_of, is_ready, is_at_target, sending, ended, put_process}
use Rattle.vk_base.specs.Pids.{same_pid, same_host}
use Rattle.vk_base.proofs.BoolLemmas.{and_swap}
use Rattle.v_laws.proofs.Tables.{same_pid_is, put_process_at, put_process_other}
use Rattle.v_machine.specs.declared.tables.latest.Latest.{Latest}
use Rattle.v_machine.specs.declared.tables.proc.Proc.{Proc}
use Rattle.v_machine.specs.declared.tables.Store.{Store}
use Rattle.v_machine.specs.Kept.{IsKept, IsAt, IsLatest, IsNoNearer, kernel_in, latest_by}
use Rattle.v_machine.specs.Latest.{latest_in}
use Rattle.v_machine.specs.Leaving.{left, is_left, Leaves, Drops}
use Rattle.v_machine.specs.Lists.{Each, change_numbered}
use Rattle.v_machine.specs.Places.{place_in, at_place, count_at, numbered}
use Rattle.v_machine.specs.Rules.{Goes}
use Rattle.v_machine.specs.Tables.{is_of, process_of, procs_by, exchanges_by, lookups_by, names_by}
use Rattle.v_machine.proofs.Indexes.{indexed_later, same_stage}
use Rattle.v_machine.proofs.Naming.{filter_again}
use Rattle.v_machine.proofs.PlaceLemmas.{place_get, place_low, at_place_is, nowhere, some_at}
use Rattle.v_machine.proofs.TableLemmas.{procs_is, procs_nowhere, procs-put, procs-even, exchanges_is, exchanges_nowhere, numbered-change, numbered-change_other, length-change, length-even, count_is, get_low}

-- beyond one list is beyond one of the same length
absent_too : {X Y : Type 0} (xs : List X) (ys : List Y) (at : ℕ) → length ys ≡ length xs → slice_get xs at ≡ None → (o : Option Y) →
    slice_get ys at ≡ o → slice_get ys at ≡ None
absent_too xs ys at even none None is = is
absent_too xs ys at even none (Some y) is =
    let low = get_low ys at y is in
    let x = some_at xs at (omega arith) in
    absurd (none-some x.0 (sym none ∙ x.1))

beyond : {X Y : Type 0} (xs : List X) (ys : List Y) (at : ℕ) → length ys ≡ length xs → slice_get xs at ≡ None → slice_get ys at ≡ None
beyond xs ys at even none = absent_too xs ys at even none (slice_get ys at) refl

-- Exchanges.

-- it is the latest of its sender to its target's host, where its message stays
abbrev pub IsFound : List (List Latest) → List Pid → Name → Exchange → Type 0
IsFound latest pids n e = IsLatest (latest_by pids latest n.sender e.target.host) n e × (same_host e.target e.at ≡ true)

module _ (pids : List Pid) (sends later : List (List Exchange)) (latest : List (List Latest)) (gone : Pid)
    (each : Each (Drops gone latest) sends later) (even : length later ≡ length sends) where
  number_at : ℕ → ℕ
  number_at at = latest_in (unwrap_or (slice_get latest at) []) gone.host

  other_stays : (number m : ℕ) (o : Option Exchange) → (m ≡ number → ⊥) →
      ((s : Exchange) → o ≡ Some s → is_message_at gone s ≡ true → m ≡ number) → o ≡ option_map (dropped_at gone) o
  other_stays number m None apart only = refl
  other_stays number m (Some s) apart only =
      let shut = false_from_ne_true (is_message_at gone s) (λ t. apart (only s refl t)) in
      ap Some (sym (cond-false (is_message_at gone s) (record s { stage = stages.Dropped }) s shut))

  by_number : (ss ss' : List Exchange) (number m : ℕ) → ss' ≡ change_numbered number (dropped_at gone) ss →
      ((s : Exchange) → numbered ss m ≡ Some s → is_message_at gone s ≡ true → m ≡ number) →
      numbered ss' m ≡ option_map (dropped_at gone) (numbered ss m)
  by_number ss ss' number m is only = ap (λ xs. numbered xs m) is ∙ elim (cases_Bool (m == number)) [
    | inl t ↦
        let same : m ≡ number = eqb-true m number t in
        ap (λ n. numbered (change_numbered number (dropped_at gone) ss) n) same
        ∙ numbered-change (dropped_at gone) number ss
        ∙ ap (λ n. option_map (dropped_at gone) (numbered ss n)) (sym same)
    | inr f ↦
        let apart : m ≡ number → ⊥ = λ e. both_ways (m == number) f (eq-eqb m number e) in
        numbered-change_other (dropped_at gone) number m ss apart
        ∙ other_stays number m (numbered ss m) apart only
  ]

  only_latest : ((n : Name) (e : Exchange) → exchanges_by pids sends n ≡ Some e → IsFound latest pids n e) →
      (n : Name) (at : ℕ) (ss : List Exchange) → place_in pids n.sender ≡ Some at → slice_get sends at ≡ Some ss →
      (s : Exchange) → numbered ss n.number ≡ Some s → is_message_at gone s ≡ true → n.number ≡ number_at at
  unfolding at_place number_at
  only_latest was n at ss place there s is t =
      let parts = and_parts (same_pid s.at gone) (is_at_target s.stage) t in
      let is_there = exchanges_is pids sends n ss (at_place_is pids sends n.sender at ss place there) ∙ is in
      let found = was n s is_there in
      let one = eqb-true s.target.host s.at.host found.1 ∙ ap (λ (p : Pid). p.host) (same_pid_is s.at gone parts.0) in
      found.0.live parts.1
      ∙ ap (latest_by pids latest n.sender) one
      ∙ ap (λ o. latest_in (unwrap_or (o >>= slice_get latest) []) gone.host) place

  by_sends : ((n : Name) (e : Exchange) → exchanges_by pids sends n ≡ Some e → IsFound latest pids n e) →
      (n : Name) (at : ℕ) → place_in pids n.sender ≡ Some at →
      (o : Option (List Exchange)) → slice_get sends at ≡ o →
      exchanges_by pids later n ≡ option_map (dropped_at gone) (exchanges_by pids sends n)
  unfolding at_place number_at
  by_sends was n at place None there =
      exchanges_nowhere pids later n (ap (λ o. o >>= slice_get later) place ∙ beyond sends later at even there)
      ∙ sym (ap (option_map (dropped_at gone)) (exchanges_nowhere pids sends n (ap (λ o. o >>= slice_get sends) place ∙ there)))
  by_sends was n at place (Some ss) there =
      let now = each at ss there in
      exchanges_is pids later n now.0 (at_place_is pids later n.sender at now.0 place now.1)
      ∙ by_number ss now.0 (number_at at) n.number now.2 (only_latest was n at ss place there)
      ∙ sym (ap (option_map (dropped_at gone)) (exchanges_is pids sends n ss (at_place_is pids sends n.sender at ss place there)))

  by_place : ((n : Name) (e : Exchange) → exchanges_by pids sends n ≡ Some e → IsFound latest pids n e) →
      (n : Name) (o : Option ℕ) → place_in pids n.sender ≡ o →
      exchanges_by pids later n ≡ option_map (dropped_at gone) (exchanges_by pids sends n)
  by_place was n None is = exchanges_nowhere pids later n (nowhere pids later n.sender is)
      ∙ sym (ap (option_map (dropped_at gone)) (exchanges_nowhere pids sends n (nowhere pids sends n.sender is)))
  by_place was n (Some at) is = by_sends was n at is (slice_get sends at) refl

  pub exchanges_left : ((n : Name) (e : Exchange) → exchanges_by pids sends n ≡ Some e → IsFound latest pids n e) →
      exchanges_by pids later ≡ (λ n. option_map (dropped_at gone) (exchanges_by pids sends n))
  exchanges_left was = λ i n. by_place was n (place_in pids n.sender) refl i

  count_by : (at : ℕ) (o : Option (List Exchange)) → slice_get sends at ≡ o → count_at later at ≡ count_at sends at
  unfolding number_at
  count_by at None is = ap (λ o. length (unwrap_or o [])) (beyond sends later at even is ∙ sym is)
  count_by at (Some ss) is =
      let now = each at ss is in
      count_is later at now.0 now.1 ∙ ap length now.2 ∙ length-change (dropped_at gone) (number_at at) ss ∙ sym (count_is sends at ss is)

  pub counts_left : (at : ℕ) → count_at later at ≡ count_at sends at
  counts_left at = count_by at (slice_get sends at) refl

dropped_no_nearer : (b : Bool) (e : Exchange) → IsNoNearer e.stage (cond b (record e { stage = stages.Dropped }) e).stage
dropped_no_nearer true e = record {
  queued = λ t. absurd (both_ways false refl t);
  live = λ t. absurd (both_ways false refl t);
  posted = λ t. absurd (both_ways false refl t);
}
dropped_no_nearer false e = same_stage e.stage

same_at : (b : Bool) (e : Exchange) → (cond b (record e { stage = stages.Dropped }) e).at ≡ e.at
same_at true e = refl
same_at false e = refl

same_target : (b : Bool) (e : Exchange) → (cond b (record e { stage = stages.Dropped }) e).target ≡ e.target
same_target true e = refl
same_target false e = refl

left_no_nearer : (gone : Pid) (o : Option Exchange) (y : Exchange) → option_map (dropped_at gone) o ≡ Some y →
    (x : Exchange) × (o ≡ Some x) × (y.target ≡ x.target) × IsNoNearer x.stage y.stage × (y.at ≡ x.at)
left_no_nearer gone None y is = absurd (none-some y is)
left_no_nearer gone (Some x) y is =
    let same : dropped_at gone x ≡ y = same_Some (dropped_at gone x) y is in (
      x,
      refl,
      ap (λ (z : Exchange). z.target) (sym same) ∙ same_target (is_message_at gone x) x,
      subst (λ (z : Exchange). IsNoNearer x.stage z.stage) same (dropped_no_nearer (is_message_at gone x) x),
      ap (λ (z : Exchange). z.at) (sym same) ∙ same_at (is_message_at gone x) x,
    )

-- Processes.
ready_stays : (gone pid : Pid) (ss : List Exchange) (p : Process) → is_ready p.state ≡ true → left gone pid ss p ≡ p
ready_stays gone pid ss p ready = cond-false (is_left gone pid ss p.state)
    (record p { state = ended p.state (answers.Refused refusals.NoProcess) }) p (not_left p.state ready (same_host pid gone))
  where
    not_left : (s : State) → is_ready s ≡ true → (b : Bool) →
        (b && is_some (sending s) && holds_of (is_message_at gone) ((numbered ss (length ss)))) ≡ false
    not_left states.Ready ready true = refl
    not_left states.Ready ready false = refl
    not_left (states.Blocked c) ready b = absurd (both_ways false refl ready)
    not_left (states.Done c a) ready b = absurd (both_ways false refl ready)

module _ (k : Kernel) (pids : List Pid) (procs after : List Proc) (sends : List (List Exchange)) (asked : List (List Lookup)) (gone : Pid)
    (each : Each (Leaves gone pids sends) procs after) (even : length after ≡ length procs) (all : length sends ≡ length pids)
    (same_procs : k.procs ≡ procs_by pids procs sends asked) (same_exchanges : k.exchanges ≡ exchanges_by pids sends) where
  -- the test of a process that waits
  left_is : (q : Pid) (at : ℕ) (ss : List Exchange) (x : Process) → place_in pids q ≡ Some at → slice_get sends at ≡ Some ss →
      x.sends ≡ length ss → left gone q ss x ≡ released k gone q x
  left_is q at ss x place there count =
      let last : k.exchanges (name_of q x.sends) ≡ (numbered ss (length ss)) =
      ap (λ f. f (name_of q x.sends)) same_exchanges ∙ ap (λ n. exchanges_by pids sends (name_of q n)) count
      ∙ exchanges_is pids sends (name_of q (length ss)) ss (at_place_is pids sends q at ss place there) in
      ap (λ o. cond (same_host q gone && is_some (sending x.state) && holds_of (is_message_at gone) o)
      (record x { state = ended x.state (answers.Refused refusals.NoProcess) }) x) (sym last)

  by_proc : (q : Pid) (at : ℕ) → place_in pids q ≡ Some at → (o : Option Proc) → slice_get procs at ≡ o →
      procs_by pids after sends asked q ≡ option_map (released k gone q) (procs_by pids procs sends asked q)
  unfolding procs_by
  by_proc q at place None there =
      ap (λ o. o >>= λ at. slice_get after at >>= λ p. Some (process_of p (count_at sends at) (count_at asked at))) place
      ∙ ap (λ o. o >>= λ p. Some (process_of p (count_at sends at) (count_at asked at))) (beyond procs after at even there)
      ∙ sym (ap (option_map (released k gone q)) (
      ap (λ o. o >>= λ at. slice_get procs at >>= λ p. Some (process_of p (count_at sends at) (count_at asked at))) place
      ∙ ap (λ o. o >>= λ p. Some (process_of p (count_at sends at) (count_at asked at))) there))
  by_proc q at place (Some p) there =
      let low = place_low pids q at place in
      let ss = some_at sends at (omega arith) in
      let now = each at p there in
      let x = process_of p (count_at sends at) (count_at asked at) in
      procs_is pids after sends sends asked asked q at now.0 place now.1
      ∙ ap Some (
      now.2 (count_at sends at) (count_at asked at)
      ∙ ap (λ o. left gone (unwrap_or o gone) (unwrap_or (slice_get sends at) []) x) (place_get pids q at place)
      ∙ ap (λ o. left gone q (unwrap_or o []) x) ss.1
      ∙ left_is q at ss.0 x place ss.1 (count_is sends at ss.0 ss.1))
      ∙ sym (ap (option_map (released k gone q)) (procs_is pids procs sends sends asked asked q at p place there))

  released_at : (q : Pid) (o : Option ℕ) → place_in pids q ≡ o →
      procs_by pids after sends asked q ≡ option_map (released k gone q) (k.procs q)
  released_at q None is = procs_nowhere pids after sends sends asked asked q is
      ∙ sym (ap (option_map (released k gone q)) (ap (λ f. f q) same_procs ∙ procs_nowhere pids procs sends sends asked asked q is))
  released_at q (Some at) is = by_proc q at is (slice_get procs at) refl ∙ ap (λ f. option_map (released k gone q) (f q)) (sym same_procs)

  pub procs_left : (later : List (List Exchange)) (at : ℕ) (p : Process) (x : Proc) → ((to : ℕ) → count_at later to ≡ count_at sends to) →
      place_in pids gone ≡ Some at → k.procs gone ≡ Some p → is_ready p.state ≡ true → x ≡ get_or after at x → at < length after →
      procs_by pids (set after at (record x { alive = false })) later
      asked ≡ (λ q. if same_pid q gone then Some (record p { alive = false }) else option_map (released k gone q) (k.procs q))
  procs_left later at p x counts place there ready is low =
      procs-put pids after later later asked asked (record x { alive = false }) gone at place low (λ to apart. refl) (λ to apart. refl)
      ∙ (λ i q. (elim (cases_Bool (same_pid q gone)) as (λ _. put_process (procs_by pids after later asked) gone
      (process_of (record x { alive = false }) (count_at later at) (count_at asked at))
      q ≡ (if same_pid q gone then Some (record p { alive = false }) else option_map (released k gone q) (k.procs q))) [
        | inl t ↦
            put_process_at (procs_by pids after later asked) gone
            (process_of (record x { alive = false }) (count_at later at) (count_at asked at)) q t
            ∙ ap (λ (z : Process). Some (record z { alive = false })) own
            ∙ sym (cond-true (same_pid q gone) (Some (record p { alive = false })) (option_map (released k gone q) (k.procs q)) t)
        | inr f ↦
            put_process_other (procs_by pids after later asked) gone
            (process_of (record x { alive = false }) (count_at later at) (count_at asked at)) q f
            ∙ ap (λ f. f q) (procs-even pids after sends later asked asked counts (λ to. refl))
            ∙ released_at q (place_in pids q) refl
            ∙ sym (cond-false (same_pid q gone) (Some (record p { alive = false })) (option_map (released k gone q) (k.procs q)) f)
      ]) i)
    where
      own : process_of x (count_at later at) (count_at asked at) ≡ p
      own =
          let was = some_at procs at (omega arith) in
          let now = each at was.0 was.1 in
          let this : now.0 ≡ x = same_Some now.0 x (sym now.1 ∙ slice_get-get_or after at x low ∙ ap Some (sym is)) in
          let before : process_of was.0 (count_at sends at) (count_at asked at) ≡ p = same_Some _ p
          (sym (procs_is pids procs sends sends asked asked gone at was.0 place was.1) ∙ ap (λ f. f gone) (sym same_procs) ∙ there) in
          let ss = unwrap_or (slice_get sends at) [] in
          let who = unwrap_or (slice_get pids at) gone in
          ap (λ n. process_of x n (count_at asked at)) (counts at)
          ∙ ap (λ (z : Proc). process_of z (count_at sends at) (count_at asked at)) (sym this)
          ∙ now.2 (count_at sends at) (count_at asked at)
          ∙ ap (left gone who ss) before
          ∙ ready_stays gone who ss p ready

-- Names.

pub names_left : (names : List Registration) (gone : Pid) →
    names_by (filter (λ r. not (same_pid r.pid gone)) names) ≡ (λ host. filter (λ r. not (same_pid r.pid gone)) (names_by names host))
unfolding names_by
names_left names gone = λ i host. (
    filter_again (λ (r : Registration). not (same_pid r.pid gone)) (is_of host) names
    ∙ filter_agree (λ r. not (same_pid r.pid gone) && is_of host r) (λ r. is_of host r && not (same_pid r.pid gone))
    (λ r. and_swap (not (same_pid r.pid gone)) (is_of host r)) names
    ∙ sym (filter_again (is_of host) (λ (r : Registration). not (same_pid r.pid gone)) names)) i

-- The step.
module _ (s t : Store) (pid : Pid) (at : ℕ) (p : Process) (procs : List Proc) (x : Proc) (kept : IsKept s) (here : IsAt s pid at)
    (there : (kernel_in s).procs pid ≡ Some p) (ready : is_ready p.state ≡ true)
    (each : Each (Leaves pid s.places s.sends.items) s.procs.items procs) (even : length procs ≡ length s.procs.items)
    (drops : Each (Drops pid s.latest.items) s.sends.items t.sends.items) (sends : length t.sends.items ≡ length s.sends.items)
    (is : x ≡ get_or procs at x) (put : t.procs.items ≡ set procs at (record x { alive = false }))
    (names : t.names.items ≡ filter (λ r. not (same_pid r.pid pid)) s.names.items) (places : t.places ≡ s.places)
    (asked : t.asked.items ≡ s.asked.items) (arrived : t.arrived ≡ s.arrived) (queues : t.queues.items ≡ s.queues.items)
    (latest : t.latest.items ≡ s.latest.items) where
  exchanges_are : exchanges_by t.places t.sends.items ≡ (λ n. option_map (dropped_at pid) (exchanges_by s.places s.sends.items n))
  exchanges_are = ap (λ ps. exchanges_by ps t.sends.items) places
      ∙ exchanges_left s.places s.sends.items t.sends.items s.latest.items pid drops sends
      (λ n e is. (kept.indexed.open_last n e is, kept.sound.near n e is))

  procs_are : procs_by t.places t.procs.items t.sends.items
      t.asked.items ≡ (λ q. if same_pid q pid then Some (record p { alive = false })
      else option_map (released (kernel_in s) pid q) ((kernel_in s).procs q))
  procs_are =
      let low : at < length procs = let l = here.procs in omega arith in
      (λ i. procs_by (places i) (put i) t.sends.items (asked i))
      ∙ procs_left (kernel_in s) s.places s.procs.items procs s.sends.items s.asked.items pid each even kept.indexed.sends refl refl
      t.sends.items at p x (counts_left s.places s.sends.items t.sends.items s.latest.items pid drops sends) here.place there ready is
      low

  pub exit_goes : Goes (Some (answered (exited (kernel_in s) pid p) pid calls.Exit answers.Ok))
      (Some (record { pid = pid; call = calls.Exit; answer = answers.Ok })) t
  unfolding exited
  exit_goes = record {
    effect = λ i. Some (answered (record {
      procs = sym procs_are i;
      exchanges = sym exchanges_are i;
      arrived = sym arrived i;
      names = sym (ap names_by names ∙ names_left s.names.items pid) i;
      lookups = lookups_by (sym places i) (sym asked i);
    }) pid calls.Exit answers.Ok);
    indexed = indexed_later s t places (ap length put ∙ length-set procs at (record x { alive = false }) ∙ even) sends (ap length asked)
        arrived queues latest
        (λ q. let same = length-even s.places t.sends.items s.sends.items q
        (counts_left s.places s.sends.items t.sends.items s.latest.items pid drops sends) in
        let moved = ap (λ ps. length (unwrap_or (at_place ps t.sends.items q) [])) places in omega arith)
        (λ n y after. left_no_nearer pid (exchanges_by s.places s.sends.items n) y (ap (λ f. f n) (sym exchanges_are) ∙ after))
        kept.indexed;
  }
