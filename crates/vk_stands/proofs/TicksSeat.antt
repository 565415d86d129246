-- What a tick makes of one process is what the rules say of it.
use Rattle.std.proofs.Common.{◌≡◌, ℕ, ◌+◌, ◌==◌, Bool, true, false, cond, not, ◌&&◌, List, [], ◌∷◌, length, refl, ap, sym, ◌∙◌, Option, Some, None, leb, ltb}
use Rattle.std.specs.List.{slice_get}
use Rattle.std.specs.Option.{option_map, option_map_or, option_to_list}
use Rattle.std.proofs.lemmas.Bool.{and_parts}
use Rattle.vk_types.specs.Types.{Activity, Exchange, MoveName, Pid, Process, Step, Times, Waiting}
use Rattle.vk_base.specs.declared.activity.Activity.TheVariants as activities
use Rattle.vk_base.specs.declared.activity.Waiting.TheVariants as waitings
use Rattle.vk_base.specs.declared.answer.Ending.TheVariants as endings
use Rattle.vk_base.specs.declared.step.Step.TheVariants as steps
use Rattle.vk_base.specs.Activities.{call_of, state_of}
use Rattle.vk_base.specs.Kernel.{◌>>=◌, Kernel, blocked_in}
use Rattle.vk_base.specs.Packets.{Packet, Send}
use Rattle.vk_base.specs.Pids.{same_host}
use Rattle.vk_base.specs.Ranges.{range_of, lies_in}
use Rattle.vk_base.specs.Steps.{only_if}
use Rattle.vk_procs.specs.declared.seat.Seat.{Seat}
use Rattle.vk_procs.specs.Seats.{process_of, seat_in}
use Rattle.vk_rules.specs.CallOutcomes.{failed, failing_step, sent_again, work_failure}
use Rattle.vk_rules.specs.Readings.{Reading}
unfoldable use Rattle.vk_rules.specs.Rounds.{round}
use Rattle.vk_rules.specs.Rounds.{data_packets, list_if, request_packet, round_of, round_of_call, send_packets}
use Rattle.vk_rules.specs.Works.{Work}
use Rattle.vk_stands.specs.Fit.{AreFit, IsFitSeat, is_remote_move, may_wait}
use Rattle.vk_stands.specs.Stands.{IsFar, IsWaiting, IsWorking, Stands}
use Rattle.vk_stands.specs.Tables.{Tables, is_work}
use Rattle.vk_stands.specs.Ticks.{Ticking, at_rest, work_round, ticking, ticking_by, ticking_in}
use Rattle.vk_stands.proofs.Fits.{seat_at_place}
use Rattle.vk_timer.specs.declared.work.Due.TheVariants as dues
use Rattle.vk_timer.specs.Works.{due_at}

pub record IsRightTicking (times : Times) (now : ℕ) (r : Reading) (s : Seat) : Type 0 where
  pub steps : (ticking times now s).steps ≡ option_to_list (failed times now r s.pid)
  pub packets : (ticking times now s).packets ≡ sent_again times now r s.pid

-- A process in a work: the test of a tick, and what comes of it.
by_test_steps : (times : Times) (now : ℕ) (s : Seat) (w : Waiting) (a b : Bool) →
    (ticking_by times now s w (cond a (cond b dues.GiveUp dues.Resend) dues.NotDue)).steps
    ≡ option_to_list (only_if (a && b) (work_failure s.pid (call_of w)))
by_test_steps times now s w true true = refl
by_test_steps times now s w true false = refl
by_test_steps times now s w false b = refl

by_test_packets : (times : Times) (now : ℕ) (s : Seat) (w : Waiting) (a b : Bool) →
    (ticking_by times now s w (cond a (cond b dues.GiveUp dues.Resend) dues.NotDue)).packets ≡ list_if (a && not b) (work_round s w)
by_test_packets times now s w true true = refl
by_test_packets times now s w true false = refl
by_test_packets times now s w false b = refl

-- a round by the tables is that of the rules
round_call : (k : Kernel) (v : Work) (s : Seat) (w : Waiting) → is_work s.pid w ≡ true → IsWaiting k s w → IsFar s v w →
    work_round s w ≡ round_of_call k v s.pid (process_of s) (call_of w)
round_call k v s (waitings.Send target m) far is place =
    sym (ap (λ b. list_if b (option_to_list (option_map (λ (e : Exchange). Send s.pid target s.note.sends m e.part) (k.exchanges
    (record { sender = s.pid; number = s.note.sends }))))) far
    ∙ ap (λ o. option_to_list (option_map (λ (e : Exchange). Send s.pid target s.note.sends m e.part) o)) is.is
    ∙ ap (λ part. Send s.pid target s.note.sends m part ∷ []) is.part_is)
round_call k v s (waitings.MoveTo partner dest src count) far is place =
    ap (λ n. option_map_or (data_packets s.pid partner s.memory dest src count n) s.note.moving []) place
round_call k v s (waitings.MoveFrom partner dest src count) far is place =
    ap (λ n. option_map_or (λ (m : MoveName). request_packet s.pid partner src count n m ∷ []) s.note.moving []) place.0
round_call k v s (waitings.GetPid logical scope) far is place = refl
round_call k v s waitings.Receive far is place = cc
round_call k v s (waitings.ReceiveSegment start count) far is place = cc

-- what waits in no work neither fails nor has a round
move_far : (pid partner : Pid) (count : ℕ) → not (same_host pid partner) ≡ false → is_remote_move pid partner count ≡ true → ⊥
move_far pid partner count near may =
    let a = and_parts (not (same_host pid partner) && ltb 0 count) (leb count 65536) may in
    let b : not (same_host pid partner) ≡ true = (and_parts (not (same_host pid partner)) (ltb 0 count) a.0).0 in
    let c : false ≡ true = sym near ∙ b in
    cc

fails_not : (pid : Pid) (size : ℕ) (w : Waiting) → is_work pid w ≡ false → may_wait pid size w ≡ true →
    work_failure pid (call_of w) ≡ None
fails_not pid size (waitings.Send target m) near may = ap (λ b. only_if b (Some (steps.Fail pid endings.TimedOut))) near
fails_not pid size waitings.Receive near may = refl
fails_not pid size (waitings.ReceiveSegment start count) near may = refl
fails_not pid size (waitings.GetPid logical scope) near may = cc
fails_not pid size (waitings.MoveTo partner dest src count) near may =
    absurd (move_far pid partner count near (and_parts (is_remote_move pid partner count) (lies_in (range_of src count) size) may).0)
fails_not pid size (waitings.MoveFrom partner dest src count) near may =
    absurd (move_far pid partner count near (and_parts (is_remote_move pid partner count) (lies_in (range_of dest count) size) may).0)

no_round : (k : Kernel) (v : Work) (pid : Pid) (p : Process) (size : ℕ) (w : Waiting) → is_work pid w ≡ false →
    may_wait pid size w ≡ true →
    round_of_call k v pid p (call_of w) ≡ []
no_round k v pid p size (waitings.Send target m) near may = ap (λ b. list_if b (send_packets k pid p target m)) near
no_round k v pid p size waitings.Receive near may = refl
no_round k v pid p size (waitings.ReceiveSegment start count) near may = refl
no_round k v pid p size (waitings.GetPid logical scope) near may = cc
no_round k v pid p size (waitings.MoveTo partner dest src count) near may =
    absurd (move_far pid partner count near (and_parts (is_remote_move pid partner count) (lies_in (range_of src count) size) may).0)
no_round k v pid p size (waitings.MoveFrom partner dest src count) near may =
    absurd (move_far pid partner count near (and_parts (is_remote_move pid partner count) (lies_in (range_of dest count) size) may).0)

none_failing : (b : Bool) → (let none : Option Step = None in option_to_list (only_if b none) ≡ [])
none_failing true = refl
none_failing false = refl

none_sent : (b : Bool) → (let none : List Packet = [] in list_if b none ≡ none)
none_sent true = refl
none_sent false = refl

-- What the tables and the reading have of one process.
pub record IsSeatRead (times : Times) (host : ℕ) (r : Reading) (s : Seat) : Type 0 where
  pub here : r.view.procs s.pid ≡ Some (process_of s)
  pub fits : IsFitSeat host s
  pub waiting : (w : Waiting) → s.doing ≡ activities.Blocked w → IsWaiting r.view s w
  pub works : (w : Waiting) → s.doing ≡ activities.Blocked w → is_work s.pid w ≡ true → IsWorking times s (r.work s.pid) w

pub told_at : (times : Times) (host : ℕ) (t : Tables) (r : Reading) → AreFit host t → Stands times host t r → (i : ℕ) (s : Seat) →
    slice_get t.seats i ≡ Some s → IsSeatRead times host r s
told_at times host t r fit h i s at =
    let found : seat_in t.seats s.pid ≡ Some s = seat_at_place t.seats i s at (fit.places i s at) in
    let fits : IsFitSeat host s = fit.seats i s at in
    record {
      here = h.procs s.pid fits.own ∙ ap (option_map process_of) found;
      fits = fits;
      waiting = λ w blocked. h.waiting s.pid s w found blocked;
      works = λ w blocked work. h.works s.pid s w found blocked work;
    }

module _ (times : Times) (now : ℕ) (host : ℕ) (r : Reading) (s : Seat) (told : IsSeatRead times host r s) where
  abbrev due : Bool
  due = now == (r.work s.pid).since + times.interval

  abbrev tried : Bool
  tried = leb times.tries (r.work s.pid).rounds

  -- the step and the round of the rules, by what it does
  failing_is : (d : Activity) → s.doing ≡ d → failing_step r.view s.pid ≡ (blocked_in (state_of d) >>= work_failure s.pid)
  failing_is d is =
      ap (λ o. o >>= λ p. blocked_in p.state >>= work_failure s.pid) told.here
      ∙ ap (λ x. blocked_in (state_of x) >>= work_failure s.pid) is

  rounds_are : (d : Activity) → s.doing ≡ d →
      round r.view (r.work s.pid) s.pid ≡ option_map_or (round_of_call r.view (r.work s.pid) s.pid (process_of s)) (blocked_in
      (state_of d)) []
  unfolding round
  rounds_are d is =
      ap (λ o. option_map_or (round_of r.view (r.work s.pid) s.pid) o []) told.here
      ∙ ap (λ x. option_map_or (round_of_call r.view (r.work s.pid) s.pid (process_of s)) (blocked_in (state_of x)) []) is

  -- nothing comes of it
  abbrev IsStill : Activity → Type 0
  IsStill d = ((ticking_in times now s d).steps ≡ option_to_list (only_if (due && tried) (failing_step r.view s.pid)))
      × ((ticking_in times now s d).packets ≡ list_if (due && not tried) (round r.view (r.work s.pid) s.pid))

  idle : (d : Activity) → s.doing ≡ d → blocked_in (state_of d) ≡ None → ticking_in times now s d ≡ at_rest s → IsStill d
  idle d is none rest = (
    ap (λ (x : Ticking). x.steps) rest
        ∙ sym (ap (λ o. option_to_list (only_if (due && tried) o)) (failing_is d is ∙ ap (λ o. o >>= work_failure s.pid) none)
        ∙ none_failing (due && tried)),
    ap (λ (x : Ticking). x.packets) rest
        ∙ sym (ap (list_if (due && not tried)) (rounds_are d is
        ∙ ap (λ o. option_map_or (round_of_call r.view (r.work s.pid) s.pid (process_of s)) o []) none)
        ∙ none_sent (due && not tried)),
  )

  blocked_by : (w : Waiting) (b : Bool) → s.doing ≡ activities.Blocked w → is_work s.pid w ≡ b → IsStill (activities.Blocked w)
  blocked_by w true is far =
      let work = told.works w is far in
      let due_is : (now == s.note.work.deadline) ≡ due = ap (λ n. now == n) work.deadline in
      let tried_is : leb times.tries s.note.work.tries ≡ tried = ap (λ n. leb times.tries n) work.tries in
      let here : ticking_in times now s (activities.Blocked w) ≡ ticking_by times now s w (cond due
      (cond tried dues.GiveUp dues.Resend) dues.NotDue) =
      (λ i. cond (far i) (ticking_by times now s w (cond (due_is i) (cond (tried_is i) dues.GiveUp dues.Resend) dues.NotDue))
      (at_rest s)) in (
        ap (λ (x : Ticking). x.steps) here ∙ by_test_steps times now s w due tried
            ∙ sym (ap (λ o. option_to_list (only_if (due && tried) o)) (failing_is (activities.Blocked w) is)),
        ap (λ (x : Ticking). x.packets) here ∙ by_test_packets times now s w due tried
            ∙ ap (list_if (due && not tried)) (round_call r.view (r.work s.pid) s w far (told.waiting w is) work.far
            ∙ sym (rounds_are (activities.Blocked w) is)),
      )
  blocked_by w false is near =
      let may = told.fits.waits w is in
      let here : ticking_in times now s (activities.Blocked w) ≡ at_rest s =
      ap (λ b. cond b (ticking_by times now s w (due_at times now s.note.work)) (at_rest s)) near in (
        ap (λ (x : Ticking). x.steps) here
            ∙ sym (ap (λ o. option_to_list (only_if (due && tried) o)) (failing_is (activities.Blocked w) is ∙ fails_not s.pid
            (length s.memory) w near may)
            ∙ none_failing (due && tried)),
        ap (λ (x : Ticking). x.packets) here
            ∙ sym (ap (list_if (due && not tried)) (rounds_are (activities.Blocked w) is
            ∙ no_round r.view (r.work s.pid) s.pid (process_of s) (length s.memory) w near may) ∙ none_sent (due && not tried)),
      )

  by_doing : (d : Activity) → s.doing ≡ d → IsStill d
  by_doing activities.Ready is = idle activities.Ready is refl refl
  by_doing (activities.Done w o) is = idle (activities.Done w o) is refl refl
  by_doing (activities.Blocked w) is = blocked_by w (is_work s.pid w) is refl

  pub right_ticking : IsRightTicking times now r s
  right_ticking = let x = by_doing s.doing refl in record { steps = x.0; packets = x.1 }
