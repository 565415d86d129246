-- What a tick does to a process that waits in a move is what the rules say.
use Rattle.std.proofs.Common.{◌≡◌, ℕ, ◌+◌, Bool, true, false, cond, not, ◌==◌, ◌&&◌, List, [], ◌∷◌, length, refl, ap, sym, ◌∙◌, Option, Some, None, leb, ltb}
use Rattle.std.specs.Option.{option_map, option_map_or, option_to_list}
use Rattle.std.proofs.lemmas.Bool.{and_parts}
use Rattle.vk_types.specs.Types.{Activity, MoveName, Pid, Times, Waiting}
use Rattle.vk_base.specs.declared.activity.Activity.TheVariants as activities
use Rattle.vk_base.specs.declared.activity.Waiting.TheVariants as waitings
use Rattle.vk_base.specs.declared.answer.Ending.TheVariants as endings
use Rattle.vk_base.specs.declared.step.Step.TheVariants as steps
use Rattle.vk_base.specs.Activities.{call_of, state_of}
use Rattle.vk_base.specs.Kernel.{◌>>=◌, Kernel, blocked_in, holds_of, is_moving}
use Rattle.vk_base.specs.Pids.{same_host}
use Rattle.vk_base.specs.Ranges.{range_of, lies_in}
use Rattle.vk_base.specs.Steps.{only_if}
use Rattle.vk_procs.specs.declared.seat.Seat.{Seat}
use Rattle.vk_procs.specs.Seats.{process_of, seat_in}
use Rattle.vk_rules.specs.CallOutcomes.{failing_step, work_failure}
use Rattle.vk_rules.specs.Readings.{Reading}
unfoldable use Rattle.vk_rules.specs.Rounds.{round}
use Rattle.vk_rules.specs.Rounds.{data_packets, list_if, request_packet, round_of, round_of_call}
use Rattle.vk_rules.specs.Works.{Work}
use Rattle.vk_stands.specs.Fit.{AreFit, is_remote_move, may_wait}
use Rattle.vk_stands.specs.Stands.{IsFar, IsWorking, Stands}
use Rattle.vk_stands.specs.Tables.{Tables, is_work}
use Rattle.vk_stands.proofs.Found.{seat_found}
use Rattle.vk_timer.specs.declared.work.Due.TheVariants as dues
use Rattle.vk_timer.specs.declared.work.Work as timed
use Rattle.vk_timer.specs.Works.{work_at}
use Rattle.vk_move.specs.declared.tick.Ticked.TheVariants as ticks
use Rattle.vk_move.specs.Due.{IsDueRule, IsRightDue, due_moved, tick_moved, ticked_at, ticked_by, ticked_in}
use Rattle.vk_move.specs.Moved.{round_by, round_from}

-- A process that waits in a move.
pub record WaitsInMove (s : Seat) (w : Waiting) : Type 0 where
  pub state : s.doing ≡ activities.Blocked w
  pub moves : is_moving (state_of (activities.Blocked w)) ≡ true

pub moving_is : (s : Seat) (d : Activity) → s.doing ≡ d → is_moving (state_of d) ≡ true → (w : Waiting) × WaitsInMove s w
moving_is s activities.Ready is t = cc
moving_is s (activities.Done w o) is t = cc
moving_is s (activities.Blocked w) is t = (w, record { state = is; moves = t })

-- the test of a tick, and what comes of it
tick_steps : (t : Times) (now : ℕ) (pid : Pid) (seats : List Seat) (a b : Bool) (work : timed.Work) (from : ℕ) →
    (tick_moved t now pid (ticked_by (cond a (cond b dues.GiveUp dues.Resend) dues.NotDue) work from) seats).steps
    ≡ option_to_list (only_if (a && b) (Some (steps.End pid endings.TimedOut)))
tick_steps t now pid seats true true work from = refl
tick_steps t now pid seats true false work from = refl
tick_steps t now pid seats false b work from = refl

tick_packets : (t : Times) (now : ℕ) (pid : Pid) (seats : List Seat) (a b : Bool) (work : timed.Work) (from : ℕ) →
    (tick_moved t now pid (ticked_by (cond a (cond b dues.GiveUp dues.Resend) dues.NotDue) work from) seats).packets
    ≡ list_if (a && not b) (round_from pid from (seat_in seats pid))
tick_packets t now pid seats true true work from = refl
tick_packets t now pid seats true false work from = refl
tick_packets t now pid seats false b work from = refl

-- a round by the tables is that of the rules
pub round_call : (k : Kernel) (pid : Pid) (s : Seat) (v : Work) (w : Waiting) (m : Option MoveName) → s.note.moving ≡ m →
    is_moving (state_of (activities.Blocked w)) ≡ true → IsFar s v w →
    round_by pid s.memory s.note.offset m (activities.Blocked w) ≡ round_of_call k v pid (process_of s) (call_of w)
round_call k pid s v (waitings.MoveTo partner dest src count) None is moves far =
    sym (ap (λ o. option_map_or (data_packets pid partner s.memory dest src count v.acknowledged) o []) is)
round_call k pid s v (waitings.MoveTo partner dest src count) (Some m) is moves far =
    ap (λ n. data_packets pid partner s.memory dest src count n m) far
    ∙ sym (ap (λ o. option_map_or (data_packets pid partner s.memory dest src count v.acknowledged) o []) is)
round_call k pid s v (waitings.MoveFrom partner dest src count) None is moves far =
    sym (ap (λ o. option_map_or (λ (m : MoveName). request_packet pid partner src count v.received m ∷ []) o []) is)
round_call k pid s v (waitings.MoveFrom partner dest src count) (Some m) is moves far =
    ap (λ n. request_packet pid partner src count n m ∷ []) far.0
    ∙ sym (ap (λ o. option_map_or (λ (m : MoveName). request_packet pid partner src count v.received m ∷ []) o []) is)
round_call k pid s v (waitings.Send target m) o is moves far = cc
round_call k pid s v waitings.Receive o is moves far = cc
round_call k pid s v (waitings.ReceiveSegment start count) o is moves far = cc
round_call k pid s v (waitings.GetPid logical scope) o is moves far = cc

-- what fails, and that the move is a work
fails_call : (pid : Pid) (w : Waiting) → is_moving (state_of (activities.Blocked w)) ≡ true →
    work_failure pid (call_of w) ≡ Some (steps.End pid endings.TimedOut)
fails_call pid (waitings.MoveTo partner dest src count) moves = refl
fails_call pid (waitings.MoveFrom partner dest src count) moves = refl
fails_call pid (waitings.Send target m) moves = cc
fails_call pid waitings.Receive moves = cc
fails_call pid (waitings.ReceiveSegment start count) moves = cc
fails_call pid (waitings.GetPid logical scope) moves = cc

far_by : (pid partner : Pid) (count : ℕ) → is_remote_move pid partner count ≡ true → not (same_host pid partner) ≡ true
far_by pid partner count t =
    let a = and_parts (not (same_host pid partner) && ltb 0 count) (leb count 65536) t in
    (and_parts (not (same_host pid partner)) (ltb 0 count) a.0).0

pub move_work : (pid : Pid) (size : ℕ) (w : Waiting) → is_moving (state_of (activities.Blocked w)) ≡ true → may_wait pid size w ≡ true →
    is_work pid w ≡ true
move_work pid size (waitings.MoveTo partner dest src count) moves t =
    far_by pid partner count (and_parts (is_remote_move pid partner count) (lies_in (range_of src count) size) t).0
move_work pid size (waitings.MoveFrom partner dest src count) moves t =
    far_by pid partner count (and_parts (is_remote_move pid partner count) (lies_in (range_of dest count) size) t).0
move_work pid size (waitings.Send target m) moves t = cc
move_work pid size waitings.Receive moves t = cc
move_work pid size (waitings.ReceiveSegment start count) moves t = cc
move_work pid size (waitings.GetPid logical scope) moves t = cc

module _ (times : Times) (now : ℕ) (pid : Pid) (seats : List Seat) (host : ℕ) (t : Tables) (r : Reading) (own : pid.host ≡ host)
    (fit : AreFit host (record t { seats = seats })) (h : Stands times host (record t { seats = seats }) r) where
  module _ (s : Seat) (found : seat_in seats pid ≡ Some s) (w : Waiting) (m : WaitsInMove s w) where
    here : r.view.procs pid ≡ Some (process_of s)
    here = h.procs pid own ∙ ap (option_map process_of) found

    blocked : blocked_in (process_of s).state ≡ Some (call_of w)
    blocked = ap (λ d. blocked_in (state_of d)) m.state

    work : IsWorking times s (r.work pid) w
    work =
        let at = seat_found seats pid s found in
        h.works pid s w found m.state (move_work pid (length s.memory) w m.moves
        (ap (λ p. may_wait p (length s.memory) w) (sym at.named) ∙ (fit.seats at.at s at.here).waits w m.state))

    abbrev a : Bool
    a = now == s.note.work.deadline

    abbrev b : Bool
    b = leb times.tries s.note.work.tries

    due_is : (now == (r.work pid).since + times.interval) ≡ a
    due_is = ap (λ n. now == n) (sym work.deadline)

    tried_is : leb times.tries (r.work pid).rounds ≡ b
    tried_is = ap (λ n. leb times.tries n) (sym work.tries)

    ticks_at : ticked_in times now (seat_in seats pid) ≡ ticked_by (cond a (cond b dues.GiveUp dues.Resend) dues.NotDue)
        (work_at times now s.note.work) s.note.offset
    ticks_at = ap (ticked_in times now) found ∙ ap (λ d. cond (is_moving (state_of d)) (ticked_at times now s) ticks.Nothing) m.state
        ∙ ap (λ x. cond x (ticked_at times now s) ticks.Nothing) m.moves

    failing : failing_step r.view pid ≡ Some (steps.End pid endings.TimedOut)
    failing =
        ap (λ o. o >>= λ p. blocked_in p.state >>= work_failure pid) here
        ∙ ap (λ o. o >>= work_failure pid) blocked ∙ fails_call pid w m.moves

    rounds : round_from pid s.note.offset (seat_in seats pid) ≡ round r.view (r.work pid) pid
    unfolding round
    rounds =
        ap (round_from pid s.note.offset) found
        ∙ ap (round_by pid s.memory s.note.offset s.note.moving) m.state
        ∙ round_call r.view pid s (r.work pid) w s.note.moving refl m.moves work.far
        ∙ sym (ap (λ o. option_map_or (round_of_call r.view (r.work pid) pid (process_of s)) o []) blocked)
        ∙ sym (ap (λ o. option_map_or (round_of r.view (r.work pid) pid) o []) here)

    due_of : IsRightDue now pid times r (due_moved times now pid seats)
    due_of = record {
      steps =
          ap (λ x. (tick_moved times now pid x seats).steps) ticks_at
          ∙ tick_steps times now pid seats a b (work_at times now s.note.work) s.note.offset
          ∙ sym (λ i. option_to_list (only_if (due_is i && tried_is i) (failing i)));
      packets =
          ap (λ x. (tick_moved times now pid x seats).packets) ticks_at
          ∙ tick_packets times now pid seats a b (work_at times now s.note.work) s.note.offset
          ∙ sym (λ i. list_if (due_is i && not (tried_is i)) (sym rounds i));
    }

  due_by : (o : Option Seat) → seat_in seats pid ≡ o → holds_of (λ (s : Seat). is_moving (state_of s.doing)) o ≡ true →
      IsRightDue now pid times r (due_moved times now pid seats)
  due_by None none t = cc
  due_by (Some s) found t = let m = moving_is s s.doing refl t in due_of s found m.0 m.1

pub due_rule : (times : Times) (now : ℕ) (pid : Pid) (seats : List Seat) → IsDueRule times now pid seats
due_rule times now pid seats host t r own moves fit h = due_by times now pid seats host t r own fit h (seat_in seats pid) refl moves
