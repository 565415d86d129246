-- An acknowledgement of all bytes ends its move, by the tables and by the rules; and any acknowledgement.
use Rattle.std.proofs.Common.{◌≡◌, ℕ, ◌<◌, ◌^◌, ◌%◌, Bool, true, false, cond, ◌&&◌, ◌==◌, List, [], ◌∷◌, refl, ap, sym, ◌∙◌, subst, Option, Some, None, ltb}
use Rattle.std.specs.List.{list_any, list_all, filter_map, sum_by}
use Rattle.std.specs.Option.{option_map, option_map_or}
use Rattle.std.proofs.lemmas.Bool.{and_parts, cond-true, eqb-true, ltb-true}
use Rattle.std.proofs.lemmas.Option.{same_Some}
use Rattle.vk_types.specs.Types.{Activity, Exchange, Move, MoveName, Name, Pid, Process, Times, Waiting}
use Rattle.vk_base.specs.declared.activity.Activity.TheVariants as activities
use Rattle.vk_base.specs.declared.activity.Outcome.TheVariants as outcomes
use Rattle.vk_base.specs.declared.activity.Waiting.TheVariants as waitings
use Rattle.vk_base.specs.declared.answer.Answer.TheVariants as answers
use Rattle.vk_base.specs.declared.answer.Ending.TheVariants as endings
use Rattle.vk_base.specs.declared.event.EventAnswer.TheVariants as events_answered
use Rattle.vk_base.specs.declared.kernel.Direction.TheVariants as directions
use Rattle.vk_base.specs.declared.step.Step.TheVariants as steps
use Rattle.vk_base.specs.Activities.{state_of}
use Rattle.vk_base.specs.Calls.{new_move}
use Rattle.vk_base.specs.Ranges.{bytes_in, range_of}
use Rattle.vk_base.specs.Brought.{as_many_moves, brought, running_move, with_progress, with_running, without_running}
unfoldable use Rattle.vk_base.specs.Changes.{change_exchange}
use Rattle.vk_base.specs.Kernel.{◌>>=◌, Kernel, blocked_in, holds_of, is_moving, is_ready, move_of, name_of, put_exchange, same_name, sending, with_state}
use Rattle.vk_base.specs.Packets.{Packet, MoveAck}
use Rattle.vk_base.specs.Pids.{same_pid}
use Rattle.vk_base.specs.Settings.{Settings}
use Rattle.vk_base.specs.Steps.{first_of, move_ending, only_if}
use Rattle.vk_base.proofs.PidLemmas.{same_pid_self}
use Rattle.v_laws.specs.Sound.{IsSoundAt}
use Rattle.v_laws.proofs.Tables.{same_name_is, same_pid_laws}
use Rattle.vk_frame.specs.declared.header.Header.{Header}
use Rattle.vk_packet.specs.Rules.{fits, is_number}
use Rattle.vk_procs.specs.declared.seat.ProcNote.{ProcNote}
use Rattle.vk_procs.specs.declared.seat.Seat.{Seat}
use Rattle.vk_procs.specs.Seats.{process_of, seat_in}
use Rattle.vk_rules.specs.Aliens.{as_arrival, is_closing}
use Rattle.vk_rules.specs.Entries.{Delivered}
use Rattle.vk_rules.specs.Frames.{Framed}
use Rattle.vk_rules.specs.PacketOutcomes.{ack_outcome}
unfoldable use Rattle.vk_rules.specs.PacketOutcomes.{packet_outcome}
use Rattle.vk_rules.specs.Readings.{Reading}
use Rattle.vk_rules.specs.Right.{answer_to}
use Rattle.vk_rules.specs.Rounds.{Outcome, nothing, only_packets, only_steps}
use Rattle.vk_rules.specs.View.{after_steps}
use Rattle.vk_rules.specs.Works.{count_in, is_answer, is_move_to, is_of_round, is_packet_to, moves_to}
use Rattle.vk_stands.specs.Fit.{AreFit}
use Rattle.vk_stands.specs.Stands.{IsMoving, IsOwnMove, Stands}
use Rattle.vk_stands.specs.Tables.{Tables}
use Rattle.vk_stands.proofs.After.{entry_for, events_are, packets_are, reading_for}
use Rattle.vk_stands.proofs.AfterFrames.{came_outcome, came_slots_still, came_steps, came_view, came_work_still}
use Rattle.vk_stands.proofs.Found.{seat_found}
use Rattle.vk_stands.proofs.MoverLeft.{acknowledged, left_acknowledged, owned, settled_exchanges, sound_over}
use Rattle.vk_stands.proofs.MovesAllowed as allowed
use Rattle.vk_stands.proofs.MovesEnded.{IsSeatInMove, next_ending, stands_over}
use Rattle.vk_stands.proofs.MovesExchange.{HasOtherMoves, part_moved}
use Rattle.vk_stands.proofs.MovesOwn.{left_long}
use Rattle.vk_stands.proofs.Parts.{Part, part_of}
use Rattle.vk_stands.proofs.Received.{received}
use Rattle.vk_move.specs.declared.mover.Acked.{Acked}
use Rattle.vk_move.specs.declared.mover.Acked.TheVariants as acks
use Rattle.vk_move.specs.Moved.{subject_by}
use Rattle.vk_move.specs.Mover.{ack_moved, ack_taken, acked_doing, acked_in, is_mover}
use Rattle.vk_move.specs.Right.{IsMoveRule, IsMoveRight}
use Rattle.vk_move.proofs.Acks.{answers_right, decided, goes_right, nothing_right, outcome}
use Rattle.vk_move.proofs.Acks as acks_to
use Rattle.vk_move.proofs.Still.{IsToMover, quiet, right_packets, right_steps}
use Rattle.vk_move.proofs.Gone.{mover_is}

uncopied : (b : Bool) (to : Pid) → cond b (sum_by count_in (steps.End to endings.Ok ∷ [])) 0 ≡ 0
uncopied true to = refl
uncopied false to = refl

pub first_number : (number moving : ℕ) (b : Bool) → (list_all is_number (number ∷ moving ∷ []) && b) ≡ true → 0 < moving
first_number number moving b t =
    let a = and_parts (list_all is_number (number ∷ moving ∷ [])) b t in
    let n = and_parts (is_number moving) true (and_parts (is_number number) (list_all is_number (moving ∷ [])) a.0).1 in
    ltb-true 0 moving (and_parts (ltb 0 moving) (ltb moving (2 ^ 63)) n.0).0

-- the move that a process notes, which waits in this one
pub noted_move : (name : Name) (moving : ℕ) (s : Seat) (noted : MoveName) → s.note.moving ≡ Some noted → is_mover name moving s ≡ true →
    (noted.exchange ≡ name) × (noted.number ≡ moving)
noted_move name moving s noted is mover =
    let m = mover_is name moving s mover in
    let one : m.noted ≡ noted = same_Some m.noted noted (sym m.is ∙ is) in
    let a = and_parts (same_name m.noted.exchange name) (m.noted.number == moving) m.same in (
      ap (λ (x : MoveName). x.exchange) (sym one) ∙ same_name_is m.noted.exchange name a.0,
      ap (λ (x : MoveName). x.number) (sym one) ∙ eqb-true m.noted.number moving a.1,
    )

-- a move is to a partner, or from one
pub either_way : (P : Type 0) (d : Activity) (w : Waiting) → d ≡ activities.Blocked w → is_moving (state_of (activities.Blocked w)) ≡ true →
    ((partner : Pid) (dest src count : ℕ) → d ≡ activities.Blocked (waitings.MoveTo partner dest src count) → P) →
    ((partner : Pid) (dest src count : ℕ) → d ≡ activities.Blocked (waitings.MoveFrom partner dest src count) → P) → P
either_way P d (waitings.MoveTo partner dest src count) state is to from = to partner dest src count state
either_way P d (waitings.MoveFrom partner dest src count) state is to from = from partner dest src count state
either_way P d (waitings.Send target m) state is to from = cc
either_way P d waitings.Receive state is to from = cc
either_way P d (waitings.ReceiveSegment start count) state is to from = cc
either_way P d (waitings.GetPid logical scope) state is to from = cc

module _ (c : Settings) (host : ℕ) (r : Reading) (h : Header) (from to : Pid) (number moving got : ℕ)
    (taken : answer_to c host r (Delivered (Framed h (MoveAck from to number moving got))) ≡ events_answered.Taken)
    (t : Tables) (fit : AreFit host t) (stands : Stands c.times host t r) where
  abbrev packet : Packet
  packet = MoveAck from to number moving got

  abbrev name : Name
  name = name_of from number

  abbrev after : Reading
  after = reading_for c host r (Delivered (Framed h packet))

  abbrev to_mover : IsToMover to packet
  to_mover = acks_to.to_mover c host r h from to number moving got taken t fit stands

  own : to.host ≡ host
  own = (received c host r h packet taken).own to refl

  some : 0 < moving
  some = first_number number moving (fits packet) (received c host r h packet taken).lawful

  -- The process waits in this move, and all its bytes are acknowledged.
  module _ (s : Seat) (found : seat_in t.seats to ≡ Some s) (partner : Pid) (dest src count : ℕ)
      (state : s.doing ≡ activities.Blocked (waitings.MoveTo partner dest src count)) (mover : is_mover name moving s ≡ true)
      (all : (got == count) ≡ true) where
    abbrev waiting : Waiting
    waiting = waitings.MoveTo partner dest src count

    here : r.view.procs to ≡ Some (process_of s)
    here = stands.procs to own ∙ ap (option_map process_of) found

    out : packet_outcome host r packet ≡ only_steps (steps.End to endings.Ok ∷ [])
    out = outcome c host r h from to number moving got taken t fit stands s found partner dest src count state mover
        ∙ cond-true (got == count) _ _ all

    abbrev moves : IsMoving r.view s partner directions.To dest count
    moves = stands.waiting to s waiting found state

    numbered : moves.name.number ≡ moving
    numbered = (noted_move name moving s moves.name moves.noted mover).1

    at_name : moves.name.exchange ≡ name
    at_name = (noted_move name moving s moves.name moves.noted mover).0

    abbrev e : Exchange
    e = moves.exchange

    e_is : r.view.exchanges name ≡ Some e
    e_is = ap r.view.exchanges (sym at_name) ∙ moves.is

    owns : (m : Move) → move_of e moving ≡ Some m → m.mover ≡ to → IsOwnMove directions.To dest count m
    owns m at by = moves.own m (ap (move_of e) numbered ∙ at) (by ∙ sym (seat_found t.seats to s found).named)

    abbrev mine : Move
    mine = new_move to directions.To dest src count (bytes_in (range_of src count) s.memory)

    mine_is : running_move r.view to ≡ Some mine
    mine_is = allowed.running_to r.view s to moving some here name e e_is partner dest src count state owns

    abbrev then_is : Exchange
    then_is = acknowledged e moving to got mine

    same : HasOtherMoves e then_is
    same = record { target = refl; message = refl; part = refl; spot = refl; stage = refl; moves = left_long e moving to mine }

    abbrev change : Exchange → Exchange
    change x = with_progress moving got (with_running moving to (running_move r.view to) x)

    settles : as_many_moves (Some e) (change e) ≡ then_is
    settles = ap (λ o. as_many_moves (Some e) (with_progress moving got (with_running moving to o e))) mine_is

    -- the view after it
    abbrev l : Kernel
    l = brought r.view packet

    there : (n : Name) → same_name n name ≡ true → l.exchanges n ≡ Some (change e)
    unfolding change_exchange
    there n t1 =
        ap (λ b. cond b (option_map change (r.view.exchanges n)) (r.view.exchanges n)) t1
        ∙ ap (option_map change) (ap r.view.exchanges (same_name_is n name t1) ∙ e_is)

    others : (n : Name) → same_name n name ≡ false → l.exchanges n ≡ r.view.exchanges n
    unfolding change_exchange
    others n f = ap (λ b. cond b (option_map change (r.view.exchanges n)) (r.view.exchanges n)) f

    abbrev k : Kernel
    k = record r.view { exchanges = put_exchange r.view.exchanges name then_is }

    abbrev in_move : IsSeatInMove s
    in_move = record { waiting = waiting; state = state; moves = refl }

    ended_is : move_ending l moves.name endings.Ok ≡ Some answers.Ok
    ended_is =
        subst (λ n. move_ending (brought r.view (MoveAck from to number moving n)) moves.name endings.Ok ≡ Some answers.Ok)
        (sym (eqb-true got count all))
        (allowed.ends_ok r.view s to moving some here name e e_is partner dest src count state owns from number refl moves.name at_name
        numbered)

    view_is : after.view ≡ with_state k to (process_of s) (state_of (activities.Done waiting outcomes.Ok))
    view_is =
        came_view c host r h packet taken
        ∙ ap (λ (o : Outcome). after_steps r.view (Some packet) o.steps) out
        ∙ ap (λ x. without_running r.view name x) (next_ending l to s here in_move endings.Ok moves.name outcomes.Ok moves.noted ended_is)
        ∙ (λ i. record (with_state l to (process_of s) (state_of (activities.Done waiting outcomes.Ok))) {
          exchanges = λ n. settled_exchanges r.view name e (change e) then_is e_is settles l.exchanges there others n i;
        })

    part : Part host t k
    part = part_moved host t r.view (part_of c.times host t r fit stands) name (received c host r h packet taken).away e then_is e_is same
        (owned t r.view to s found waiting state name e then_is e_is mine refl
        (record { direction_is = refl; dest_is = refl; count_is = refl })
        (left_acknowledged e moving to got mine))

    busy : is_ready (process_of s).state ≡ false
    busy = ap (λ d. is_ready (state_of d)) state

    quiet_state : sending (process_of s).state ≡ None
    quiet_state = ap (λ d. sending (state_of d)) state

    sound : IsSoundAt (λ g. false) (with_state k to (process_of s) (state_of (activities.Done waiting outcomes.Ok)))
    sound = sound_over k to (process_of s) (state_of (activities.Done waiting outcomes.Ok)) part.sound here busy quiet_state refl refl

    slots_same : after.slots ≡ r.slots
    slots_same = came_slots_still c host r h packet taken (ap (λ (o : Outcome). first_of (filter_map as_arrival o.steps)) out)
        (λ i a is. (refl, ap (λ (o : Outcome). list_any (is_closing a.name) o.packets) out))

    work_other : (q : Pid) → same_pid q to ≡ false → after.work q ≡ r.work q
    work_other q apart = came_work_still c host r h packet taken q
        (to_mover.answers q (r.work q) (r.view.procs q) (same_pid_laws.symm to q ∙ apart))
        (ap (λ (o : Outcome). list_any (is_of_round q) o.packets) out)
        (ap (λ (o : Outcome). cond (is_packet_to q packet) (sum_by count_in o.steps) 0) out ∙ uncopied (is_packet_to q packet) to)

    pub ends_right : IsMoveRight c host t r (entry_for c host r (Delivered (Framed h packet)))
        (ack_moved c.times r.now to got acks.Ends t.seats)
    ends_right = record {
      steps = sym (came_steps c host r h packet taken ∙ ap (λ (o : Outcome). o.steps) out);
      packets = sym (packets_are c host r (Delivered (Framed h packet))
          ∙ ap (λ (o : Outcome). o.packets) (came_outcome c host r h packet taken)
          ∙ ap (λ (o : Outcome). o.packets) out);
      stands = stands_over c.times host t r stands fit to own s found in_move k part outcomes.Ok sound after view_is slots_same
          (events_are c host r (Delivered (Framed h packet))) work_other;
    }

  -- The process does not wait in a move of this name to its partner.
  none_runs : (o : Option Process) → holds_of (λ p. moves_to p name moving) o ≡ false →
      (o >>= λ p. only_if (moves_to p name moving) (Some p)) ≡ None
  none_runs None f = refl
  none_runs (Some p) f = ap (λ b. only_if b (Some p)) f

  none_answers : (o : Option Process) → holds_of (λ p. moves_to p name moving) o ≡ false →
      holds_of (is_answer to (r.work to) packet) o ≡ false
  none_answers None f = refl
  none_answers (Some p) f = λ i. same_pid_self to i && f i && got == (r.work to).acknowledged

  none_out : holds_of (λ p. moves_to p name moving) (r.view.procs to) ≡ false → packet_outcome host r packet ≡ only_packets []
  unfolding packet_outcome
  none_out f = ap (λ o. option_map_or (ack_outcome r.view (r.work to) to got) o nothing) (none_runs (r.view.procs to) f)

  abbrev Right : Acked → Type 0
  Right a = IsMoveRight c host t r (entry_for c host r (Delivered (Framed h packet))) (ack_moved c.times r.now to got a t.seats)

  idles : holds_of (λ p. moves_to p name moving) (r.view.procs to) ≡ false → Right acks.Nothing
  idles f =
      let none = none_out f in
      record {
        steps = right_steps c host r h packet taken t stands to to_mover [] none (λ n. refl) (λ q other. refl);
        packets = right_packets c host r h packet taken t stands to to_mover [] none (λ n. refl) (λ q other. refl);
        stands = quiet c host r h packet taken t stands to to_mover [] none (λ n. refl) (λ q other. refl)
            (none_answers (r.view.procs to) f) refl;
      }

  nothing_outside : (note : ProcNote) (d : Activity) → acked_doing false note got d ≡ acks.Nothing
  nothing_outside note activities.Ready = refl
  nothing_outside note (activities.Done w o) = refl
  nothing_outside note (activities.Blocked (waitings.MoveTo partner dest src count)) = refl
  nothing_outside note (activities.Blocked (waitings.MoveFrom partner dest src count)) = refl
  nothing_outside note (activities.Blocked (waitings.Send target m)) = refl
  nothing_outside note (activities.Blocked waitings.Receive) = refl
  nothing_outside note (activities.Blocked (waitings.ReceiveSegment start count)) = refl
  nothing_outside note (activities.Blocked (waitings.GetPid logical scope)) = refl

  module _ (s : Seat) (found : seat_in t.seats to ≡ Some s) where
    in_view : r.view.procs to ≡ Some (process_of s)
    in_view = stands.procs to own ∙ ap (option_map process_of) found

    outside : is_mover name moving s ≡ false → Right (acked_in name moving got (seat_in t.seats to))
    outside f = subst Right
        (sym (ap (acked_in name moving got) found ∙ ap (λ b. acked_doing b s.note got s.doing) f ∙ nothing_outside s.note s.doing))
        (idles (ap (holds_of (λ p. moves_to p name moving)) in_view ∙ ap (λ b. b && holds_of is_move_to (blocked_in (state_of s.doing))) f))

    module _ (mover : is_mover name moving s ≡ true) where
      -- in a move from its partner
      from_partner : (partner : Pid) (dest src count : ℕ) → s.doing ≡ activities.Blocked (waitings.MoveFrom partner dest src count) →
          Right (acked_in name moving got (seat_in t.seats to))
      from_partner partner dest src count state = subst Right
          (sym (ap (acked_in name moving got) found ∙ ap (acked_doing (is_mover name moving s) s.note got) state))
          (idles (ap (holds_of (λ p. moves_to p name moving)) in_view
          ∙ (λ i. mover i && holds_of is_move_to (blocked_in (state_of (state i))))))

      -- in a move to its partner
      module _ (partner : Pid) (dest src count : ℕ) (state : s.doing ≡ activities.Blocked (waitings.MoveTo partner dest src count)) where
        by_tests : (all more as_many : Bool) → (got == count) ≡ all → (ltb s.note.offset got && ltb got count && got % 1024 == 0) ≡ more →
            (got == s.note.offset) ≡ as_many →
            Right (cond all acks.Ends (cond more acks.Restarts (cond as_many acks.Answers acks.Nothing)))
        by_tests true more as_many is is_more is_same = ends_right s found partner dest src count state mover is
        by_tests false true as_many is is_more is_same =
            goes_right c host r h from to number moving got taken t fit stands s found partner dest src count state mover is is_more
        by_tests false false true is is_more is_same =
            answers_right c host r h from to number moving got taken t fit stands s found partner dest src count state mover is is_more
            is_same
        by_tests false false false is is_more is_same =
            nothing_right c host r h from to number moving got taken t fit stands s found partner dest src count state mover is is_more
            is_same

        to_partner : Right (acked_in name moving got (seat_in t.seats to))
        to_partner = subst Right
            (sym (decided c host r h from to number moving got taken t fit stands s found partner dest src count state mover))
            (by_tests (got == count) (ltb s.note.offset got && ltb got count && got % 1024 == 0) (got == s.note.offset) refl refl refl)

      by_waiting : Right (acked_in name moving got (seat_in t.seats to))
      by_waiting =
          let m = (mover_is name moving s mover).move in
          either_way (Right (acked_in name moving got (seat_in t.seats to))) s.doing m.waiting m.state m.moves to_partner from_partner

    by_mover : (b : Bool) → is_mover name moving s ≡ b → Right (acked_in name moving got (seat_in t.seats to))
    by_mover true mover = by_waiting mover
    by_mover false f = outside f

  by_seat : (o : Option Seat) → seat_in t.seats to ≡ o → Right (acked_in name moving got (seat_in t.seats to))
  by_seat None none = subst Right (sym (ap (acked_in name moving got) none))
      (idles (ap (holds_of (λ p. moves_to p name moving)) (stands.procs to own ∙ ap (option_map process_of) none)))
  by_seat (Some s) found = by_mover s found (is_mover name moving s) refl

  pub ack_right : IsMoveRight c host t r (entry_for c host r (Delivered (Framed h packet)))
      (ack_taken c.times r.now (subject_by to from number moving) got t.seats)
  ack_right = by_seat (seat_in t.seats to) refl

pub ack_rule : (times : Times) (now : ℕ) (from to : Pid) (number moving got : ℕ) (seats : List Seat) →
    IsMoveRule times now (MoveAck from to number moving got) seats (ack_taken times now (subject_by to from number moving) got seats)
ack_rule times now from to number moving got seats c host t r h same at fit stands taken =
    subst (λ x. IsMoveRight c host (record t { seats = seats }) r
    (entry_for c host r (Delivered (Framed h (MoveAck from to number moving got))))
    (ack_taken x now (subject_by to from number moving) got seats)) same
    (subst (λ n. IsMoveRight c host (record t { seats = seats }) r
    (entry_for c host r (Delivered (Framed h (MoveAck from to number moving got))))
    (ack_taken c.times n (subject_by to from number moving) got seats)) at
    (ack_right c host r h from to number moving got taken (record t { seats = seats }) fit
    (subst (λ x. Stands x host (record t { seats = seats }) r) (sym same) stands)))
