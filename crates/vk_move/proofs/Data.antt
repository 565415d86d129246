-- Data of a move comes to its sender's station, by the tables and by the rules.
use Rattle.std.proofs.Common.{◌≡◌, ◌≤◌, ◌<◌, ℕ, ◌+◌, ◌==◌, ◌&&◌, Bool, true, false, cond, List, [], ◌∷◌, ◌++◌, length, refl, sym, ap, subst, ◌∙◌, Option, Some, None, ltb, leb, arith}
use Rattle.std.specs.List.{list_all, list_any, filter_map}
use Rattle.std.specs.Option.{option_map_or}
use Rattle.std.proofs.lemmas.Bool.{and_parts, eqb-true, leb-true, le-leb, leb-false, ltb-true, ltb-false}
use Rattle.v_laws.proofs.MoveLists.{put_move_here}
use Rattle.vk_types.specs.Types.{Exchange, Message, Move, Name, Pid, Process, Step, Times}
use Rattle.vk_base.specs.declared.activity.Waiting.TheVariants as waitings
use Rattle.vk_base.specs.declared.event.EventAnswer.TheVariants as events_answered
use Rattle.vk_base.specs.declared.limits.TheConstants.{MOVE_BYTES}
use Rattle.vk_base.specs.declared.step.Step.TheVariants as steps
use Rattle.vk_base.specs.Brought.{brought, move_to_sender, with_data}
use Rattle.vk_base.specs.Firsts.{change_first}
use Rattle.vk_base.specs.Kernel.{Kernel, holds_of, move_of, name_of, sending, with_memory}
use Rattle.vk_base.specs.Messages.{grants_write, segment_of}
use Rattle.vk_base.specs.Packets.{Packet, MoveAck, MoveData, MoveNegative}
use Rattle.vk_base.specs.Ranges.{lies_in, lies_within, range_of, with_bytes}
use Rattle.vk_base.specs.Settings.{Settings}
use Rattle.vk_base.specs.Steps.{first_of, next as stepped}
use Rattle.vk_base.proofs.BoolLemmas.{plus_zero}
use Rattle.vk_frame.specs.declared.header.Header.{Header}
use Rattle.vk_packet.specs.Rules.{is_number, is_place, piece_len}
use Rattle.vk_procs.specs.declared.seat.Seat.{Seat}
use Rattle.vk_procs.specs.Seats.{is_seat, process_of, seat_in, written}
use Rattle.vk_rules.specs.Aliens.{as_arrival, is_closing}
use Rattle.vk_rules.specs.Entries.{Delivered}
use Rattle.vk_rules.specs.Frames.{Framed}
use Rattle.vk_rules.specs.PacketOutcomes.{FarSender, data_outcome, far_partner, has_made, may_be_written, no_sender}
unfoldable use Rattle.vk_rules.specs.PacketOutcomes.{packet_outcome}
use Rattle.vk_rules.specs.Readings.{Reading}
use Rattle.vk_rules.specs.Right.{answer_to}
use Rattle.vk_rules.specs.Rounds.{Outcome, list_if, nothing, only_packets}
use Rattle.vk_rules.specs.View.{after_steps}
use Rattle.vk_rules.specs.Works.{is_answer, is_last, is_of_round}
use Rattle.vk_stands.specs.Fit.{AreFit}
use Rattle.vk_stands.specs.Stands.{Stands}
use Rattle.vk_stands.specs.Tables.{Tables}
use Rattle.vk_stands.proofs.After.{entry_for, reading_for}
use Rattle.vk_stands.proofs.Found.{seat_found}
use Rattle.vk_stands.proofs.MovesOwn.{moved_long}
use Rattle.vk_stands.proofs.Parts.{Carries, Part}
use Rattle.vk_stands.proofs.Received.{received}
use Rattle.vk_stands.proofs.SentMoves.{HasMoreMoves, with_send}
use Rattle.vk_stands.proofs.SentStands.{IsCalm, IsPlain, sends_are, stands_moved, stands_quiet, steps_are}
use Rattle.vk_stands.proofs.SentSteps.{copies, moved_there, opened, opens}
use Rattle.vk_stands.proofs.RemoteReply.{changed_is_put}
use Rattle.vk_move.specs.declared.sender.Demand.TheVariants as demands
use Rattle.vk_move.specs.declared.sender.Sender.{Sender}
use Rattle.vk_move.specs.declared.sender.Sender.TheVariants as senders
use Rattle.vk_move.specs.Moved.{Moved, change_note, subject_by, place_in, progressed, still}
use Rattle.vk_move.specs.Right.{IsMoveRule, IsMoveRight}
use Rattle.vk_move.specs.Sender.{data_moved, data_taken, data_wanted, may_write, sender_by}
use Rattle.vk_move.proofs.Keeping.{IsPiece, piece_of}
use Rattle.vk_move.proofs.Pieces.{place_is}
use Rattle.vk_move.proofs.Senders.{Decided, IsWaiter, decided}
use Rattle.vk_move.proofs.Waiters.{carries_copied, carries_noted, here, more_opened, part_copied, part_noted, still_noted, waits}

pub never : (x : Option Process) (b : Process → Bool) → ((p : Process) → b p ≡ false) → holds_of b x ≡ false
never None b none = refl
never (Some p) b none = none p

-- the number of a move in a lawful packet
pub some_number : (number moving : ℕ) → list_all is_number (number ∷ moving ∷ []) ≡ true → 0 < moving
some_number number moving t =
    let a = and_parts (is_number number) (list_all is_number (moving ∷ [])) t in
    let b = and_parts (is_number moving) (list_all is_number []) a.1 in
    ltb-true 0 moving (and_parts (ltb 0 moving) _ b.0).0

module _ (c : Settings) (host : ℕ) (r : Reading) (h : Header) (from to : Pid) (number moving dest total offset : ℕ) (bytes : List ℕ)
    (taken : answer_to c host r (Delivered (Framed h (MoveData from to number moving dest total offset bytes))) ≡ events_answered.Taken)
    (t : Tables) (fit : AreFit host t) (stands : Stands c.times host t r) where
  abbrev packet : Packet
  packet = MoveData from to number moving dest total offset bytes

  abbrev name : Name
  name = name_of to number

  abbrev after : Reading
  after = reading_for c host r (Delivered (Framed h packet))

  own : to.host ≡ host
  own = (received c host r h packet taken).own to refl

  away : from.host ≡ host → ⊥
  away = (received c host r h packet taken).away

  some : 0 < moving
  some = some_number number moving
      (and_parts (list_all is_number (number ∷ moving ∷ [])) (is_place total offset && (length bytes == piece_len total offset))
      (received c host r h packet taken).lawful).0

  piece : IsPiece total offset bytes
  piece = piece_of total offset bytes (list_all is_number (number ∷ moving ∷ [])) (received c host r h packet taken).lawful

  any : 1 ≤ length bytes
  any = let p = place_is total offset piece.place in omega (arith, piece.length_is, p.inside)

  within : offset + length bytes ≤ total
  within = let p = place_is total offset piece.place in omega (arith, piece.length_is, p.inside)

  low : offset + length bytes ≤ MOVE_BYTES
  low = let p = place_is total offset piece.place in omega (arith, within, p.few)

  plain : IsPlain to packet
  plain = record { copy = λ n. refl; answer = λ q w x. never x (is_answer q w packet) (λ p. refl); receiver = λ q. refl }

  abbrev Right : Moved → Type 0
  Right mm = IsMoveRight c host t r (entry_for c host r (Delivered (Framed h packet))) mm

  right : (o : Outcome) → packet_outcome host r packet ≡ o → IsCalm o → (mm : Moved) → mm.steps ≡ o.steps → mm.packets ≡ o.packets →
      Stands c.times host (record t { seats = mm.seats }) after → Right mm
  right o out calm mm same_steps same_packets then_stands = record {
    steps = same_steps ∙ sym (steps_are c host r h packet taken to plain o out calm t stands);
    packets = same_packets ∙ sym (sends_are c host r h packet taken to plain o out calm t stands);
    stands = then_stands;
  }

  -- no step, and these packets
  quiet : (ps : List Packet) → packet_outcome host r packet ≡ only_packets ps → IsCalm (only_packets ps) →
      Right (record { seats = t.seats; steps = []; packets = ps })
  quiet ps out calm = right (only_packets ps) out calm (record { seats = t.seats; steps = []; packets = ps }) refl refl
      (stands_quiet c host r h packet taken to plain (only_packets ps) out calm t stands refl)

  calm_none : IsCalm (only_packets [])
  calm_none = record { arrival = refl; closes = λ n. refl; rounds = λ q. refl }

  calm_gone : IsCalm (only_packets (MoveNegative to from number moving ∷ []))
  calm_gone = record { arrival = refl; closes = λ n. refl; rounds = λ q. refl }

  out_by : (o : Option FarSender) → far_partner r.view name from ≡ o → packet_outcome host r packet
      ≡ option_map_or (λ (w : FarSender). cond (may_be_written dest total w)
      (data_outcome name from moving total offset bytes w.exchange) nothing) o (no_sender r.view name from moving)
  unfolding packet_outcome
  out_by o is = ap (λ o. option_map_or (λ (w : FarSender). cond (may_be_written dest total w)
      (data_outcome name from moving total offset bytes w.exchange) nothing) o (no_sender r.view name from moving)) is

  made : (b : Bool) → has_made r.view name ≡ b → no_sender r.view name from moving
      ≡ only_packets (list_if b (MoveNegative to from number moving ∷ []))
  made b is = ap (λ b. only_packets (list_if b (MoveNegative to from number moving ∷ []))) is

  -- what a wanted packet does, by the rules and by the tables
  abbrev opener : Step
  opener = steps.OpenMove to number moving

  abbrev copy : Step
  copy = steps.Copy to number moving offset (length bytes)

  abbrev acked : ℕ → List Packet
  acked d = list_if (is_last total offset bytes) (MoveAck to from number moving d ∷ [])

  abbrev by_tests : (later far next : Bool) (before : ℕ) → Outcome
  by_tests later far next before = record {
    steps = list_if later (opener ∷ []) ++ list_if (far && next) (copy ∷ []);
    packets = list_if (far && is_last total offset bytes)
        (MoveAck to from number moving (before + (cond (far && next) (length bytes) 0)) ∷ []);
  }

  abbrev moved_by : (later next : Bool) (before : ℕ) → Moved
  moved_by later next before = record {
    seats = change_note to (progressed moving (cond next (offset + length bytes) before))
        (cond next (change_first (is_seat to) (written (place_in dest offset) bytes) t.seats) t.seats);
    steps = list_if later (opener ∷ []) ++ list_if next (copy ∷ []);
    packets = acked (cond next (offset + length bytes) before);
  }

  closed_by : (b : Bool) (d : ℕ) (n : Name) → list_any (is_closing n) (list_if b (MoveAck to from number moving d ∷ [])) ≡ false
  closed_by true d n = refl
  closed_by false d n = refl

  round_by : (b : Bool) (d : ℕ) (q : Pid) → list_any (is_of_round q) (list_if b (MoveAck to from number moving d ∷ [])) ≡ false
  round_by true d q = refl
  round_by false d q = refl

  arrival_by : (a b : Bool) → first_of (filter_map as_arrival (list_if a (opener ∷ []) ++ list_if b (copy ∷ []))) ≡ None
  arrival_by true true = refl
  arrival_by true false = refl
  arrival_by false true = refl
  arrival_by false false = refl

  calm_by : (later next : Bool) (before : ℕ) → IsCalm (by_tests later true next before)
  calm_by later next before = record {
    arrival = arrival_by later next;
    closes = λ n. closed_by (is_last total offset bytes) (before + (cond next (length bytes) 0)) n;
    rounds = λ q. round_by (is_last total offset bytes) (before + (cond next (length bytes) 0)) q;
  }

  -- the process waits
  module _ (m : Message) (current done : ℕ) (w : IsWaiter t r from to number m current done) where
    abbrev e : Exchange
    e = w.exchange

    abbrev p : Process
    p = process_of w.seat

    abbrev mv : Move
    mv = move_to_sender from dest total offset bytes

    abbrev e0 : Exchange
    e0 = with_data moving mv e

    brought_is : brought r.view packet ≡ with_send r.view name e0
    brought_is = λ i. record r.view { exchanges = changed_is_put r.view.exchanges name (with_data moving mv) e w.is i }

    at0 : move_of e0 moving ≡ Some mv
    at0 = put_move_here e moving mv some

    more0 : HasMoreMoves e e0
    more0 = record { target = refl; message = refl; part = refl; spot = refl; stage = refl; moves = moved_long e.moves moving mv }

    process_here : r.view.procs to ≡ Some p
    process_here = here c.times host t r stands fit from to own away number moving m current done w

    sends : sending p.state ≡ Some (w.target, m)
    sends = waits c.times host t r stands fit from to own away number moving m current done w

    -- the opened move
    abbrev e1 : Exchange
    e1 = opened r.view to number moving p process_here (w.target, m) sends w.last e0 mv

    more1 : HasMoreMoves e e1
    more1 = more_opened c.times host t r stands fit from to own away number moving m current done w e0 mv more0

    opened_view : ltb current moving ≡ true → stepped (brought r.view packet) opener ≡ with_send r.view name e1
    opened_view later = ap (λ k. stepped k opener) brought_is
        ∙ opens r.view to number moving p process_here (w.target, m) sends w.last e0 mv (ap (λ n. ltb n moving) w.open_is ∙ later) at0

    at1 : move_of e1 moving ≡ Some mv
    at1 = moved_there e0 moving moving 0 mv mv at0

    -- the memory then
    abbrev k1 : Kernel
    k1 = with_memory r.view to p (with_bytes p.memory (dest + offset) bytes)

    copied_view : (x : Exchange) → x.opened ≡ moving → x.done ≡ offset → move_of x moving ≡ Some mv →
        stepped (with_send r.view name x) copy ≡ with_send k1 name (record x { done = x.done + length bytes })
    copied_view x is_open so_far at = copies r.view to number moving p process_here
        (w.target, m) sends w.last from dest total offset bytes any within x
        is_open so_far at

    lies : may_write m dest total ≡ true → lies_in (range_of (dest + offset) (length bytes)) (length w.seat.memory) ≡ true
    lies granted =
        let a = and_parts (grants_write m) (lies_within (range_of dest total) (segment_of m)) granted in
        let b = and_parts (leb (segment_of m).start dest) (leb (dest + total) ((segment_of m).start + (segment_of m).len)) a.1 in
        let in_segment = leb-true (dest + total) ((segment_of m).start + (segment_of m).len) b.1 in
        let place = seat_found t.seats to w.seat w.found in
        let in_memory = leb-true ((segment_of m).start + (segment_of m).len) (length w.seat.memory)
        ((fit.seats place.at w.seat place.here).waits (waitings.Send w.target m) w.state) in
        le-leb (dest + offset + length bytes) (length w.seat.memory) (omega (arith, in_segment, in_memory, within))

    out_waits : packet_outcome host r packet ≡ cond (may_write m dest total) (data_outcome name from moving total offset bytes e) nothing
    out_waits = out_by (Some (record { process = p; message = m; exchange = e })) w.far

    abbrev out_at : (now so_far : ℕ) → Outcome
    out_at now so_far = by_tests (ltb now moving) (leb now moving) (offset == cond (ltb now moving) 0 so_far) (cond
        (ltb now moving) 0 so_far)

    out_granted : may_write m dest total ≡ true → packet_outcome host r packet ≡ out_at current done
    out_granted granted = out_waits ∙ ap (λ b. cond b (data_outcome name from moving total offset bytes e) nothing) granted
        ∙ (λ i. out_at (w.open_is i) (w.so_far i))

    moved_stands : (later next : Bool) (before : ℕ) → packet_outcome host r packet ≡ by_tests later true next before →
        Part host (record t { seats = (moved_by later next before).seats })
        (after_steps r.view (Some packet) (by_tests later true next before).steps) →
        Carries 1 t (record t { seats = (moved_by later next before).seats }) →
        Stands c.times host (record t { seats = (moved_by later next before).seats }) after
    moved_stands later next before out part carries =
        stands_moved c host r h packet taken to plain (by_tests later true next before) out
        (calm_by later next before) t stands w.seat w.found
        w.target m w.state (record t { seats = (moved_by later next before).seats }) part carries refl

    acked_same : (next : Bool) (before : ℕ) → (next ≡ true → offset ≡ before) →
        (moved_by true next before).packets ≡ (by_tests true true next before).packets
    acked_same true before is = ap (λ d. acked (d + length bytes)) (is refl)
    acked_same false before is = ap acked (sym (plus_zero before))

    -- by what is next
    right_by : (later next : Bool) (before : ℕ) → may_write m dest total ≡ true →
        packet_outcome host r packet ≡ by_tests later true next before →
        (next ≡ true → offset ≡ before) → ltb current moving ≡ later → leb current moving ≡ true → before ≡ cond later 0 done →
        Right (moved_by later next before)
    right_by false false before granted out is later far so_far =
        let same : current ≡ moving = omega (arith, ltb-false current moving later, leb-true current moving far) in
        let seats : change_note to (progressed moving before) t.seats ≡ t.seats =
        ap (λ d. change_note to (progressed moving d) t.seats) so_far
        ∙ still_noted c.times host t r stands fit from to own away number moving m current done w same in
        right (by_tests false true false before) out (calm_by false false before) (moved_by false false before) refl
        (acked_same false before is)
        (subst (λ xs. Stands c.times host (record t { seats = xs }) after) (sym seats)
        (stands_quiet c host r h packet taken to plain (by_tests false true false before) out (calm_by false false before) t stands refl))
    right_by true false before granted out is later far so_far =
        right (by_tests true true false before) out (calm_by true false before) (moved_by true false before) refl
        (acked_same false before is)
        (moved_stands true false before out
        (subst (Part host (record t { seats = (moved_by true false before).seats })) (sym (opened_view later))
        (part_noted c.times host t r stands fit from to own away number moving m current done w e1 before more1 refl (sym so_far)
        (subst (λ d. d ≤ MOVE_BYTES) (sym so_far) (omega arith))))
        (carries_noted c.times host t r stands fit from to own away number moving m current done w before))
    right_by false true before granted out is later far so_far =
        let same : current ≡ moving = omega (arith, ltb-false current moving later, leb-true current moving far) in
        let start : e.done ≡ offset = w.so_far ∙ sym so_far ∙ sym (is refl) in
        let y : Exchange = record e0 { done = e0.done + length bytes } in
        right (by_tests false true true before) out (calm_by false true before) (moved_by false true before) refl
        (acked_same true before is)
        (moved_stands false true before out
        (subst (Part host (record t { seats = (moved_by false true before).seats }))
        (sym (ap (λ k. stepped k copy) brought_is ∙ copied_view e0 (w.open_is ∙ same) start at0))
        (part_copied c.times host t r stands fit from to own away number moving m current done w (dest + offset) bytes (lies granted) y
        (offset + length bytes)
        (record { target = refl; message = refl; part = refl; spot = refl; stage = refl; moves = more0.moves }) (w.open_is ∙ same)
        (ap (λ n. n + length bytes) start) low))
        (carries_copied c.times host t r stands fit from to own away number moving m current done w (dest + offset) bytes (lies granted)
        (offset + length bytes)))
    right_by true true before granted out is later far so_far =
        let start : 0 ≡ offset = sym so_far ∙ sym (is refl) in
        let y : Exchange = record e1 { done = e1.done + length bytes } in
        right (by_tests true true true before) out (calm_by true true before) (moved_by true true before) refl (acked_same true before is)
        (moved_stands true true before out
        (subst (Part host (record t { seats = (moved_by true true before).seats }))
        (sym (ap (λ k. stepped k copy) (opened_view later) ∙ copied_view e1 refl start at1))
        (part_copied c.times host t r stands fit from to own away number moving m current done w (dest + offset) bytes (lies granted) y
        (offset + length bytes)
        (record { target = refl; message = refl; part = refl; spot = refl; stage = refl; moves = more1.moves }) refl
        (ap (λ n. n + length bytes) start) low))
        (carries_copied c.times host t r stands fit from to own away number moving m current done w (dest + offset) bytes (lies granted)
        (offset + length bytes)))

    -- by whether it is granted, and how the move stands to the open one
    nothing_out : packet_outcome host r packet ≡ only_packets [] → Right (still t.seats)
    nothing_out out = quiet [] out calm_none

    right_tests : (g far later : Bool) → may_write m dest total ≡ g → leb current moving ≡ far → ltb current moving ≡ later →
        Right (data_moved name from moving dest total offset bytes
        (cond (g && far) (demands.Wanted later (cond later 0 done)) demands.Nothing) t.seats)
    right_tests false far later granted reached higher =
        nothing_out (out_waits ∙ ap (λ b. cond b (data_outcome name from moving total offset bytes e) nothing) granted)
    right_tests true false true granted reached higher =
        absurd (omega (arith, ltb-true current moving higher, leb-false current moving reached))
    right_tests true false false granted reached higher =
        nothing_out (out_granted granted ∙ (λ i. by_tests (higher i) (reached i) (offset == cond (higher i) 0 done) (cond
        (higher i) 0 done)))
    right_tests true true later granted reached higher =
        right_by later (offset == cond later 0 done) (cond later 0 done) granted
        (out_granted granted ∙ (λ i. by_tests (higher i) (reached i) (offset == cond (higher i) 0 done) (cond (higher i) 0 done)))
        (λ t1. eqb-true offset (cond later 0 done) t1) higher reached refl

    right_waits : Right (data_moved name from moving dest total offset bytes
        (data_wanted moving dest total (senders.Waits m current done)) t.seats)
    right_waits = right_tests (may_write m dest total) (leb current moving) (ltb current moving) refl refl refl

  right_sender : (x : Sender) → Decided t r from to number x →
      Right (data_moved name from moving dest total offset bytes (data_wanted moving dest total x) t.seats)
  right_sender senders.Unknown d = quiet [] (out_by None d.0 ∙ made false d.1) calm_none
  right_sender senders.Gone d = quiet (MoveNegative to from number moving ∷ []) (out_by None d.0 ∙ made true d.1) calm_gone
  right_sender (senders.Waits m current done) w = right_waits m current done w

  pub data_right : Right (data_taken (subject_by from to number moving) dest total offset bytes t.seats)
  data_right = right_sender (sender_by to from number (seat_in t.seats to)) (decided c.times host t r stands from to own number)

pub data_rule : (times : Times) (now : ℕ) (from to : Pid) (number moving dest total offset : ℕ) (bytes : List ℕ) (seats : List Seat) →
    IsMoveRule times now (MoveData from to number moving dest total offset bytes) seats
    (data_taken (subject_by from to number moving) dest total offset bytes seats)
data_rule times now from to number moving dest total offset bytes seats c host t r h same at fit stands taken =
    data_right c host r h from to number moving dest total offset bytes taken (record t { seats = seats }) fit
    (subst (λ x. Stands x host (record t { seats = seats }) r) (sym same) stands)
