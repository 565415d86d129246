-- After a packet of a move, and after a tick, the tables still fit.
use Rattle.std.proofs.Common.{◌≡◌, ◌≤◌, ℕ, ◌+◌, Bool, true, false, cond, ◌==◌, ◌&&◌, List, length, refl, ap, sym, ◌∙◌, arith, ltb}
use Rattle.std.specs.Cmp.Derive.{both_true}
use Rattle.std.specs.List.{list_all}
use Rattle.std.proofs.lemmas.Bool.{and_parts, eqb-true, both_ways, eq-eqb}
use Rattle.vk_types.specs.Types.{Pid, Times, Waiting}
use Rattle.vk_base.specs.declared.activity.Activity.TheVariants as activities
use Rattle.vk_base.specs.declared.activity.Waiting.TheVariants as waitings
use Rattle.vk_base.specs.declared.answer.Ending.TheVariants as endings
use Rattle.vk_base.specs.Firsts.{change_first}
use Rattle.vk_base.specs.Kernel.{holds_of, name_of}
use Rattle.vk_base.specs.Packets.{Packet, Send, Reply, Pending, Negative, MoveData, MoveAck, MoveRequest, MoveBytes, MoveNegative, AskPid, TellPid}
use Rattle.vk_base.proofs.OptionLemmas.{mapped_is}
use Rattle.vk_packet.specs.Rules.{is_lawful, is_number, is_place, numbers_of, piece_len}
use Rattle.vk_procs.specs.declared.seat.ProcNote.{ProcNote}
use Rattle.vk_procs.specs.declared.seat.Seat.{Seat}
use Rattle.vk_procs.specs.Seats.{is_seat, seat_in, written}
use Rattle.vk_stands.specs.Fit.{is_move_of, may_go_on}
use Rattle.vk_stands.proofs.Seats.{find-changed}
use Rattle.vk_move.specs.declared.tick.Ticked.{Ticked}
use Rattle.vk_move.specs.declared.tick.Ticked.TheVariants as ticks
use Rattle.vk_move.specs.declared.mover.Acked.{Acked}
use Rattle.vk_move.specs.declared.mover.Acked.TheVariants as acks
use Rattle.vk_move.specs.declared.mover.Brought.{Brought}
use Rattle.vk_move.specs.declared.mover.Brought.TheVariants as brought
use Rattle.vk_move.specs.declared.sender.Demand.{Demand}
use Rattle.vk_move.specs.declared.sender.Demand.TheVariants as demands
use Rattle.vk_move.specs.Due.{due_moved, tick_moved, ticked_in}
use Rattle.vk_move.specs.Fitting.{KeepsFit}
use Rattle.vk_timer.specs.Works.{started}
use Rattle.vk_move.specs.Moved.{HasFitSeats, change_note, subject_by, place_in, received, renoted, still}
use Rattle.vk_move.specs.Mover.{ack_moved, ack_taken, acked_in, brought_by, brought_doing, brought_in, bytes_moved, bytes_taken, gone_taken, is_mover, piece_written, ended}
use Rattle.vk_move.specs.Sender.{bytes_wanted, data_moved, data_taken, data_wanted, done_after, request_moved, request_taken, sender_by, written_if_next}
use Rattle.vk_move.specs.Taken.{packet_taken}
use Rattle.vk_move.proofs.Fitting.{fit_noted, kept_answered, kept_change, kept_ended, kept_progressed, kept_restarted, kept_same, kept_then, kept_written}
use Rattle.vk_move.proofs.Going.{ack_goes_on, bytes_go_on}
use Rattle.vk_move.proofs.Pieces.{is_at, place_is}
use Rattle.vk_move.proofs.Ticks.{tick_goes_on}
use Rattle.vk_move.proofs.Wanted.{done_low, low_before, low_asked}

-- what is known of the bytes of a packet
pub record IsPiece (total offset : ℕ) (bytes : List ℕ) : Type 0 where
  pub place : is_place total offset ≡ true
  pub length_is : length bytes ≡ piece_len total offset

pub piece_of : (total offset : ℕ) (bytes : List ℕ) (numbers : Bool) →
    (numbers && (is_place total offset && (length bytes == piece_len total offset))) ≡ true → IsPiece total offset bytes
piece_of total offset bytes numbers t =
    let a = and_parts numbers (is_place total offset && (length bytes == piece_len total offset)) t in
    let b = and_parts (is_place total offset) (length bytes == piece_len total offset) a.1 in
    record { place = b.0; length_is = eqb-true (length bytes) (piece_len total offset) b.1 }

end_low : (total offset : ℕ) (bytes : List ℕ) → IsPiece total offset bytes → offset + length bytes ≤ 65536
end_low total offset bytes p = let h = place_is total offset p.place in omega (arith, p.length_is, h.few, h.inside)

-- Acknowledgements.
module _ (t : Times) (now : ℕ) (seats : List Seat) (fit : HasFitSeats seats) (from to : Pid) (number moving : ℕ) where
  by_ack : (got : ℕ) (a : Acked) → a ≡ acked_in (name_of from number) moving got (seat_in seats to) →
      KeepsFit seats (ack_moved t now to got a seats).seats
  by_ack got acks.Nothing is = kept_same seats
  by_ack got acks.Answers is = kept_answered seats to t now
  by_ack got acks.Restarts is = kept_restarted seats to (started t now) got (ack_goes_on seats fit to (name_of from number) moving got is)
  by_ack got acks.Ends is = kept_ended seats to endings.Ok

  pub ack_keeps : (got : ℕ) → KeepsFit seats (ack_taken t now (subject_by to from number moving) got seats).seats
  ack_keeps got = by_ack got (acked_in (name_of from number) moving got (seat_in seats to)) refl

  -- Bytes: the next place is one, where they are not the last.
  next_by : (a b : Bool) (c : Brought) (dest' dest : ℕ) → cond a (brought.Next dest' b) c ≡ brought.Next dest false →
      (c ≡ brought.Next dest false → ⊥) → (a ≡ true) × (b ≡ false)
  next_by true true c dest' dest is never = cc
  next_by true false c dest' dest is never = (refl, refl)
  next_by false b c dest' dest is never = absurd (never is)

  gap_never : (a b : Bool) (from dest : ℕ) →
      cond a (cond b (brought.Restarts from) brought.Answers) brought.Nothing ≡ brought.Next dest false → ⊥
  gap_never true true from dest is = cc
  gap_never true false from dest is = cc
  gap_never false b from dest is = cc

  further : (note : ProcNote) (total offset dest' dest end : ℕ) (bytes : List ℕ) → IsPiece total offset bytes →
      end ≡ offset + length bytes →
      brought_by note dest' total offset end ≡ brought.Next dest false → is_place total end ≡ true
  further note total offset dest' dest end bytes p ends is =
      let x = next_by (offset == note.offset) (end == total) _ dest' dest is
      (gap_never (ltb note.offset offset && end == total) note.fresh note.offset dest) in
      let h = place_is total offset p.place in
      let apart : end ≡ total → ⊥ = λ e. both_ways (end == total) x.1 (eq-eqb end total e) in
      let len : length bytes ≡ 1024 = omega (arith, p.length_is, ends, apart, h.inside) in
      is_at total end (record {
        some = h.some;
        few = h.few;
        multiple = omega (arith, h.multiple, len, ends);
        inside = omega (arith, h.inside, p.length_is, len, ends, apart);
      })

  inside_by : (a : Bool) (c : Brought) (dest : ℕ) → cond a c brought.Nothing ≡ brought.Next dest false →
      (a ≡ true) × (c ≡ brought.Next dest false)
  inside_by true c dest is = (refl, is)
  inside_by false c dest is = cc

  goes_further : (note : ProcNote) (w : Waiting) (inside : Bool) (total offset dest end : ℕ) (bytes : List ℕ) → IsPiece total offset bytes →
      end ≡ offset + length bytes → brought_doing inside note total offset end (activities.Blocked w) ≡ brought.Next dest false →
      may_go_on note w ≡ true → may_go_on (record note { offset = end }) w ≡ true
  goes_further note (waitings.MoveFrom partner dest' src count) inside total offset dest end bytes p ends is goes =
      let x = inside_by (inside && count == total) (brought_by note dest' total offset end) dest is in
      let same : count ≡ total = eqb-true count total (and_parts inside (count == total) x.0).1 in
      let a = and_parts (holds_of (is_move_of partner) note.moving) (is_place count note.offset) goes in
      both_true a.0 (ap (λ n. is_place n end) same ∙ further note total offset dest' dest end bytes p ends x.1)
  goes_further note (waitings.MoveTo partner dest' src count) inside total offset dest end bytes p ends is goes = cc
  goes_further note (waitings.Send target m) inside total offset dest end bytes p ends is goes = refl
  goes_further note waitings.Receive inside total offset dest end bytes p ends is goes = refl
  goes_further note (waitings.ReceiveSegment start count) inside total offset dest end bytes p ends is goes = refl
  goes_further note (waitings.GetPid logical scope) inside total offset dest end bytes p ends is goes = refl

  same_received : (end : ℕ) (n : ProcNote) (w : Waiting) → may_go_on (received t now end n) w ≡ may_go_on (record n { offset = end }) w
  same_received end n w = refl

  kept_received : (total offset dest at : ℕ) (bytes : List ℕ) → IsPiece total offset bytes →
      brought.Next dest false ≡ brought_in (name_of from number) moving total offset (offset + length bytes) (seat_in seats to) →
      KeepsFit (change_first (is_seat to) (written at bytes) seats)
      (change_note to (received t now (offset + length bytes)) (change_first (is_seat to) (written at bytes) seats))
  kept_received total offset dest at bytes p is =
      let seats' : List Seat = change_first (is_seat to) (written at bytes) seats in
      kept_change seats' to (renoted (received t now (offset + length bytes))) (λ x. refl)
      (λ host y found f.
      let x = mapped_is (written at bytes) (seat_in seats to) y (sym (find-changed to (written at bytes) (λ z. refl) seats) ∙ found) in
      let note : x.0.note ≡ y.note = ap (λ (z : Seat). z.note) x.2 in
      let doing : x.0.doing ≡ y.doing = ap (λ (z : Seat). z.doing) x.2 in
      fit_noted host (received t now (offset + length bytes)) y refl refl f.done
      (λ w blocked.
      same_received (offset + length bytes) y.note w
      ∙ goes_further y.note w (is_mover (name_of from number) moving x.0) total offset dest (offset + length bytes) bytes p refl
      (ap (brought_doing (is_mover (name_of from number) moving x.0) y.note total offset (offset + length bytes)) (sym blocked ∙ sym doing)
      ∙ ap (λ n. brought_doing (is_mover (name_of from number) moving x.0) n total offset (offset + length bytes) x.0.doing) (sym note)
      ∙ ap (brought_in (name_of from number) moving total offset (offset + length bytes)) (sym x.1) ∙ sym is) (f.moves w blocked)) f)

  by_brought : (total offset : ℕ) (bytes : List ℕ) → IsPiece total offset bytes → (b : Brought) →
      b ≡ brought_in (name_of from number) moving total offset (offset + length bytes) (seat_in seats to) →
      KeepsFit seats (bytes_moved t now to (name_of from number) moving offset bytes b seats).seats
  by_brought total offset bytes p brought.Nothing is = kept_same seats
  by_brought total offset bytes p brought.Answers is = kept_answered seats to t now
  by_brought total offset bytes p (brought.Restarts at) is =
      kept_restarted seats to (started t now) at (bytes_go_on seats fit to (name_of from number) moving total offset (offset + length bytes) at is)
  by_brought total offset bytes p (brought.Next dest true) is =
      kept_then seats (piece_written to dest offset bytes seats) _ (kept_written seats to (place_in dest offset) bytes)
      (kept_ended (piece_written to dest offset bytes seats) to endings.Ok)
  by_brought total offset bytes p (brought.Next dest false) is =
      kept_then seats (piece_written to dest offset bytes seats) _ (kept_written seats to (place_in dest offset) bytes)
      (kept_received total offset dest (place_in dest offset) bytes p is)

  pub bytes_keep : (total offset : ℕ) (bytes : List ℕ) → IsPiece total offset bytes →
      KeepsFit seats (bytes_taken t now (subject_by to from number moving) total offset bytes seats).seats
  bytes_keep total offset bytes p = by_brought total offset bytes p
      (brought_in (name_of from number) moving total offset (offset + length bytes) (seat_in seats to)) refl

  by_gone : (b : Bool) → KeepsFit seats (cond b (ended to endings.Gone seats) (still seats)).seats
  by_gone true = kept_ended seats to endings.Gone
  by_gone false = kept_same seats

  pub gone_keeps : KeepsFit seats (gone_taken (subject_by to from number moving) seats).seats
  gone_keeps = by_gone (holds_of (is_mover (name_of from number) moving) (seat_in seats to))

  -- At the sender's.
  kept_if : (b : Bool) (pid : Pid) (dest offset : ℕ) (bytes : List ℕ) → KeepsFit seats (written_if_next b pid dest offset bytes seats)
  kept_if true pid dest offset bytes = kept_written seats pid (place_in dest offset) bytes
  kept_if false pid dest offset bytes = kept_same seats

  by_data : (dest total offset : ℕ) (bytes : List ℕ) → IsPiece total offset bytes → (p : Demand) →
      p ≡ data_wanted moving dest total (sender_by to from number (seat_in seats to)) →
      KeepsFit seats (data_moved (name_of to number) from moving dest total offset bytes p seats).seats
  by_data dest total offset bytes piece demands.Nothing is = kept_same seats
  by_data dest total offset bytes piece demands.Gone is = kept_same seats
  by_data dest total offset bytes piece (demands.Wanted opens before) is =
      kept_then seats (written_if_next (offset == before) to dest offset bytes seats) _ (kept_if (offset == before) to dest offset bytes)
      (kept_progressed (written_if_next (offset == before) to dest offset bytes seats) to moving (done_after offset before bytes)
      (done_low (offset == before) (offset + length bytes) before (end_low total offset bytes piece)
      (low_before seats fit to from number moving dest total opens before is)))

  pub data_keeps : (dest total offset : ℕ) (bytes : List ℕ) → IsPiece total offset bytes →
      KeepsFit seats (data_taken (subject_by from to number moving) dest total offset bytes seats).seats
  data_keeps dest total offset bytes piece = by_data dest total offset bytes piece
      (data_wanted moving dest total (sender_by to from number (seat_in seats to))) refl

  by_request : (src total offset : ℕ) (p : Demand) → p ≡ bytes_wanted moving src total (sender_by to from number (seat_in seats to)) →
      KeepsFit seats (request_moved (name_of to number) from moving src total offset p seats).seats
  by_request src total offset demands.Nothing is = kept_same seats
  by_request src total offset demands.Gone is = kept_same seats
  by_request src total offset (demands.Wanted opens before) is =
      kept_progressed seats to moving before (low_asked seats fit to from number moving src total opens before is)

  pub request_keeps : (src total offset : ℕ) → KeepsFit seats (request_taken (subject_by from to number moving) src total offset seats).seats
  request_keeps src total offset = by_request src total offset
      (bytes_wanted moving src total (sender_by to from number (seat_in seats to))) refl

-- Each packet.
pub packet_keeps : (t : Times) (now : ℕ) (p : Packet) (seats : List Seat) → HasFitSeats seats → is_lawful p ≡ true →
    KeepsFit seats (packet_taken t now p seats).seats
packet_keeps t now (MoveData from to number moving dest total offset bytes) seats fit lawful =
    data_keeps t now seats fit from to number moving dest total offset bytes
    (piece_of total offset bytes (list_all is_number (numbers_of (MoveData from to number moving dest total offset bytes))) lawful)
packet_keeps t now (MoveAck from to number moving got) seats fit lawful = ack_keeps t now seats fit from to number moving got
packet_keeps t now (MoveRequest from to number moving src total offset) seats fit lawful = request_keeps t now seats fit from to number
    moving src total offset
packet_keeps t now (MoveBytes from to number moving total offset bytes) seats fit lawful =
    bytes_keep t now seats fit from to number moving total offset bytes
    (piece_of total offset bytes (list_all is_number (numbers_of (MoveBytes from to number moving total offset bytes))) lawful)
packet_keeps t now (MoveNegative from to number moving) seats fit lawful = gone_keeps t now seats fit from to number moving
packet_keeps t now (Send from to number message part) seats fit lawful = kept_same seats
packet_keeps t now (Reply from to number message dest bytes) seats fit lawful = kept_same seats
packet_keeps t now (Pending from to number) seats fit lawful = kept_same seats
packet_keeps t now (Negative from to number) seats fit lawful = kept_same seats
packet_keeps t now (AskPid asker lookup logical) seats fit lawful = kept_same seats
packet_keeps t now (TellPid found asker lookup) seats fit lawful = kept_same seats

-- A tick.
by_tick : (t : Times) (now : ℕ) (pid : Pid) (seats : List Seat) (fit : HasFitSeats seats) (x : Ticked) →
    x ≡ ticked_in t now (seat_in seats pid) →
    KeepsFit seats (tick_moved t now pid x seats).seats
by_tick t now pid seats fit ticks.Nothing is = kept_same seats
by_tick t now pid seats fit ticks.Ends is = kept_ended seats pid endings.TimedOut
by_tick t now pid seats fit (ticks.Again work from) is = kept_restarted seats pid work from
    (tick_goes_on seats fit pid t now work from is)

pub tick_keeps : (t : Times) (now : ℕ) (pid : Pid) (seats : List Seat) → HasFitSeats seats →
    KeepsFit seats (due_moved t now pid seats).seats
tick_keeps t now pid seats fit = by_tick t now pid seats fit (ticked_in t now (seat_in seats pid)) refl
