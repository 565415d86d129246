-- Bytes that come to a mover, whichever they are, by the tables and by the rules.
use Rattle.std.proofs.Common.{◌≡◌, ℕ, Bool, true, false, cond, ◌&&◌, ◌==◌, List, [], length, ◌+◌, refl, ap, sym, ◌∙◌, subst, Option, Some, None, ltb}
use Rattle.std.specs.Option.{option_map, option_map_or}
use Rattle.vk_types.specs.Types.{Activity, Name, Pid, Process, Times}
use Rattle.vk_base.specs.declared.activity.Activity.TheVariants as activities
use Rattle.vk_base.specs.declared.activity.Waiting.TheVariants as waitings
use Rattle.vk_base.specs.declared.event.EventAnswer.TheVariants as events_answered
use Rattle.vk_base.specs.Activities.{state_of}
use Rattle.vk_base.specs.Kernel.{◌>>=◌, blocked_in, holds_of, name_of}
use Rattle.vk_base.specs.Packets.{Packet, MoveBytes}
use Rattle.vk_base.specs.Settings.{Settings}
use Rattle.vk_base.specs.Steps.{only_if}
use Rattle.vk_base.proofs.PidLemmas.{same_pid_self}
use Rattle.vk_frame.specs.declared.header.Header.{Header}
use Rattle.vk_procs.specs.declared.seat.ProcNote.{ProcNote}
use Rattle.vk_procs.specs.declared.seat.Seat.{Seat}
use Rattle.vk_procs.specs.Seats.{process_of, seat_in}
use Rattle.vk_rules.specs.Entries.{Delivered}
use Rattle.vk_rules.specs.Frames.{Framed}
use Rattle.vk_rules.specs.PacketOutcomes.{bytes_outcome}
unfoldable use Rattle.vk_rules.specs.PacketOutcomes.{packet_outcome}
use Rattle.vk_rules.specs.Readings.{Reading}
use Rattle.vk_rules.specs.Right.{answer_to}
use Rattle.vk_rules.specs.Rounds.{nothing, only_packets}
use Rattle.vk_rules.specs.Works.{is_answer, is_last, is_move_from, is_progress, moves_from}
use Rattle.vk_stands.specs.Fit.{AreFit}
use Rattle.vk_stands.specs.Stands.{Stands}
use Rattle.vk_stands.specs.Tables.{Tables}
use Rattle.vk_stands.proofs.After.{entry_for}
use Rattle.vk_stands.proofs.Received.{received}
use Rattle.vk_move.specs.declared.mover.Brought.{Brought}
use Rattle.vk_move.specs.declared.mover.Brought.TheVariants as brought
use Rattle.vk_move.specs.Moved.{subject_by}
use Rattle.vk_move.specs.Mover.{brought_by, brought_doing, brought_in, bytes_moved, bytes_taken, is_mover}
use Rattle.vk_move.specs.Right.{IsMoveRule, IsMoveRight}
use Rattle.vk_move.proofs.AckEnds.{either_way}
use Rattle.vk_move.proofs.Bytes.{answers_right, asks_right, decided, nothing_right}
use Rattle.vk_move.proofs.Bytes as bytes_to
use Rattle.vk_move.proofs.BytesNext.{last_right, more_right}
use Rattle.vk_move.proofs.Gone.{mover_is}
use Rattle.vk_move.proofs.Still.{IsToMover, quiet, right_packets, right_steps}

module _ (c : Settings) (host : ℕ) (r : Reading) (h : Header) (from to : Pid) (number moving total offset : ℕ) (bytes : List ℕ)
    (taken : answer_to c host r (Delivered (Framed h (MoveBytes from to number moving total offset bytes))) ≡ events_answered.Taken)
    (t : Tables) (fit : AreFit host t) (stands : Stands c.times host t r) where
  abbrev packet : Packet
  packet = MoveBytes from to number moving total offset bytes

  abbrev name : Name
  name = name_of from number

  abbrev to_mover : IsToMover to packet
  to_mover = bytes_to.to_mover c host r h from to number moving total offset bytes taken t fit stands

  own : to.host ≡ host
  own = (received c host r h packet taken).own to refl

  abbrev Right : Brought → Type 0
  Right b = IsMoveRight c host t r (entry_for c host r (Delivered (Framed h packet)))
      (bytes_moved c.times r.now to name moving offset bytes b t.seats)

  abbrev row : Option Seat → Brought
  row o = brought_in name moving total offset (offset + length bytes) o

  -- The process does not wait in a move of this name and length from its partner.
  none_runs : (o : Option Process) → holds_of (λ p. moves_from p name moving total) o ≡ false →
      (o >>= λ p. only_if (moves_from p name moving total) (Some p)) ≡ None
  none_runs None f = refl
  none_runs (Some p) f = ap (λ b. only_if b (Some p)) f

  none_answers : (o : Option Process) → holds_of (λ p. moves_from p name moving total) o ≡ false →
      holds_of (is_answer to (r.work to) packet) o ≡ false
  none_answers None f = refl
  none_answers (Some p) f = λ i. same_pid_self to i && f i && is_progress (r.work to) total offset bytes

  none_out : holds_of (λ p. moves_from p name moving total) (r.view.procs to) ≡ false → packet_outcome host r packet ≡ only_packets []
  unfolding packet_outcome
  none_out f = ap (λ o. option_map_or (λ (p : Process). bytes_outcome r.view (r.work to) to name moving total offset bytes) o nothing)
      (none_runs (r.view.procs to) f)

  idles : holds_of (λ p. moves_from p name moving total) (r.view.procs to) ≡ false → Right brought.Nothing
  idles f =
      let none = none_out f in
      record {
        steps = right_steps c host r h packet taken t stands to to_mover [] none (λ n. refl) (λ q other. refl);
        packets = right_packets c host r h packet taken t stands to to_mover [] none (λ n. refl) (λ q other. refl);
        stands = quiet c host r h packet taken t stands to to_mover [] none (λ n. refl) (λ q other. refl)
            (none_answers (r.view.procs to) f) refl;
      }

  nothing_outside : (note : ProcNote) (end : ℕ) (d : Activity) → brought_doing false note total offset end d ≡ brought.Nothing
  nothing_outside note end activities.Ready = refl
  nothing_outside note end (activities.Done w o) = refl
  nothing_outside note end (activities.Blocked (waitings.MoveTo partner dest src count)) = refl
  nothing_outside note end (activities.Blocked (waitings.MoveFrom partner dest src count)) = refl
  nothing_outside note end (activities.Blocked (waitings.Send target m)) = refl
  nothing_outside note end (activities.Blocked waitings.Receive) = refl
  nothing_outside note end (activities.Blocked (waitings.ReceiveSegment start count)) = refl
  nothing_outside note end (activities.Blocked (waitings.GetPid logical scope)) = refl

  module _ (s : Seat) (found : seat_in t.seats to ≡ Some s) where
    in_view : r.view.procs to ≡ Some (process_of s)
    in_view = stands.procs to own ∙ ap (option_map process_of) found

    outside : is_mover name moving s ≡ false → Right (row (seat_in t.seats to))
    outside f = subst Right
        (sym (ap row found ∙ ap (λ b. brought_doing b s.note total offset (offset + length bytes) s.doing) f
        ∙ nothing_outside s.note (offset + length bytes) s.doing))
        (idles (ap (holds_of (λ p. moves_from p name moving total)) in_view
        ∙ ap (λ b. b && holds_of (is_move_from total) (blocked_in (state_of s.doing))) f))

    module _ (mover : is_mover name moving s ≡ true) where
      -- in a move to its partner
      to_partner : (partner : Pid) (dest src count : ℕ) → s.doing ≡ activities.Blocked (waitings.MoveTo partner dest src count) →
          Right (row (seat_in t.seats to))
      to_partner partner dest src count state = subst Right
          (sym (ap row found ∙ ap (brought_doing (is_mover name moving s) s.note total offset (offset + length bytes)) state))
          (idles (ap (holds_of (λ p. moves_from p name moving total)) in_view
          ∙ (λ i. mover i && holds_of (is_move_from total) (blocked_in (state_of (state i))))))

      -- in a move from its partner
      module _ (partner : Pid) (dest src count : ℕ) (state : s.doing ≡ activities.Blocked (waitings.MoveFrom partner dest src count)) where
        -- of another length
        unlike_sized : (count == total) ≡ false → Right (row (seat_in t.seats to))
        unlike_sized f = subst Right
            (sym (ap row found ∙ ap (brought_doing (is_mover name moving s) s.note total offset (offset + length bytes)) state
            ∙ (λ i. cond (mover i && f i) (brought_by s.note dest total offset (offset + length bytes)) brought.Nothing)))
            (idles (ap (holds_of (λ p. moves_from p name moving total)) in_view
            ∙ (λ i. mover i && holds_of (is_move_from total) (blocked_in (state_of (state i)))) ∙ f))

        by_tests : (count == total) ≡ true → (next last gap fresh : Bool) → (offset == s.note.offset) ≡ next →
            is_last total offset bytes ≡ last → (ltb s.note.offset offset && is_last total offset bytes) ≡ gap → s.note.fresh ≡ fresh →
            Right (cond next (brought.Next dest last)
            (cond gap (cond fresh (brought.Restarts s.note.offset) brought.Answers) brought.Nothing))
        by_tests sized true true gap fresh is ends behind new =
            last_right c host r h from to number moving total offset bytes taken t fit stands s found partner dest src count state mover
            sized
            is ends
        by_tests sized true false gap fresh is ends behind new =
            more_right c host r h from to number moving total offset bytes taken t fit stands s found partner dest src count state mover
            sized
            is ends
        by_tests sized false last true true is ends behind new =
            asks_right c host r h from to number moving total offset bytes taken t fit stands s found partner dest src count state mover
            sized
            is behind new
        by_tests sized false last true false is ends behind new =
            answers_right c host r h from to number moving total offset bytes taken t fit stands s found partner dest src count state mover
            sized is behind new
        by_tests sized false last false fresh is ends behind new =
            nothing_right c host r h from to number moving total offset bytes taken t fit stands s found partner dest src count state mover
            sized is behind

        by_size : (b : Bool) → (count == total) ≡ b → Right (row (seat_in t.seats to))
        by_size true sized = subst Right
            (sym (decided c host r h from to number moving total offset bytes taken t fit stands s found partner dest src count state mover
            sized))
            (by_tests sized (offset == s.note.offset) (is_last total offset bytes)
            (ltb s.note.offset offset && is_last total offset bytes) s.note.fresh refl refl refl refl)
        by_size false other = unlike_sized other

        from_partner : Right (row (seat_in t.seats to))
        from_partner = by_size (count == total) refl

      by_waiting : Right (row (seat_in t.seats to))
      by_waiting =
          let m = (mover_is name moving s mover).move in
          either_way (Right (row (seat_in t.seats to))) s.doing m.waiting m.state m.moves to_partner from_partner

    by_mover : (b : Bool) → is_mover name moving s ≡ b → Right (row (seat_in t.seats to))
    by_mover true mover = by_waiting mover
    by_mover false f = outside f

  by_seat : (o : Option Seat) → seat_in t.seats to ≡ o → Right (row (seat_in t.seats to))
  by_seat None none = subst Right (sym (ap row none))
      (idles (ap (holds_of (λ p. moves_from p name moving total)) (stands.procs to own ∙ ap (option_map process_of) none)))
  by_seat (Some s) found = by_mover s found (is_mover name moving s) refl

  pub bytes_right : IsMoveRight c host t r (entry_for c host r (Delivered (Framed h packet)))
      (bytes_taken c.times r.now (subject_by to from number moving) total offset bytes t.seats)
  bytes_right = by_seat (seat_in t.seats to) refl

pub bytes_rule : (times : Times) (now : ℕ) (from to : Pid) (number moving total offset : ℕ) (bytes : List ℕ) (seats : List Seat) →
    IsMoveRule times now (MoveBytes from to number moving total offset bytes) seats
    (bytes_taken times now (subject_by to from number moving) total offset bytes seats)
bytes_rule times now from to number moving total offset bytes seats c host t r h same at fit stands taken =
    subst (λ x. IsMoveRight c host (record t { seats = seats }) r
    (entry_for c host r (Delivered (Framed h (MoveBytes from to number moving total offset bytes))))
    (bytes_taken x now (subject_by to from number moving) total offset bytes seats)) same
    (subst (λ n. IsMoveRight c host (record t { seats = seats }) r
    (entry_for c host r (Delivered (Framed h (MoveBytes from to number moving total offset bytes))))
    (bytes_taken c.times n (subject_by to from number moving) total offset bytes seats)) at
    (bytes_right c host r h from to number moving total offset bytes taken (record t { seats = seats }) fit
    (subst (λ x. Stands x host (record t { seats = seats }) r) (sym same) stands)))
