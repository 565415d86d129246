-- An acknowledgement that does not end its move, by the tables and by the rules.
use Rattle.std.proofs.Common.{◌≡◌, ℕ, zero, suc, ◌+◌, ◌-◌, ◌*◌, ◌/◌, ◌%◌, ◌<◌, Bool, true, false, cond, ◌&&◌, ◌||◌, ◌==◌, List, [], ◌∷◌, length, map, refl, ap, sym, ◌∙◌, subst, Option, Some, None, ltb, arith}
use Rattle.std.specs.List.{list_any, range_with_len}
use Rattle.std.specs.Option.{option_map, option_map_or}
use Rattle.std.proofs.lemmas.Bool.{and_from, and_parts, ltb-true}
use Rattle.vk_types.specs.Types.{MoveName, Name, Pid, Process, Waiting}
use Rattle.vk_base.specs.declared.activity.Activity.TheVariants as activities
use Rattle.vk_base.specs.declared.activity.Waiting.TheVariants as waitings
use Rattle.vk_base.specs.declared.answer.Ending.TheVariants as endings
use Rattle.vk_base.specs.declared.event.EventAnswer.TheVariants as events_answered
use Rattle.vk_base.specs.declared.step.Step.TheVariants as steps
use Rattle.vk_base.specs.Activities.{state_of}
use Rattle.vk_base.specs.Kernel.{◌>>=◌, blocked_in, holds_of, is_moving, name_of}
use Rattle.vk_base.specs.Packets.{Packet, MoveAck}
use Rattle.vk_base.specs.Pids.{same_pid}
use Rattle.vk_base.specs.Settings.{Settings}
use Rattle.vk_base.specs.Steps.{only_if, same_move}
use Rattle.vk_base.proofs.PidLemmas.{same_pid_self}
use Rattle.vk_frame.specs.declared.header.Header.{Header}
use Rattle.vk_procs.specs.declared.seat.Seat.{Seat}
use Rattle.vk_procs.specs.Seats.{process_of, seat_in}
use Rattle.vk_rules.specs.Aliens.{is_closing}
use Rattle.vk_rules.specs.Entries.{Delivered}
use Rattle.vk_rules.specs.Frames.{Framed}
use Rattle.vk_rules.specs.PacketOutcomes.{ack_outcome, running_to}
unfoldable use Rattle.vk_rules.specs.PacketOutcomes.{packet_outcome}
use Rattle.vk_rules.specs.Readings.{Reading}
use Rattle.vk_rules.specs.Right.{answer_to}
use Rattle.vk_rules.specs.Rounds.{data_packet, list_if, nothing, only_packets, only_steps, round_of, round_of_call}
unfoldable use Rattle.vk_rules.specs.Rounds.{round}
use Rattle.vk_rules.specs.Works.{Work, count_of_move, is_answer, is_move_to, is_of_round, move_count, moves_to}
use Rattle.vk_stands.specs.Fit.{AreFit, may_wait}
use Rattle.vk_stands.specs.Stands.{IsWorking, Stands}
use Rattle.vk_stands.specs.Tables.{Tables}
use Rattle.vk_stands.proofs.After.{entry_for, work_by}
use Rattle.vk_stands.proofs.AfterCalls.{none_of_round, skips_closing, skips_others}
use Rattle.vk_stands.proofs.Found.{seat_found}
use Rattle.vk_stands.proofs.MovesNoted.{worked}
use Rattle.vk_stands.proofs.Received.{received}
use Rattle.vk_move.specs.declared.mover.Acked.{Acked}
use Rattle.vk_move.specs.declared.mover.Acked.TheVariants as acks
use Rattle.vk_timer.specs.Works.{started}
use Rattle.vk_move.specs.Moved.{restarted, answered, round_by, round_from}
use Rattle.vk_move.specs.Mover.{ack_moved, acked_by, acked_doing, acked_in, is_mover}
use Rattle.vk_move.specs.Right.{IsMoveRight}
use Rattle.vk_move.proofs.Dues.{move_work, round_call}
use Rattle.vk_move.proofs.Still.{IsToMover, noted_stands, quiet, right_packets, right_steps, work_here}

-- some packet of a round is of it
pub any_of : (to partner : Pid) (memory : List ℕ) (dest src count from n : ℕ) (m : MoveName) → 0 < n →
    list_any (is_of_round to) (map (data_packet to partner memory dest src count m)
    (map (λ i. from + 1024 * i) (range_with_len 0 n))) ≡ true
any_of to partner memory dest src count from zero m some = absurd (omega arith)
any_of to partner memory dest src count from (suc n) m some =
    ap (λ b. b || list_any (is_of_round to)
    (map (data_packet to partner memory dest src count m) (map (λ i. from + 1024 * i) (range_with_len 1 n)))) (same_pid_self to)

pub some_pieces : (count from : ℕ) → from < count → 0 < (count - from + 1023) / 1024
some_pieces count from lt = omega arith

restart_work : (now got : ℕ) (a : Bool) (w : Work) →
    work_by now false a true true got 0 w ≡ record { since = now; rounds = 1; acknowledged = got; received = w.received + 0; fresh = false }
restart_work now got true w = refl
restart_work now got false w = refl

module _ (c : Settings) (host : ℕ) (r : Reading) (h : Header) (from to : Pid) (number moving got : ℕ)
    (taken : answer_to c host r (Delivered (Framed h (MoveAck from to number moving got))) ≡ events_answered.Taken)
    (t : Tables) (fit : AreFit host t) (stands : Stands c.times host t r) where
  abbrev packet : Packet
  packet = MoveAck from to number moving got

  abbrev name : Name
  name = name_of from number

  abbrev w : Work
  w = r.work to

  own : to.host ≡ host
  own = (received c host r h packet taken).own to refl

  other_by : (q : Pid) (v : Work) (o : Option Process) → same_pid to q ≡ false → holds_of (is_answer q v packet) o ≡ false
  other_by q v None other = refl
  other_by q v (Some p) other = ap (λ b. b && moves_to p name moving && got == v.acknowledged) other

  pub to_mover : IsToMover to packet
  to_mover = record { answers = other_by; copies = λ n. refl }

  -- The process waits in this move.
  module _ (s : Seat) (found : seat_in t.seats to ≡ Some s) (partner : Pid) (dest src count : ℕ)
      (state : s.doing ≡ activities.Blocked (waitings.MoveTo partner dest src count)) (mover : is_mover name moving s ≡ true) where
    abbrev waiting : Waiting
    waiting = waitings.MoveTo partner dest src count

    here : r.view.procs to ≡ Some (process_of s)
    here = stands.procs to own ∙ ap (option_map process_of) found

    moves : moves_to (process_of s) name moving ≡ true
    moves = and_from _ _ mover (ap (λ d. holds_of is_move_to (blocked_in (state_of d))) state)

    runs : running_to r.view to name moving ≡ Some (process_of s)
    runs = ap (λ o. o >>= λ p. only_if (moves_to p name moving) (Some p)) here ∙ ap (λ b. only_if b (Some (process_of s))) moves

    counts : move_count (process_of s) ≡ count
    counts = ap (λ d. option_map_or count_of_move (blocked_in (state_of d)) 0) state

    works : IsWorking c.times s w waiting
    works =
        let at = seat_found t.seats to s found in
        stands.works to s waiting found state (move_work to (length s.memory) waiting refl
        (ap (λ p. may_wait p (length s.memory) waiting) (sym at.named) ∙ (fit.seats at.at s at.here).waits waiting state))

    answers_by : holds_of (is_answer to w packet) (r.view.procs to) ≡ (got == w.acknowledged)
    answers_by = ap (holds_of (is_answer to w packet)) here ∙ (λ i. same_pid_self to i && moves i && got == w.acknowledged)

    abbrev more : Bool
    more = ltb s.note.offset got && ltb got count && got % 1024 == 0

    pub outcome : packet_outcome host r packet ≡ cond (got == count) (only_steps (steps.End to endings.Ok ∷ []))
        (only_packets (list_if more (round r.view (record w { acknowledged = got }) to)))
    unfolding packet_outcome
    outcome =
        ap (λ o. option_map_or (ack_outcome r.view w to got) o nothing) runs
        ∙ (λ i. cond (got == counts i) (only_steps (steps.End to endings.Ok ∷ []))
        (only_packets (list_if (ltb (sym works.far i) got && ltb got (counts i) && got % 1024 == 0)
        (round r.view (record w { acknowledged = got }) to))))

    pub decided : acked_in name moving got (seat_in t.seats to) ≡ acked_by s.note count got
    decided = ap (acked_in name moving got) found ∙ ap (acked_doing (is_mover name moving s) s.note got) state
        ∙ ap (λ b. cond b (acked_by s.note count got) acks.Nothing) mover

    abbrev Right : Acked → Type 0
    Right a = IsMoveRight c host t r (entry_for c host r (Delivered (Framed h packet))) (ack_moved c.times r.now to got a t.seats)

    -- it goes on from there
    module _ (unlike : (got == count) ≡ false) (further : more ≡ true) where
      abbrev again : List Packet
      again = round r.view (record w { acknowledged = got }) to

      out : packet_outcome host r packet ≡ only_packets again
      out = outcome ∙ (λ i. cond (unlike i) (only_steps (steps.End to endings.Ok ∷ [])) (only_packets (list_if (further i) again)))

      rounds : round_from to got (seat_in t.seats to) ≡ again
      unfolding round
      rounds =
          ap (round_from to got) found
          ∙ ap (round_by to s.memory got s.note.moving) state
          ∙ round_call r.view to (record s { note = record s.note { offset = got } })
          (record w { acknowledged = got }) waiting s.note.moving refl refl refl
          ∙ sym (ap (λ d. option_map_or (round_of_call r.view (record w { acknowledged = got }) to (process_of s))
          (blocked_in (state_of d)) []) state)
          ∙ sym (ap (λ o. option_map_or (round_of r.view (record w { acknowledged = got }) to) o []) here)

      sent_by : (o : Option MoveName) → s.note.moving ≡ o → holds_of (λ (m : MoveName). same_move m name moving) o ≡ true →
          list_any (is_of_round to) (round_by to s.memory got o (activities.Blocked waiting)) ≡ true
      sent_by None noted one = cc
      sent_by (Some m) noted one =
          let low = ltb-true got count (and_parts (ltb s.note.offset got) (ltb got count)
          (and_parts (ltb s.note.offset got && ltb got count) (got % 1024 == 0) further).0).1 in
          any_of to partner s.memory dest src count got ((count - got + 1023) / 1024) m (some_pieces count got low)

      sent : list_any (is_of_round to) again ≡ true
      sent =
          ap (list_any (is_of_round to)) (sym rounds ∙ ap (round_from to got) found ∙ ap (round_by to s.memory got s.note.moving) state)
          ∙ sent_by s.note.moving refl (and_parts (is_moving (state_of s.doing))
          (holds_of (λ m. same_move m name moving) s.note.moving) mover).1

      closes : (n : Name) → list_any (is_closing n) again ≡ false
      closes n = none_of_round (is_closing n) r.view (record w { acknowledged = got }) to (skips_closing n to)

      others : (q : Pid) → same_pid to q ≡ false → list_any (is_of_round q) again ≡ false
      others q other = none_of_round (is_of_round q) r.view (record w { acknowledged = got }) to (skips_others q to other)

      pub goes_right : Right acks.Restarts
      goes_right = record {
        steps = right_steps c host r h packet taken t stands to to_mover again out closes others;
        packets = rounds ∙ right_packets c host r h packet taken t stands to to_mover again out closes others;
        stands = noted_stands c host r h packet taken t stands to to_mover again out closes others fit own s found waiting state 1 got false
            (subst (λ x. IsWorking c.times (worked 1 (r.now + c.times.interval) got false s) x waiting)
            (sym (work_here c host r h packet taken t stands to to_mover again out closes others
            (got == w.acknowledged) true answers_by sent
            ∙ restart_work r.now got (got == w.acknowledged) w))
            (record { tries = refl; deadline = refl; far = refl }))
            (restarted (started c.times r.now) got) refl;
      }

    -- it changes nothing but the work, or not even that
    module _ (unlike : (got == count) ≡ false) (no_more : more ≡ false) where
      none : packet_outcome host r packet ≡ only_packets []
      none = outcome ∙ (λ i. cond (unlike i) (only_steps (steps.End to endings.Ok ∷ []))
          (only_packets (list_if (no_more i) (round r.view (record w { acknowledged = got }) to))))

      pub answers_right : (got == s.note.offset) ≡ true → Right acks.Answers
      answers_right as_many = record {
        steps = right_steps c host r h packet taken t stands to to_mover [] none (λ n. refl) (λ q other. refl);
        packets = right_packets c host r h packet taken t stands to to_mover [] none (λ n. refl) (λ q other. refl);
        stands = noted_stands c host r h packet taken t stands to to_mover [] none (λ n. refl)
            (λ q other. refl) fit own s found waiting state
            0 s.note.offset s.note.fresh
            (subst (λ x. IsWorking c.times (worked 0 (r.now + c.times.interval) s.note.offset s.note.fresh s) x waiting)
            (sym (work_here c host r h packet taken t stands to to_mover [] none (λ n. refl) (λ q other. refl) true false
            (answers_by ∙ ap (λ n. got == n) (sym works.far) ∙ as_many) refl))
            (record { tries = refl; deadline = refl; far = works.far }))
            (answered c.times r.now) refl;
      }

      pub nothing_right : (got == s.note.offset) ≡ false → Right acks.Nothing
      nothing_right unlike_too = record {
        steps = right_steps c host r h packet taken t stands to to_mover [] none (λ n. refl) (λ q other. refl);
        packets = right_packets c host r h packet taken t stands to to_mover [] none (λ n. refl) (λ q other. refl);
        stands = quiet c host r h packet taken t stands to to_mover [] none (λ n. refl) (λ q other. refl)
            (answers_by ∙ ap (λ n. got == n) (sym works.far) ∙ unlike_too) refl;
      }
