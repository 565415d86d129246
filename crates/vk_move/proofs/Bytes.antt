-- Bytes of a move that are not the next ones, by the tables and by the rules.
use Rattle.std.proofs.Common.{◌≡◌, ℕ, ◌+◌, Bool, true, false, cond, ◌&&◌, ◌||◌, ◌==◌, not, List, [], ◌∷◌, length, refl, ap, sym, ◌∙◌, subst, Option, Some, None, ltb, arith}
use Rattle.std.specs.List.{list_any}
use Rattle.std.specs.Option.{option_map, option_map_or}
use Rattle.std.proofs.lemmas.Bool.{and_from, and_parts, cond-false}
use Rattle.vk_types.specs.Types.{MoveName, Name, Pid, Process, Waiting}
use Rattle.vk_base.specs.declared.activity.Activity.TheVariants as activities
use Rattle.vk_base.specs.declared.activity.Waiting.TheVariants as waitings
use Rattle.vk_base.specs.declared.answer.Ending.TheVariants as endings
use Rattle.vk_base.specs.declared.event.EventAnswer.TheVariants as events_answered
use Rattle.vk_base.specs.declared.step.Step.TheVariants as steps
use Rattle.vk_base.specs.Activities.{state_of}
use Rattle.vk_base.specs.Kernel.{◌>>=◌, blocked_in, holds_of, is_moving, name_of}
use Rattle.vk_base.specs.Packets.{Packet, MoveBytes}
use Rattle.vk_base.specs.Pids.{same_pid}
use Rattle.vk_base.specs.Settings.{Settings}
use Rattle.vk_base.specs.Steps.{only_if, same_move}
use Rattle.vk_base.proofs.PidLemmas.{same_pid_self}
use Rattle.vk_frame.specs.declared.header.Header.{Header}
use Rattle.vk_procs.specs.declared.seat.Seat.{Seat}
use Rattle.vk_procs.specs.Seats.{process_of, seat_in}
use Rattle.vk_rules.specs.Aliens.{is_closing}
use Rattle.vk_rules.specs.Entries.{Delivered}
use Rattle.vk_rules.specs.Frames.{Framed}
use Rattle.vk_rules.specs.PacketOutcomes.{bytes_outcome, copies_bytes, running_from}
unfoldable use Rattle.vk_rules.specs.PacketOutcomes.{packet_outcome}
use Rattle.vk_rules.specs.Readings.{Reading}
use Rattle.vk_rules.specs.Right.{answer_to}
use Rattle.vk_rules.specs.Rounds.{list_if, nothing, only_packets, only_steps, round_of, round_of_call}
unfoldable use Rattle.vk_rules.specs.Rounds.{round}
use Rattle.vk_rules.specs.Works.{Work, is_answer, is_last, is_move_from, is_of_round, is_progress, moves_from}
use Rattle.vk_stands.specs.Fit.{AreFit, may_wait}
use Rattle.vk_stands.specs.Stands.{IsWorking, Stands}
use Rattle.vk_stands.specs.Tables.{Tables}
use Rattle.vk_stands.proofs.After.{entry_for, work_by}
use Rattle.vk_stands.proofs.AfterCalls.{none_of_round, skips_closing, skips_others}
use Rattle.vk_stands.proofs.Found.{seat_found}
use Rattle.vk_stands.proofs.MovesNoted.{worked}
use Rattle.vk_stands.proofs.Received.{received}
use Rattle.vk_move.specs.declared.mover.Brought.{Brought}
use Rattle.vk_move.specs.declared.mover.Brought.TheVariants as brought
use Rattle.vk_timer.specs.Works.{started}
use Rattle.vk_move.specs.Moved.{answered, restarted, round_by, round_from}
use Rattle.vk_move.specs.Mover.{bytes_moved, brought_by, brought_doing, brought_in, is_mover}
use Rattle.vk_move.specs.Right.{IsMoveRight}
use Rattle.vk_move.proofs.Dues.{move_work, round_call}
use Rattle.vk_move.proofs.Still.{IsToMover, noted_stands, quiet, right_packets, right_steps, work_here}

-- a request is a round
asked_by : (to partner : Pid) (memory : List ℕ) (dest src count from : ℕ) (name : Name) (moving : ℕ) (o : Option MoveName) →
    holds_of (λ (m : MoveName). same_move m name moving) o ≡ true →
    list_any (is_of_round to) (round_by to memory from o (activities.Blocked (waitings.MoveFrom partner dest src count))) ≡ true
asked_by to partner memory dest src count from name moving None noted = cc
asked_by to partner memory dest src count from name moving (Some m) noted = ap (λ b. b || false) (same_pid_self to)

restart_work : (now : ℕ) (w : Work) →
    work_by now false false true true 0 0 w ≡ record { since = now; rounds = 1; acknowledged = 0; received = w.received + 0; fresh = false }
restart_work now w = refl

plus_zero : (n : ℕ) → n ≡ n + 0
plus_zero n = omega arith

module _ (c : Settings) (host : ℕ) (r : Reading) (h : Header) (from to : Pid) (number moving total offset : ℕ) (bytes : List ℕ)
    (taken : answer_to c host r (Delivered (Framed h (MoveBytes from to number moving total offset bytes))) ≡ events_answered.Taken)
    (t : Tables) (fit : AreFit host t) (stands : Stands c.times host t r) where
  abbrev packet : Packet
  packet = MoveBytes from to number moving total offset bytes

  abbrev name : Name
  name = name_of from number

  abbrev w : Work
  w = r.work to

  own : to.host ≡ host
  own = (received c host r h packet taken).own to refl

  other_by : (q : Pid) (v : Work) (o : Option Process) → same_pid to q ≡ false → holds_of (is_answer q v packet) o ≡ false
  other_by q v None other = refl
  other_by q v (Some p) other = ap (λ b. b && moves_from p name moving total && is_progress v total offset bytes) other

  pub to_mover : IsToMover to packet
  to_mover = record { answers = other_by; copies = λ n. refl }

  -- The process waits in this move.
  module _ (s : Seat) (found : seat_in t.seats to ≡ Some s) (partner : Pid) (dest src count : ℕ)
      (state : s.doing ≡ activities.Blocked (waitings.MoveFrom partner dest src count)) (mover : is_mover name moving s ≡ true)
      (sized : (count == total) ≡ true) where
    abbrev waiting : Waiting
    waiting = waitings.MoveFrom partner dest src count

    pub here : r.view.procs to ≡ Some (process_of s)
    here = stands.procs to own ∙ ap (option_map process_of) found

    moves : moves_from (process_of s) name moving total ≡ true
    moves = and_from _ _ mover (ap (λ d. holds_of (is_move_from total) (blocked_in (state_of d))) state ∙ sized)

    runs : running_from r.view to name moving total ≡ Some (process_of s)
    runs = ap (λ o. o >>= λ p. only_if (moves_from p name moving total) (Some p)) here ∙ ap (λ b. only_if b (Some (process_of s))) moves

    pub works : IsWorking c.times s w waiting
    works =
        let at = seat_found t.seats to s found in
        stands.works to s waiting found state (move_work to (length s.memory) waiting refl
        (ap (λ p. may_wait p (length s.memory) waiting) (sym at.named) ∙ (fit.seats at.at s at.here).waits waiting state))

    abbrev last : Bool
    last = is_last total offset bytes

    abbrev gap : Bool
    gap = ltb s.note.offset offset && last

    pub answers_by : holds_of (is_answer to w packet) (r.view.procs to) ≡
        ((offset == s.note.offset && not last) || (gap && not s.note.fresh))
    answers_by = ap (holds_of (is_answer to w packet)) here
        ∙ (λ i. same_pid_self to i && moves i && is_progress w total offset bytes)
        ∙ sym (λ i. (offset == works.far.0 i && not last) || ((ltb (works.far.0 i) offset && last) && not (works.far.1 i)))

    pub outcome : packet_outcome host r packet ≡ cond (offset == s.note.offset)
        (only_steps (copies_bytes name moving offset bytes ∷ list_if last (steps.End to endings.Ok ∷ [])))
        (only_packets (list_if (gap && s.note.fresh) (round r.view w to)))
    unfolding packet_outcome
    outcome =
        ap (λ o. option_map_or (λ (p : Process). bytes_outcome r.view w to name moving total offset bytes) o nothing) runs
        ∙ sym (λ i. cond (offset == works.far.0 i)
        (only_steps (copies_bytes name moving offset bytes ∷ list_if last (steps.End to endings.Ok ∷ [])))
        (only_packets (list_if ((ltb (works.far.0 i) offset && last) && works.far.1 i) (round r.view w to))))

    pub decided : brought_in name moving total offset (offset + length bytes) (seat_in t.seats to)
        ≡ brought_by s.note dest total offset (offset + length bytes)
    decided = ap (brought_in name moving total offset (offset + length bytes)) found
        ∙ ap (brought_doing (is_mover name moving s) s.note total offset (offset + length bytes)) state
        ∙ (λ i. cond (mover i && sized i) (brought_by s.note dest total offset (offset + length bytes)) brought.Nothing)

    abbrev Right : Brought → Type 0
    Right b = IsMoveRight c host t r (entry_for c host r (Delivered (Framed h packet)))
        (bytes_moved c.times r.now to name moving offset bytes b t.seats)

    module _ (unlike : (offset == s.note.offset) ≡ false) where
      only : packet_outcome host r packet ≡ only_packets (list_if (gap && s.note.fresh) (round r.view w to))
      only = outcome ∙ cond-false (offset == s.note.offset) _ _ unlike

      answered_if : (a : Bool) → (gap && not s.note.fresh) ≡ a → holds_of (is_answer to w packet) (r.view.procs to) ≡ a
      answered_if a is = answers_by ∙ (λ i. (unlike i && not last) || is i)

      -- it is asked for again
      module _ (behind : gap ≡ true) (fresh : s.note.fresh ≡ true) where
        abbrev again : List Packet
        again = round r.view w to

        out : packet_outcome host r packet ≡ only_packets again
        out = only ∙ (λ i. only_packets (list_if (behind i && fresh i) again))

        rounds : round_from to s.note.offset (seat_in t.seats to) ≡ again
        unfolding round
        rounds =
            ap (round_from to s.note.offset) found
            ∙ ap (round_by to s.memory s.note.offset s.note.moving) state
            ∙ round_call r.view to s w waiting s.note.moving refl refl works.far
            ∙ sym (ap (λ d. option_map_or (round_of_call r.view w to (process_of s)) (blocked_in (state_of d)) []) state)
            ∙ sym (ap (λ o. option_map_or (round_of r.view w to) o []) here)

        sent : list_any (is_of_round to) again ≡ true
        sent =
            ap (list_any (is_of_round to))
            (sym rounds ∙ ap (round_from to s.note.offset) found ∙ ap (round_by to s.memory s.note.offset s.note.moving) state)
            ∙ asked_by to partner s.memory dest src count s.note.offset name moving s.note.moving
            (and_parts (is_moving (state_of s.doing)) (holds_of (λ m. same_move m name moving) s.note.moving) mover).1

        closes : (n : Name) → list_any (is_closing n) again ≡ false
        closes n = none_of_round (is_closing n) r.view w to (skips_closing n to)

        others : (q : Pid) → same_pid to q ≡ false → list_any (is_of_round q) again ≡ false
        others q other = none_of_round (is_of_round q) r.view w to (skips_others q to other)

        pub asks_right : Right (brought.Restarts s.note.offset)
        asks_right = record {
          steps = right_steps c host r h packet taken t stands to to_mover again out closes others;
          packets = rounds ∙ right_packets c host r h packet taken t stands to to_mover again out closes others;
          stands = noted_stands c host r h packet taken t stands to to_mover again out closes others fit own s found waiting state
              1 s.note.offset false
              (subst (λ x. IsWorking c.times (worked 1 (r.now + c.times.interval) s.note.offset false s) x waiting)
              (sym (work_here c host r h packet taken t stands to to_mover again out closes others false true
              (answered_if false (λ i. behind i && not (fresh i))) sent ∙ restart_work r.now w))
              (record { tries = refl; deadline = refl; far = (works.far.0 ∙ plus_zero w.received, refl) }))
              (restarted (started c.times r.now) s.note.offset) refl;
        }

      -- its work has new patience
      module _ (behind : gap ≡ true) (stale : s.note.fresh ≡ false) where
        none : packet_outcome host r packet ≡ only_packets []
        none = only ∙ (λ i. only_packets (list_if (behind i && stale i) (round r.view w to)))

        pub answers_right : Right brought.Answers
        answers_right = record {
          steps = right_steps c host r h packet taken t stands to to_mover [] none (λ n. refl) (λ q other. refl);
          packets = right_packets c host r h packet taken t stands to to_mover [] none (λ n. refl) (λ q other. refl);
          stands = noted_stands c host r h packet taken t stands to to_mover [] none (λ n. refl) (λ q other. refl) fit own s found waiting
              state 0 s.note.offset s.note.fresh
              (subst (λ x. IsWorking c.times (worked 0 (r.now + c.times.interval) s.note.offset s.note.fresh s) x waiting)
              (sym (work_here c host r h packet taken t stands to to_mover [] none (λ n. refl) (λ q other. refl) true false
              (answered_if true (λ i. behind i && not (stale i))) refl))
              (record { tries = refl; deadline = refl; far = (works.far.0 ∙ plus_zero w.received, works.far.1) }))
              (answered c.times r.now) refl;
        }

      -- nothing
      module _ (close : gap ≡ false) where
        nothing_out : packet_outcome host r packet ≡ only_packets []
        nothing_out = only ∙ (λ i. only_packets (list_if (close i && s.note.fresh) (round r.view w to)))

        pub nothing_right : Right brought.Nothing
        nothing_right = record {
          steps = right_steps c host r h packet taken t stands to to_mover [] nothing_out (λ n. refl) (λ q other. refl);
          packets = right_packets c host r h packet taken t stands to to_mover [] nothing_out (λ n. refl) (λ q other. refl);
          stands = quiet c host r h packet taken t stands to to_mover [] nothing_out (λ n. refl) (λ q other. refl)
              (answered_if false (λ i. close i && not s.note.fresh)) refl;
        }
