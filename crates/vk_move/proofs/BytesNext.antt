-- The next bytes of a move, by the tables and by the rules: they are written, and the last ones end it.
use Rattle.std.proofs.Common.{◌≡◌, ◌≤◌, ℕ, zero, suc, ◌<◌, ◌+◌, Bool, true, false, cond, ◌&&◌, ◌||◌, ◌==◌, not, List, [], ◌∷◌, fold, length, refl, ap, sym, ◌∙◌, subst, Some, None, ltb, inl, arith}
use Rattle.std.specs.Cmp.Derive.{both_true}
use Rattle.std.specs.List.{list_all, list_any, filter_map, slice_get, sum_by}
use Rattle.std.specs.Option.{option_map}
use Rattle.std.proofs.lemmas.Bool.{and_from, and_parts, both_ways, cond-false, cond-true, eq-eqb, eqb-true, le-leb, leb-true, lt-ltb}
use Rattle.std.proofs.lemmas.Option.{same_Some}
use Rattle.vk_types.specs.Types.{Exchange, Message, Move, Name, Pid, Process, Step, Waiting}
use Rattle.vk_base.specs.declared.activity.Activity.TheVariants as activities
use Rattle.vk_base.specs.declared.activity.Outcome.TheVariants as outcomes
use Rattle.vk_base.specs.declared.activity.Waiting.TheVariants as waitings
use Rattle.vk_base.specs.declared.answer.Answer.TheVariants as answers
use Rattle.vk_base.specs.declared.answer.Ending.TheVariants as endings
use Rattle.vk_base.specs.declared.event.EventAnswer.TheVariants as events_answered
use Rattle.vk_base.specs.declared.kernel.Direction.TheVariants as directions
use Rattle.vk_base.specs.declared.step.Step.TheVariants as steps
use Rattle.vk_base.specs.Activities.{done_with, state_of}
use Rattle.vk_base.specs.Brought.{as_many_moves, brought, bytes_from, running_move, with_bytes_of, with_running, without_running}
use Rattle.vk_base.specs.Calls.{new_move, unseen}
unfoldable use Rattle.vk_base.specs.Changes.{change_exchange}
use Rattle.vk_base.specs.Kernel.{◌>>=◌, Kernel, holds_of, is_ready, move_of, name_of, put_exchange, put_process, same_name, sending, with_memory, with_state}
use Rattle.vk_base.specs.Packets.{Packet, MoveBytes}
use Rattle.vk_base.specs.Pids.{same_pid}
use Rattle.vk_base.specs.Ranges.{range_of, lies_in, with_bytes}
use Rattle.vk_base.specs.Settings.{Settings}
use Rattle.vk_base.specs.Steps.{after_effect, first_of, is_complete, move_ending, next, only_if}
unfoldable use Rattle.vk_base.specs.Steps.{copied}
use Rattle.vk_base.proofs.OptionLemmas.{mapped_is}
use Rattle.vk_base.proofs.PidLemmas.{same_pid_self}
use Rattle.v_laws.specs.Sound.{IsSoundAt}
use Rattle.v_laws.proofs.Tables.{put_exchange_at, put_exchange_here, put_exchange_other, put_process_here, same_pid_is, same_pid_laws}
use Rattle.vk_frame.specs.declared.header.Header.{Header}
use Rattle.vk_packet.specs.Rules.{fits, is_number, is_place, numbers_of}
use Rattle.vk_procs.specs.declared.seat.ProcNote.{ProcNote}
use Rattle.vk_procs.specs.declared.seat.Seat.{Seat}
use Rattle.vk_procs.specs.Seats.{finished, is_seat, overwritten, process_of, seat_in, written}
use Rattle.vk_rules.specs.Aliens.{as_arrival, is_closing}
use Rattle.vk_rules.specs.Entries.{Delivered}
use Rattle.vk_rules.specs.Frames.{Framed}
use Rattle.vk_rules.specs.PacketOutcomes.{copies_bytes, packet_outcome}
use Rattle.vk_rules.specs.Readings.{Reading}
use Rattle.vk_rules.specs.Right.{answer_to}
use Rattle.vk_rules.specs.Rounds.{Outcome, list_if, only_steps}
use Rattle.vk_rules.specs.View.{after_steps}
use Rattle.vk_rules.specs.Works.{Work, count_in, is_answer, is_last, is_of_round, is_packet_to}
use Rattle.vk_stands.specs.Fit.{AreFit, IsFitSeat, is_move_of, is_remote_move, may_go_on}
use Rattle.vk_stands.specs.Rules.{packets_in}
use Rattle.vk_stands.specs.Stands.{IsMoving, IsOwnMove, IsWorking, Stands}
use Rattle.vk_stands.specs.Tables.{Tables}
use Rattle.vk_stands.proofs.After.{entry_for, events_are, packets_are, reading_for, work_by}
use Rattle.vk_stands.proofs.AfterFrames.{came_outcome, came_slots_still, came_steps, came_view, came_work, came_work_still}
use Rattle.vk_stands.proofs.Found.{seat_found}
use Rattle.vk_stands.proofs.MoverLeft.{left_written, owned, put_process_twice, same_wait, settled_exchanges, sound_over, written_long, written_to}
use Rattle.vk_stands.proofs.MoverSeated.{stands_seated}
use Rattle.vk_stands.proofs.MovesAllowed as allowed
use Rattle.vk_stands.proofs.MovesEnded.{IsSeatInMove, next_ending}
use Rattle.vk_stands.proofs.MovesExchange.{HasOtherMoves, part_moved}
use Rattle.vk_stands.proofs.OneSeat.{seated}
use Rattle.vk_stands.proofs.Parts.{Part, carries_seated, part_of, same_more, stands_part}
use Rattle.vk_stands.proofs.Process.{part_process}
use Rattle.vk_stands.proofs.Received as frames
use Rattle.vk_stands.proofs.Seats.{change_twice, find-changed}
use Rattle.vk_stands.proofs.SentMoves.{part_written}
use Rattle.vk_stands.proofs.SentSteps.{front_bytes}
use Rattle.vk_move.specs.declared.mover.Brought.{Brought}
use Rattle.vk_move.specs.declared.mover.Brought.TheVariants as brought_bytes
use Rattle.vk_move.specs.Moved.{received, renoted}
use Rattle.vk_move.specs.Mover.{bytes_moved, is_mover}
use Rattle.vk_move.specs.Right.{IsMoveRight}
use Rattle.vk_move.proofs.AckEnds.{first_number, noted_move}
use Rattle.vk_move.proofs.Bytes.{answers_by, outcome, to_mover, works}
use Rattle.vk_move.proofs.Fitting.{fit_finished, fit_noted, fit_written}
use Rattle.vk_move.proofs.Keeping.{IsPiece, piece_of}
use Rattle.vk_move.proofs.Pieces.{is_at, place_is}

same_moves_of : (a b : Exchange) (n : ℕ) → a.moves ≡ b.moves → move_of a n ≡ move_of b n
same_moves_of a b zero is = refl
same_moves_of a b (suc i) is = ap (λ xs. slice_get xs i) is

zero_plus : (n : ℕ) → 0 + n ≡ n
zero_plus n = omega arith

no_arrival : (name : Name) (to : Pid) (moving offset : ℕ) (bytes : List ℕ) (b : Bool) →
    first_of (filter_map as_arrival (copies_bytes name moving offset bytes ∷ list_if b (steps.End to endings.Ok ∷ []))) ≡ None
no_arrival name to moving offset bytes true = refl
no_arrival name to moving offset bytes false = refl

module _ (c : Settings) (host : ℕ) (r : Reading) (h : Header) (from to : Pid) (number moving total offset : ℕ) (bytes : List ℕ)
    (taken : answer_to c host r (Delivered (Framed h (MoveBytes from to number moving total offset bytes))) ≡ events_answered.Taken)
    (t : Tables) (fit : AreFit host t) (stands : Stands c.times host t r) (s : Seat) (found : seat_in t.seats to ≡ Some s) (partner : Pid)
    (dest src count : ℕ) (state : s.doing ≡ activities.Blocked (waitings.MoveFrom partner dest src count))
    (mover : is_mover (name_of from number) moving s ≡ true) (sized : (count == total) ≡ true)
    (next_one : (offset == s.note.offset) ≡ true) where
  abbrev packet : Packet
  packet = MoveBytes from to number moving total offset bytes

  abbrev name : Name
  name = name_of from number

  abbrev after : Reading
  after = reading_for c host r (Delivered (Framed h packet))

  abbrev waiting : Waiting
  waiting = waitings.MoveFrom partner dest src count

  abbrev last : Bool
  last = is_last total offset bytes

  own : to.host ≡ host
  own = (frames.received c host r h packet taken).own to refl

  some : 0 < moving
  some = first_number number moving (fits packet) (frames.received c host r h packet taken).lawful

  here : r.view.procs to ≡ Some (process_of s)
  here = stands.procs to own ∙ ap (option_map process_of) found

  piece : IsPiece total offset bytes
  piece = piece_of total offset bytes (list_all is_number (numbers_of packet)) (frames.received c host r h packet taken).lawful

  same_count : count ≡ total
  same_count = eqb-true count total sized

  any : 1 ≤ length bytes
  any = let p = place_is total offset piece.place in omega (arith, piece.length_is, p.inside)

  inside : offset + length bytes ≤ count
  inside = let p = place_is total offset piece.place in omega (arith, piece.length_is, p.inside, same_count)

  abbrev written_steps : Bool → List Step
  written_steps b = copies_bytes name moving offset bytes ∷ list_if b (steps.End to endings.Ok ∷ [])

  out : packet_outcome host r packet ≡ only_steps (written_steps last)
  out = outcome c host r h from to number moving total offset bytes taken t fit stands s found partner dest src count state mover sized
      ∙ cond-true (offset == s.note.offset) _ _ next_one

  abbrev v : IsMoving r.view s partner directions.From dest count
  v = stands.waiting to s waiting found state

  numbered : v.name.number ≡ moving
  numbered = (noted_move name moving s v.name v.noted mover).1

  at_name : v.name.exchange ≡ name
  at_name = (noted_move name moving s v.name v.noted mover).0

  abbrev e : Exchange
  e = v.exchange

  e_is : r.view.exchanges name ≡ Some e
  e_is = ap r.view.exchanges (sym at_name) ∙ v.is

  owns : (m : Move) → move_of e moving ≡ Some m → m.mover ≡ to → IsOwnMove directions.From dest count m
  owns m at by = v.own m (ap (move_of e) numbered ∙ at) (by ∙ sym (seat_found t.seats to s found).named)

  abbrev asked : Move
  asked = new_move to directions.From dest src count []

  asked_is : running_move r.view to ≡ Some asked
  asked_is = allowed.running_from r.view s to moving some here name e e_is partner dest src count state owns

  abbrev change : Exchange → Exchange
  change x = with_bytes_of moving offset bytes (with_running moving to (running_move r.view to) x)

  abbrev z : Exchange
  z = record (change e) { done = offset + length bytes }

  abbrev y : Exchange
  y = written_to e moving to (bytes_from offset bytes) (offset + length bytes) asked

  settles : as_many_moves (Some e) z ≡ y
  settles = ap (λ o. as_many_moves (Some e)
      (record (with_bytes_of moving offset bytes (with_running moving to o e)) { done = offset + length bytes })) asked_is

  abbrev l : Kernel
  l = brought r.view packet

  abbrev memory : List ℕ
  memory = with_bytes s.memory (dest + offset) bytes

  abbrev pw : Process
  pw = record (process_of s) { memory = memory }

  abbrev lc : Kernel
  lc = record l { procs = put_process r.view.procs to pw; exchanges = put_exchange l.exchanges name z }

  abbrev has : allowed.HasOwn to directions.From dest count moving (with_running moving to (running_move r.view to) e)
  has = allowed.has_own_from r.view s to moving some here name e e_is partner dest src count state owns

  copied_is : next l (steps.Copy from number moving offset (length bytes)) ≡ lc
  unfolding copied
  copied_is =
      ap (λ o. after_effect l (o >>= λ x. Some (unseen (copied l name offset (length bytes) x))))
      (allowed.copies_next r.view s to moving some here name e e_is partner dest src count state owns from number refl offset bytes any
      inside
      mover)
      ∙ (λ i. record l {
        procs = put_process r.view.procs to
            (record (process_of s) { memory = with_bytes s.memory (has.own.dest_is i + offset) (front_bytes offset bytes i) });
        exchanges = put_exchange l.exchanges name z;
      })

  l_others : (n : Name) → same_name n name ≡ false → l.exchanges n ≡ r.view.exchanges n
  unfolding change_exchange
  l_others n f = ap (λ b. cond b (option_map change (r.view.exchanges n)) (r.view.exchanges n)) f

  abbrev settled_at : (n : Name) →
      change_exchange (put_exchange l.exchanges name z) name
      (as_many_moves (r.view.exchanges name)) n ≡ put_exchange r.view.exchanges name y n
  settled_at n = settled_exchanges r.view name e z y e_is settles (put_exchange l.exchanges name z)
      (λ n t1. put_exchange_at l.exchanges name z n t1) (λ n f. put_exchange_other l.exchanges name z n f ∙ l_others n f) n

  abbrev k : Kernel
  k = record r.view { exchanges = put_exchange r.view.exchanges name y }

  same : HasOtherMoves e y
  same = record {
    target = refl;
    message = refl;
    part = refl;
    spot = refl;
    stage = refl;
    moves = written_long e moving to
        (bytes_from offset bytes) asked;
  }

  part : Part host t k
  part = part_moved host t r.view (part_of c.times host t r fit stands) name (frames.received c host r h packet taken).away e y e_is same
      (owned t r.view to s found waiting state name e y e_is asked refl (record { direction_is = refl; dest_is = refl; count_is = refl })
      (left_written e moving to (bytes_from offset bytes) (offset + length bytes) asked))

  fitted : IsFitSeat host s
  fitted = let at = seat_found t.seats to s found in fit.seats at.at s at.here

  lies : lies_in (range_of (dest + offset) (length bytes)) (length s.memory) ≡ true
  lies =
      let low = leb-true (dest + count) (length s.memory)
      (and_parts (is_remote_move s.pid partner count) (lies_in (range_of dest count) (length s.memory)) (fitted.waits waiting state)).1 in
      le-leb (dest + offset + length bytes) (length s.memory) (omega (arith, low, inside))

  memory_is : overwritten (dest + offset) bytes s.memory ≡ memory
  memory_is = cond-true (lies_in (range_of (dest + offset) (length bytes)) (length s.memory)) memory s.memory lies

  part_then : Part host (seated t to (written (dest + offset) bytes)) (with_memory k to (process_of s) memory)
  part_then = part_written host t k part to own s found waiting state (dest + offset) bytes lies

  slots_same : after.slots ≡ r.slots
  slots_same = came_slots_still c host r h packet taken
      (ap (λ (o : Outcome). first_of (filter_map as_arrival o.steps)) out ∙ no_arrival name to moving offset bytes last)
      (λ i a is. (refl, ap (λ (o : Outcome). list_any (is_closing a.name) o.packets) out))

  work_other : (q : Pid) → same_pid q to ≡ false → after.work q ≡ r.work q
  work_other q apart = came_work_still c host r h packet taken q
      ((to_mover c host r h from to number moving total offset bytes taken t fit stands).answers q (r.work q) (r.view.procs q)
      (same_pid_laws.symm to q ∙ apart))
      (ap (λ (o : Outcome). list_any (is_of_round q) o.packets) out)
      (ap (λ (o : Outcome). cond (is_packet_to q packet) (sum_by count_in o.steps) 0) out
      ∙ cond-false (is_packet_to q packet) (sum_by count_in (written_steps last)) 0 apart)

  view_to : after.view ≡ without_running r.view name (fold next l (written_steps last))
  view_to = came_view c host r h packet taken ∙ ap (λ (o : Outcome). after_steps r.view (Some packet) o.steps) out

  steps_are : (b : Bool) → last ≡ b → written_steps b ≡ (entry_for c host r (Delivered (Framed h packet))).steps
  steps_are b is = sym (came_steps c host r h packet taken ∙ ap (λ (o : Outcome). o.steps) out ∙ ap written_steps is)

  packets_none : [] ≡ packets_in (entry_for c host r (Delivered (Framed h packet)))
  packets_none = sym (packets_are c host r (Delivered (Framed h packet))
      ∙ ap (λ (o : Outcome). o.packets) (came_outcome c host r h packet taken)
      ∙ ap (λ (o : Outcome). o.packets) out)

  abbrev Right : Brought → Type 0
  Right b = IsMoveRight c host t r (entry_for c host r (Delivered (Framed h packet)))
      (bytes_moved c.times r.now to name moving offset bytes b t.seats)

  -- They are the last.
  module _ (is_end : last ≡ true) where
    abbrev f : Seat → Seat
    f x = finished outcomes.Ok (written (dest + offset) bytes x)

    abbrev sw : Seat
    sw = record s { memory = memory }

    abbrev in_move : IsSeatInMove sw
    in_move = record { waiting = waiting; state = state; moves = refl }

    abbrev pd : Process
    pd = record pw { state = state_of (activities.Done waiting outcomes.Ok) }

    move_at : move_of z moving ≡ Some (record has.move { bytes = bytes_from offset bytes })
    move_at = same_moves_of z (change e) moving refl
        ∙ allowed.move_is r.view s to moving some here name e e_is partner dest src count state owns from number refl offset bytes any
        inside
        mover

    all_there : is_complete z moving ≡ true
    all_there = and_from (moving == moving) (holds_of (λ (m : Move). z.done == m.count) (move_of z moving)) (eq-eqb moving moving refl)
        (ap (holds_of (λ (m : Move). offset + length bytes == m.count)) move_at
        ∙ eq-eqb (offset + length bytes) has.move.count
        (eqb-true (offset + length bytes) total is_end ∙ sym same_count ∙ sym has.own.count_is))

    complete : move_ending lc v.name endings.Ok ≡ Some answers.Ok
    complete =
        ap (λ o. only_if (holds_of (λ x. is_complete x v.name.number) o) (Some answers.Ok))
        (ap lc.exchanges at_name ∙ put_exchange_here l.exchanges name z)
        ∙ ap (λ n. only_if (is_complete z n) (Some answers.Ok)) numbered
        ∙ ap (λ b. only_if b (Some answers.Ok)) all_there

    ended_next : next lc (steps.End to endings.Ok) ≡ with_state lc to pw (state_of (activities.Done waiting outcomes.Ok))
    ended_next = next_ending lc to sw (put_process_here r.view.procs to pw) in_move endings.Ok v.name outcomes.Ok v.noted complete

    seen : pd ≡ process_of (f s)
    seen = λ i. record (process_of s) { memory = sym memory_is i; state = state_of (done_with (sym state i) outcomes.Ok) }

    procs_are : put_process (put_process r.view.procs to pw) to pd ≡ put_process r.view.procs to (process_of (f s))
    procs_are = put_process_twice r.view.procs to pw pd ∙ ap (put_process r.view.procs to) seen

    view_is : after.view ≡ record k { procs = put_process r.view.procs to (process_of (f s)) }
    view_is =
        view_to
        ∙ ap (λ b. without_running r.view name (fold next l (written_steps b))) is_end
        ∙ ap (λ x. without_running r.view name (next x (steps.End to endings.Ok))) copied_is
        ∙ ap (λ x. without_running r.view name x) ended_next
        ∙ (λ i. record r.view { procs = procs_are i; exchanges = λ n. settled_at n i })

    never : (x : Waiting) → (f s).doing ≡ activities.Blocked x → ⊥
    never x is = let both : activities.Done waiting outcomes.Ok ≡ activities.Blocked x = ap (λ d. done_with d outcomes.Ok) (sym state)
        ∙ is in cc

    no_send : (target : Pid) (m : Message) → s.doing ≡ activities.Blocked (waitings.Send target m) → ⊥
    no_send target m is = let both : activities.Blocked waiting ≡ activities.Blocked (waitings.Send target m) = sym state ∙ is in cc

    sound : IsSoundAt (λ g. false) (record k { procs = put_process r.view.procs to (process_of (f s)) })
    sound = subst (λ ps. IsSoundAt (λ g. false) (record k { procs = ps })) procs_are
        (sound_over (with_memory k to (process_of s) memory) to pw (state_of (activities.Done waiting outcomes.Ok)) part_then.sound
        (put_process_here r.view.procs to pw) (ap (λ d. is_ready (state_of d)) state) (ap (λ d. sending (state_of d)) state) refl refl)

    part_end : Part host (seated t to f) (record k { procs = put_process r.view.procs to (process_of (f s)) })
    part_end = part_process host t k part to own s found f (λ x. refl) (record {
      same = record { pid = refl; part = refl; sends = refl; lookups = refl; moving = refl; opened = refl; done = refl };
      taken = refl;
      spot = refl;
      alive = refl;
      waits = λ x is. absurd (never x is);
      sends = λ x at near there is. absurd (no_send x.target x.message is);
      fits = λ g. fit_finished host outcomes.Ok (written (dest + offset) bytes s) (fit_written host (dest + offset) bytes s g);
    }) sound

    other : (p : Pid) (x : Seat) (a : Waiting) (b : Bool) → same_pid p to ≡ b → seat_in (seated t to f).seats p ≡ Some x →
        x.doing ≡ activities.Blocked a → b ≡ false
    other p x a true is at blocked =
        let q = mapped_is f (seat_in t.seats to) x
        (sym (find-changed to f (λ z. refl) t.seats) ∙ ap (seat_in (seated t to f).seats) (sym (same_pid_is p to is)) ∙ at) in
        let one : s ≡ q.0 = same_Some s q.0 (sym found ∙ q.1) in
        absurd (never a (ap (λ (x : Seat). (f x).doing) one ∙ ap (λ (x : Seat). x.doing) q.2 ∙ blocked))
    other p x a false is at blocked = refl

    stands_end : Stands c.times host (seated t to f) after
    stands_end = stands_part c.times host t (seated t to f) r after stands (subst (Part host (seated t to f)) (sym view_is) part_end)
        (carries_seated 1 t to s found f (λ x. refl) (same_more 1 s.note.sends) (same_more 1 s.note.lookups)
        (λ x is work. absurd (never x is)))
        (record {
          slots = slots_same ∙ stands.slots;
          events = events_are c host r (Delivered (Framed h packet));
          works = λ p x a at blocked is. work_other p (other p x a (same_pid p to) refl at blocked);
        })

    pub last_right : Right (brought_bytes.Next dest true)
    last_right = record {
      steps = steps_are true is_end;
      packets = packets_none;
      stands = subst (λ xs. Stands c.times host (record t { seats = xs }) after)
          (sym (change_twice (is_seat to) (written (dest + offset) bytes) (finished outcomes.Ok) (λ x. refl) t.seats)) stands_end;
    }

  -- There are more.
  module _ (is_more : last ≡ false) where
    abbrev g : ProcNote → ProcNote
    g = received c.times r.now (offset + length bytes)

    abbrev f_more : Seat → Seat
    f_more x = renoted g (written (dest + offset) bytes x)

    view_more : after.view ≡ record k { procs = put_process r.view.procs to (process_of (f_more s)) }
    view_more =
        view_to
        ∙ ap (λ b. without_running r.view name (fold next l (written_steps b))) is_more
        ∙ ap (λ x. without_running r.view name x) copied_is
        ∙ (λ i. record r.view {
          procs = put_process r.view.procs to (record (process_of s) { memory = sym memory_is i });
          exchanges = λ n. settled_at n i;
        })

    sound_more : IsSoundAt (λ g. false) (record k { procs = put_process r.view.procs to (process_of (f_more s)) })
    sound_more = subst (λ m. IsSoundAt (λ g. false)
        (record k { procs = put_process r.view.procs to (record (process_of s) { memory = m }) }))
        (sym memory_is) part_then.sound

    place : is_place count (offset + length bytes) ≡ true
    place =
        let p = place_is total offset piece.place in
        let apart : offset + length bytes ≡ total → ⊥ = λ e. both_ways last is_more (eq-eqb (offset + length bytes) total e) in
        let len : length bytes ≡ 1024 = omega (arith, piece.length_is, apart, p.inside) in
        ap (λ n. is_place n (offset + length bytes)) same_count
        ∙ is_at total (offset + length bytes) (record {
          some = p.some;
          few = p.few;
          multiple = omega (arith, p.multiple, len);
          inside = omega (arith, p.inside, piece.length_is, len, apart);
        })

    goes : (x : Waiting) → s.doing ≡ activities.Blocked x → may_go_on (g s.note) x ≡ true
    goes x is =
        let a = and_parts (holds_of (is_move_of partner) s.note.moving) (is_place count s.note.offset) (fitted.moves waiting state) in
        subst (λ a. may_go_on (g s.note) a ≡ true) (same_wait waiting x (sym state ∙ is)) (both_true a.0 place)

    part_more : Part host (seated t to f_more) (record k { procs = put_process r.view.procs to (process_of (f_more s)) })
    part_more = part_process host t k part to own s found f_more (λ x. refl) (record {
      same = record { pid = refl; part = refl; sends = refl; lookups = refl; moving = refl; opened = refl; done = refl };
      taken = refl;
      spot = refl;
      alive = refl;
      waits = λ x is. inl is;
      sends = λ x at near there is. refl;
      fits = λ d. fit_noted host g (written (dest + offset) bytes s) refl refl d.done goes (fit_written host (dest + offset) bytes s d);
    }) sound_more

    abbrev w : Work
    w = r.work to

    abbrev far : IsWorking c.times s w waiting
    far = works c host r h from to number moving total offset bytes taken t fit stands s found partner dest src count state mover sized

    answered : holds_of (is_answer to w packet) (r.view.procs to) ≡ true
    answered =
        answers_by c host r h from to number moving total offset bytes taken t fit stands s found partner dest src count state mover sized
        ∙ (λ i. (next_one i && not (is_more i)) || ((ltb s.note.offset offset && last) && not s.note.fresh))

    unsent : list_any (is_of_round to) (packet_outcome host r packet).packets ≡ false
    unsent = ap (λ (o : Outcome). list_any (is_of_round to) o.packets) out

    copied_here : cond (is_packet_to to packet) (sum_by count_in (packet_outcome host r packet).steps) 0 ≡ length bytes
    copied_here =
        ap (λ (o : Outcome). cond (is_packet_to to packet) (sum_by count_in o.steps) 0) out
        ∙ ap (λ b. cond (is_packet_to to packet) (sum_by count_in (written_steps b)) 0) is_more
        ∙ ap (λ b. cond b (0 + length bytes) 0) (same_pid_self to)
        ∙ zero_plus (length bytes)

    work_is : after.work to ≡ work_by r.now false true false false 0 (length bytes) w
    work_is = came_work c host r h packet taken to
        ∙ (λ i. work_by r.now false (answered i) (unsent i) (unsent i) 0 (copied_here i) w)

    working : IsWorking c.times (f_more s) (work_by r.now false true false false 0 (length bytes) w) waiting
    working = record {
      tries = refl;
      deadline = refl;
      far = (
        ap (λ n. n + length bytes) (eqb-true offset s.note.offset next_one ∙ far.far.0),
        sym (ap (λ b. b || w.fresh) (lt-ltb 0 (length bytes) (omega (arith, any)))),
      );
    }

    stands_more : Stands c.times host (seated t to f_more) after
    stands_more = stands_seated c.times host t r stands to s found f_more (λ x. refl) (λ x. refl) (λ x. refl) after
        (subst (Part host (seated t to f_more)) (sym view_more) part_more) slots_same
        (events_are c host r (Delivered (Framed h packet))) work_other
        (λ x is work. subst (λ v. IsWorking c.times (f_more s) v x) (sym work_is)
        (subst (IsWorking c.times (f_more s) (work_by r.now false true false false 0 (length bytes) w))
        (same_wait waiting x (sym state ∙ is))
        working))

    pub more_right : Right (brought_bytes.Next dest false)
    more_right = record {
      steps = steps_are false is_more;
      packets = packets_none;
      stands = subst (λ xs. Stands c.times host (record t { seats = xs }) after)
          (sym (change_twice (is_seat to) (written (dest + offset) bytes) (renoted g) (λ x. refl) t.seats)) stands_more;
    }
