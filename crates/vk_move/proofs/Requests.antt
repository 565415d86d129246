-- A request for bytes of a move comes to its sender's station, by the tables and by the rules.
use Rattle.std.proofs.Common.{◌≡◌, ◌<◌, ℕ, ◌&&◌, ◌||◌, Bool, true, false, cond, List, [], ◌∷◌, map, refl, sym, ap, subst, ◌∙◌, Option, Some, None, ltb, leb, arith}
use Rattle.std.specs.List.{list_all, list_any, filter_map}
use Rattle.std.specs.Option.{option_map_or}
use Rattle.std.proofs.lemmas.Bool.{and_parts, leb-true, leb-false, ltb-true, ltb-false}
use Rattle.v_laws.proofs.MoveLists.{put_move_here}
use Rattle.vk_types.specs.Types.{Exchange, Message, Move, Name, Pid, Process, Step, Times}
use Rattle.vk_base.specs.declared.event.EventAnswer.TheVariants as events_answered
use Rattle.vk_base.specs.declared.step.Step.TheVariants as steps
use Rattle.vk_base.specs.Brought.{brought, move_from_sender, put_move, with_data, with_request}
use Rattle.vk_base.specs.Kernel.{move_of, name_of, sending}
use Rattle.vk_base.specs.Packets.{Packet, MoveNegative, MoveRequest}
use Rattle.vk_base.specs.Settings.{Settings}
use Rattle.vk_base.specs.Steps.{first_of, next as stepped}
use Rattle.vk_frame.specs.declared.header.Header.{Header}
use Rattle.vk_packet.specs.Rules.{is_number, is_place}
use Rattle.vk_procs.specs.declared.seat.Seat.{Seat}
use Rattle.vk_procs.specs.Seats.{process_of, seat_in}
use Rattle.vk_rules.specs.Aliens.{as_arrival, is_closing}
use Rattle.vk_rules.specs.Entries.{Delivered}
use Rattle.vk_rules.specs.Frames.{Framed}
use Rattle.vk_rules.specs.PacketOutcomes.{FarSender, bytes_packet, far_partner, has_made, may_be_read, no_sender, request_outcome}
unfoldable use Rattle.vk_rules.specs.PacketOutcomes.{packet_outcome}
use Rattle.vk_rules.specs.Readings.{Reading}
use Rattle.vk_rules.specs.Right.{answer_to}
use Rattle.vk_rules.specs.Rounds.{Outcome, list_if, nothing, offsets, only_packets}
use Rattle.vk_rules.specs.Works.{is_answer, is_of_round}
use Rattle.vk_stands.specs.Fit.{AreFit}
use Rattle.vk_stands.specs.Stands.{Stands}
use Rattle.vk_stands.specs.Tables.{Tables}
use Rattle.vk_stands.proofs.After.{entry_for, reading_for}
use Rattle.vk_stands.proofs.MovesOwn.{moved_long}
use Rattle.vk_stands.proofs.Parts.{Part}
use Rattle.vk_stands.proofs.Received.{received}
use Rattle.vk_stands.proofs.SentMoves.{HasMoreMoves, with_send}
use Rattle.vk_stands.proofs.SentStands.{IsCalm, IsPlain, sends_are, stands_moved, stands_quiet, steps_are}
use Rattle.vk_stands.proofs.SentSteps.{opened, opens}
use Rattle.vk_stands.proofs.RemoteReply.{changed_is_put}
use Rattle.vk_move.specs.declared.sender.Demand.TheVariants as demands
use Rattle.vk_move.specs.declared.sender.Sender.{Sender}
use Rattle.vk_move.specs.declared.sender.Sender.TheVariants as senders
use Rattle.vk_move.specs.Moved.{Moved, change_note, subject_by, progressed, still}
use Rattle.vk_move.specs.Right.{IsMoveRule, IsMoveRight}
use Rattle.vk_move.specs.Sender.{bytes_of, bytes_wanted, may_read, request_moved, request_taken, sender_by}
use Rattle.vk_move.proofs.Data.{never, some_number}
use Rattle.vk_move.proofs.Senders.{Decided, IsWaiter, decided}
use Rattle.vk_move.proofs.Waiters.{carries_noted, here, more_opened, part_noted, still_noted, waits}

-- none of them
none_of : {A : Type 0} (test : Packet → Bool) (make : A → Packet) → ((x : A) → test (make x) ≡ false) → (xs : List A) →
    list_any test (map make xs) ≡ false
none_of test make none [] = refl
none_of test make none (x ∷ xs) = ap (λ b. b || list_any test (map make xs)) (none x) ∙ none_of test make none xs

module _ (c : Settings) (host : ℕ) (r : Reading) (h : Header) (from to : Pid) (number moving src total offset : ℕ)
    (taken : answer_to c host r (Delivered (Framed h (MoveRequest from to number moving src total offset))) ≡ events_answered.Taken)
    (t : Tables) (fit : AreFit host t) (stands : Stands c.times host t r) where
  abbrev packet : Packet
  packet = MoveRequest from to number moving src total offset

  abbrev name : Name
  name = name_of to number

  abbrev after : Reading
  after = reading_for c host r (Delivered (Framed h packet))

  own : to.host ≡ host
  own = (received c host r h packet taken).own to refl

  away : from.host ≡ host → ⊥
  away = (received c host r h packet taken).away

  some : 0 < moving
  some = some_number number moving
      (and_parts (list_all is_number (number ∷ moving ∷ [])) (is_place total offset) (received c host r h packet taken).lawful).0

  plain : IsPlain to packet
  plain = record { copy = λ n. refl; answer = λ q w x. never x (is_answer q w packet) (λ p. refl); receiver = λ q. refl }

  abbrev Right : Moved → Type 0
  Right mm = IsMoveRight c host t r (entry_for c host r (Delivered (Framed h packet))) mm

  right : (o : Outcome) → packet_outcome host r packet ≡ o → IsCalm o → (mm : Moved) → mm.steps ≡ o.steps → mm.packets ≡ o.packets →
      Stands c.times host (record t { seats = mm.seats }) after → Right mm
  right o out calm mm same_steps same_packets then_stands = record {
    steps = same_steps ∙ sym (steps_are c host r h packet taken to plain o out calm t stands);
    packets = same_packets ∙ sym (sends_are c host r h packet taken to plain o out calm t stands);
    stands = then_stands;
  }

  -- no step, and these packets
  quiet : (ps : List Packet) → packet_outcome host r packet ≡ only_packets ps → IsCalm (only_packets ps) →
      Right (record { seats = t.seats; steps = []; packets = ps })
  quiet ps out calm = right (only_packets ps) out calm (record { seats = t.seats; steps = []; packets = ps }) refl refl
      (stands_quiet c host r h packet taken to plain (only_packets ps) out calm t stands refl)

  calm_none : IsCalm (only_packets [])
  calm_none = record { arrival = refl; closes = λ n. refl; rounds = λ q. refl }

  calm_gone : IsCalm (only_packets (MoveNegative to from number moving ∷ []))
  calm_gone = record { arrival = refl; closes = λ n. refl; rounds = λ q. refl }

  out_by : (o : Option FarSender) → far_partner r.view name from ≡ o → packet_outcome host r packet
      ≡ option_map_or (λ (w : FarSender). cond (may_be_read src total w)
      (request_outcome name from moving src total offset w) nothing) o (no_sender r.view name from moving)
  unfolding packet_outcome
  out_by o is = ap (λ o. option_map_or (λ (w : FarSender). cond (may_be_read src total w)
      (request_outcome name from moving src total offset w) nothing) o (no_sender r.view name from moving)) is

  made : (b : Bool) → has_made r.view name ≡ b → no_sender r.view name from moving
      ≡ only_packets (list_if b (MoveNegative to from number moving ∷ []))
  made b is = ap (λ b. only_packets (list_if b (MoveNegative to from number moving ∷ []))) is

  abbrev opener : Step
  opener = steps.OpenMove to number moving

  arrival_by : (a : Bool) → first_of (filter_map as_arrival (list_if a (opener ∷ []))) ≡ None
  arrival_by true = refl
  arrival_by false = refl

  -- the process waits
  module _ (m : Message) (current done : ℕ) (w : IsWaiter t r from to number m current done) where
    abbrev e : Exchange
    e = w.exchange

    abbrev p : Process
    p = process_of w.seat

    abbrev mv : Move
    mv = move_from_sender from src total

    abbrev asked : List Packet
    asked = map (bytes_packet name from moving src total w.seat.memory) (offsets offset total)

    abbrev by_tests : (later far : Bool) → Outcome
    by_tests later far = record { steps = list_if later (opener ∷ []); packets = list_if far asked }

    abbrev moved_by : (later : Bool) (before : ℕ) → Moved
    moved_by later before = record {
      seats = change_note to (progressed moving before) t.seats;
      steps = list_if later (opener ∷ []);
      packets = bytes_of name from moving src total offset (seat_in t.seats to);
    }

    calm_by : (later : Bool) → IsCalm (by_tests later true)
    calm_by later = record {
      arrival = arrival_by later;
      closes = λ n. none_of (is_closing n) (bytes_packet name from moving src total w.seat.memory) (λ x. refl) (offsets offset total);
      rounds = λ q. none_of (is_of_round q) (bytes_packet name from moving src total w.seat.memory) (λ x. refl) (offsets offset total);
    }

    posts : bytes_of name from moving src total offset (seat_in t.seats to) ≡ asked
    posts = ap (bytes_of name from moving src total offset) w.found

    out_waits : packet_outcome host r packet ≡ cond (may_read m src total)
        (request_outcome name from moving src total offset (record { process = p; message = m; exchange = e })) nothing
    out_waits = out_by (Some (record { process = p; message = m; exchange = e })) w.far

    out_granted : may_read m src total ≡ true → packet_outcome host r packet ≡ by_tests (ltb current moving) (leb current moving)
    out_granted granted = out_waits
        ∙ ap (λ b. cond b (request_outcome name from moving src total offset (record { process = p; message = m; exchange = e })) nothing)
        granted
        ∙ ap (λ n. by_tests (ltb n moving) (leb n moving)) w.open_is

    process_here : r.view.procs to ≡ Some p
    process_here = here c.times host t r stands fit from to own away number moving m current done w

    sends : sending p.state ≡ Some (w.target, m)
    sends = waits c.times host t r stands fit from to own away number moving m current done w

    -- it is opened
    module _ (later : ltb current moving ≡ true) where
      abbrev e0 : Exchange
      e0 = with_data moving mv e

      later_there : ltb e.opened moving ≡ true
      later_there = ap (λ n. ltb n moving) w.open_is ∙ later

      brought_is : brought r.view packet ≡ with_send r.view name e0
      brought_is = (λ i. record r.view { exchanges = changed_is_put r.view.exchanges name (with_request moving mv) e w.is i })
          ∙ ap (λ b. with_send r.view name (record e { moves = cond b (put_move e.moves moving mv) e.moves })) later_there

      at0 : move_of e0 moving ≡ Some mv
      at0 = put_move_here e moving mv some

      more0 : HasMoreMoves e e0
      more0 = record { target = refl; message = refl; part = refl; spot = refl; stage = refl; moves = moved_long e.moves moving mv }

      abbrev e1 : Exchange
      e1 = opened r.view to number moving p process_here (w.target, m) sends w.last e0 mv

      more1 : HasMoreMoves e e1
      more1 = more_opened c.times host t r stands fit from to own away number moving m current done w e0 mv more0

      opened_view : stepped (brought r.view packet) opener ≡ with_send r.view name e1
      opened_view = ap (λ k. stepped k opener) brought_is
          ∙ opens r.view to number moving p process_here (w.target, m) sends w.last e0 mv later_there at0

      opens_right : packet_outcome host r packet ≡ by_tests true true → Right (moved_by true 0)
      opens_right out = right (by_tests true true) out (calm_by true) (moved_by true 0) refl posts
          (stands_moved c host r h packet taken to plain (by_tests true true) out (calm_by true) t stands w.seat w.found w.target m w.state
          (record t { seats = (moved_by true 0).seats })
          (subst (Part host (record t { seats = (moved_by true 0).seats })) (sym opened_view)
          (part_noted c.times host t r stands fit from to own away number moving m current done w e1 0 more1 refl refl (omega arith)))
          (carries_noted c.times host t r stands fit from to own away number moving m current done w 0) refl)

    right_by : (later : Bool) → packet_outcome host r packet ≡ by_tests later true → ltb current moving ≡ later →
        leb current moving ≡ true →
        Right (moved_by later (cond later 0 done))
    right_by true out higher reached = opens_right higher out
    right_by false out higher reached =
        let same : current ≡ moving = omega (arith, ltb-false current moving higher, leb-true current moving reached) in
        let seats : change_note to (progressed moving done) t.seats ≡ t.seats =
        still_noted c.times host t r stands fit from to own away number moving m current done w same in
        right (by_tests false true) out (calm_by false) (moved_by false done) refl posts
        (subst (λ xs. Stands c.times host (record t { seats = xs }) after) (sym seats)
        (stands_quiet c host r h packet taken to plain (by_tests false true) out (calm_by false) t stands refl))

    nothing_out : packet_outcome host r packet ≡ only_packets [] → Right (still t.seats)
    nothing_out out = quiet [] out calm_none

    right_tests : (g far later : Bool) → may_read m src total ≡ g → leb current moving ≡ far → ltb current moving ≡ later →
        Right (request_moved name from moving src total offset
        (cond (g && far) (demands.Wanted later (cond later 0 done)) demands.Nothing) t.seats)
    right_tests false far later granted reached higher =
        nothing_out (out_waits
        ∙ ap (λ b. cond b (request_outcome name from moving src total offset (record { process = p; message = m; exchange = e })) nothing)
        granted)
    right_tests true false true granted reached higher =
        absurd (omega (arith, ltb-true current moving higher, leb-false current moving reached))
    right_tests true false false granted reached higher = nothing_out (out_granted granted ∙ (λ i. by_tests (higher i) (reached i)))
    right_tests true true later granted reached higher =
        right_by later (out_granted granted ∙ (λ i. by_tests (higher i) (reached i))) higher reached

    right_waits : Right (request_moved name from moving src total offset
        (bytes_wanted moving src total (senders.Waits m current done)) t.seats)
    right_waits = right_tests (may_read m src total) (leb current moving) (ltb current moving) refl refl refl

  right_sender : (x : Sender) → Decided t r from to number x →
      Right (request_moved name from moving src total offset (bytes_wanted moving src total x) t.seats)
  right_sender senders.Unknown d = quiet [] (out_by None d.0 ∙ made false d.1) calm_none
  right_sender senders.Gone d = quiet (MoveNegative to from number moving ∷ []) (out_by None d.0 ∙ made true d.1) calm_gone
  right_sender (senders.Waits m current done) w = right_waits m current done w

  pub request_right : Right (request_taken (subject_by from to number moving) src total offset t.seats)
  request_right = right_sender (sender_by to from number (seat_in t.seats to)) (decided c.times host t r stands from to own number)

pub request_rule : (times : Times) (now : ℕ) (from to : Pid) (number moving src total offset : ℕ) (seats : List Seat) →
    IsMoveRule times now (MoveRequest from to number moving src total offset) seats
    (request_taken (subject_by from to number moving) src total offset seats)
request_rule times now from to number moving src total offset seats c host t r h same at fit stands taken =
    request_right c host r h from to number moving src total offset taken (record t { seats = seats }) fit
    (subst (λ x. Stands x host (record t { seats = seats }) r) (sym same) stands)
