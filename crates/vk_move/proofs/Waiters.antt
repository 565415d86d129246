-- A process that waits in its Send to a process of the mover's station: what becomes of the relation when one of the Send's moves is
-- opened, or its next bytes are written.
use Rattle.std.proofs.Common.{◌≡◌, ◌≤◌, ℕ, ◌-◌, true, List, length, refl, sym, ap, subst, ◌∙◌, Some, arith}
use Rattle.std.specs.Option.{option_map}
use Rattle.std.proofs.lemmas.Bool.{eqb-true}
use Rattle.std.proofs.lemmas.List.{length-set}
use Rattle.vk_types.specs.Types.{Exchange, Message, Move, Name, Pid, Process, Times, Waiting}
use Rattle.vk_base.specs.declared.activity.Waiting.TheVariants as waitings
use Rattle.vk_base.specs.declared.limits.TheConstants.{MOVE_BYTES}
use Rattle.vk_base.specs.Activities.{state_of}
use Rattle.vk_base.specs.Firsts.{change_first}
use Rattle.vk_base.specs.Kernel.{Kernel, name_of, sending, with_memory}
use Rattle.vk_base.specs.Ranges.{lies_in, range_of, with_bytes}
use Rattle.vk_base.specs.Steps.{noted_bytes}
use Rattle.vk_procs.specs.declared.seat.Seat.{Seat}
use Rattle.vk_procs.specs.Seats.{is_seat, process_of, seat_in, written}
use Rattle.vk_rules.specs.Readings.{Reading}
use Rattle.vk_stands.specs.Fit.{AreFit}
use Rattle.vk_stands.specs.Stands.{Stands}
use Rattle.vk_stands.specs.Tables.{Tables, seat_name}
use Rattle.vk_stands.proofs.Found.{seat_found}
use Rattle.vk_stands.proofs.OneSeat.{seated}
use Rattle.vk_stands.proofs.Parts.{Carries, Part, carries_seated, part_of, same_more}
use Rattle.vk_stands.proofs.Seats.{change_still, change_twice, find-changed}
use Rattle.vk_stands.proofs.SentMoves.{HasMoreMoves, moved_on, part_moved_on, part_written, with_send}
use Rattle.vk_stands.proofs.SentSteps.{opened}
use Rattle.vk_move.specs.Moved.{change_note, progressed, renoted}
use Rattle.vk_move.proofs.Senders.{IsWaiter}

module _ (times : Times) (host : ℕ) (t : Tables) (r : Reading) (h : Stands times host t r) (fit : AreFit host t) (from to : Pid)
    (own : to.host ≡ host) (away : from.host ≡ host → ⊥) (number moving : ℕ) (m : Message) (current done : ℕ)
    (w : IsWaiter t r from to number m current done) where
  abbrev name : Name
  name = name_of to number

  abbrev s : Seat
  s = w.seat

  abbrev p : Process
  p = process_of s

  abbrev e : Exchange
  e = w.exchange

  abbrev waiting : Waiting
  waiting = waitings.Send w.target m

  target_away : w.target.host ≡ host → ⊥
  target_away here = away (sym (eqb-true w.target.host from.host w.near) ∙ here)

  pub here : r.view.procs to ≡ Some p
  here = h.procs to own ∙ ap (option_map process_of) w.found

  pub waits : sending p.state ≡ Some (w.target, m)
  waits = ap (λ d. sending (state_of d)) w.state

  named : name ≡ seat_name s
  named = λ i. name_of (sym (seat_found t.seats to s w.found).named i) (sym (eqb-true s.note.sends number w.last) i)

  part : Part host t r.view
  part = part_of times host t r fit h

  -- what it notes
  abbrev noted : ℕ → Tables
  noted d = record t { seats = change_note to (progressed moving d) t.seats }

  pub part_noted : (y : Exchange) (d : ℕ) → HasMoreMoves e y → y.opened ≡ moving → y.done ≡ d → d ≤ MOVE_BYTES →
      Part host (noted d) (with_send r.view name y)
  part_noted y d more opens so_far low =
      subst (λ n. Part host (noted d) (with_send r.view n y)) (sym named)
      (subst (λ z. Part host (seated t to (moved_on moving z)) (with_send r.view (seat_name s) y)) so_far
      (subst (λ z. Part host (seated t to (moved_on z y.done)) (with_send r.view (seat_name s) y)) opens
      (part_moved_on host t r.view part to own s w.found w.target m w.state target_away e (sym (ap r.view.exchanges named) ∙ w.is) y more
      (subst (λ z. z ≤ MOVE_BYTES) (sym so_far) low))))

  pub carries_noted : (d : ℕ) → Carries 1 t (noted d)
  carries_noted d = carries_seated 1 t to s w.found (moved_on moving d) (λ x. refl) (same_more 1 s.note.sends) (same_more 1 s.note.lookups)
      (λ v is work. (is, record { work = refl; offset = refl; fresh = refl }))

  -- nothing changes where so many bytes of the open move are done already
  pub still_noted : current ≡ moving → change_note to (progressed moving done) t.seats ≡ t.seats
  still_noted is = change_still (is_seat to) (renoted (progressed moving done)) s t.seats w.found
      (λ i. record s { note = record s.note { opened = sym (w.opened_is ∙ is) i; done = sym w.done_is i } })

  -- a move is opened
  pub more_opened : (x : Exchange) (v : Move) → HasMoreMoves e x → HasMoreMoves e (opened r.view to number moving p here (w.target, m) waits
      w.last x v)
  more_opened x v more = record {
    target = more.target;
    message = more.message;
    part = more.part;
    spot = more.spot;
    stage = more.stage;
    moves =
        let long = more.moves in
        let same = length-set x.moves (moving - 1) (record v { bytes = noted_bytes v.direction p v }) in
        omega (arith, long, same);
  }

  -- the next bytes are written
  module _ (at : ℕ) (bytes : List ℕ) (lies : lies_in (range_of at (length bytes)) (length s.memory) ≡ true) where
    abbrev memory : List ℕ
    memory = with_bytes s.memory at bytes

    abbrev with_written : ℕ → Tables
    with_written d = record t { seats = change_note to (progressed moving d) (change_first (is_seat to) (written at bytes) t.seats) }

    abbrev k : Kernel
    k = with_memory r.view to p memory

    found : seat_in (seated t to (written at bytes)).seats to ≡ Some (written at bytes s)
    found = find-changed to (written at bytes) (λ x. refl) t.seats ∙ ap (option_map (written at bytes)) w.found

    pub part_copied : (y : Exchange) (d : ℕ) → HasMoreMoves e y → y.opened ≡ moving → y.done ≡ d → d ≤ MOVE_BYTES →
        Part host (with_written d) (with_send k name y)
    part_copied y d more opens so_far low =
        subst (λ n. Part host (with_written d) (with_send k n y)) (sym named)
        (subst (λ z. Part host (seated (seated t to (written at bytes)) to (moved_on moving z)) (with_send k (seat_name s) y)) so_far
        (subst (λ z. Part host (seated (seated t to (written at bytes)) to (moved_on z y.done)) (with_send k (seat_name s) y)) opens
        (part_moved_on host (seated t to (written at bytes)) k
        (part_written host t r.view part to own s w.found waiting w.state at bytes lies) to own
        (written at bytes s) found w.target m w.state target_away e
        (sym (ap r.view.exchanges named) ∙ w.is) y more (subst (λ z. z ≤ MOVE_BYTES) (sym so_far) low))))

    pub carries_copied : (d : ℕ) → Carries 1 t (with_written d)
    carries_copied d =
        subst (λ xs. Carries 1 t (record t { seats = xs }))
        (sym (change_twice (is_seat to) (written at bytes) (moved_on moving d) (λ x. refl) t.seats))
        (carries_seated 1 t to s w.found (λ x. moved_on moving d (written at bytes x)) (λ x. refl) (same_more 1 s.note.sends)
        (same_more 1 s.note.lookups) (λ v is work. (is, record { work = refl; offset = refl; fresh = refl })))
