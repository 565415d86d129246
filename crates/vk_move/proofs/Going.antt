-- Where a round may go out from.
use Rattle.std.proofs.Common.{◌≡◌, ℕ, ◌%◌, ◌==◌, Bool, true, false, cond, ◌&&◌, List, [], ◌∷◌, suc, refl, ap, sym, ◌∙◌, Option, Some, None, ltb}
use Rattle.std.specs.List.{slice_get}
use Rattle.std.specs.Cmp.Derive.{both_true}
use Rattle.std.proofs.lemmas.Bool.{and_parts, eqb-true, ltb-true}
use Rattle.std.proofs.lemmas.Option.{none-some}
use Rattle.vk_types.specs.Types.{Activity, MoveName, Name, Pid, Waiting}
use Rattle.vk_base.specs.declared.activity.Activity.TheVariants as activities
use Rattle.vk_base.specs.declared.activity.Waiting.TheVariants as waitings
use Rattle.vk_base.specs.Kernel.{holds_of}
use Rattle.vk_base.specs.Pids.{same_pid}
use Rattle.vk_base.specs.Ranges.{range_of, lies_in}
use Rattle.vk_packet.specs.Rules.{is_number, is_place}
use Rattle.vk_procs.specs.declared.seat.ProcNote.{ProcNote}
use Rattle.vk_procs.specs.declared.seat.Seat.{Seat}
use Rattle.vk_procs.specs.Seats.{is_seat, seat_in}
use Rattle.vk_stands.specs.Fit.{IsFitSeat, is_move_of, is_remote_move, may_go_on, may_wait}
use Rattle.vk_move.specs.declared.mover.Acked.TheVariants as acks
use Rattle.vk_move.specs.declared.mover.Brought.TheVariants as brought
use Rattle.vk_move.specs.Moved.{CanGoOn, HasFitSeats, going}
use Rattle.vk_move.specs.Mover.{acked_by, acked_doing, acked_in, brought_by, brought_doing, brought_in, is_mover}
use Rattle.vk_move.proofs.Pieces.{place_is, is_at}

-- a process that is found has a place
at_by : (p : Pid) (x s : Seat) (xs : List Seat) (b : Bool) → (seat_in xs p ≡ Some s → (i : ℕ) × (slice_get xs i ≡ Some s)) →
    cond b (Some x) (seat_in xs p) ≡ Some s → (i : ℕ) × (slice_get (x ∷ xs) i ≡ Some s)
at_by p x s xs true again is = (0, is)
at_by p x s xs false again is = let y = again is in (suc y.0, y.1)

pub seat_at : (p : Pid) (s : Seat) (seats : List Seat) → seat_in seats p ≡ Some s → (i : ℕ) × (slice_get seats i ≡ Some s)
seat_at p s [] is = absurd (none-some s is)
seat_at p s (x ∷ xs) is = at_by p x s xs (is_seat p x) (seat_at p s xs) is

-- a seat that fits, of which one is found
pub found_fits : (seats : List Seat) (fit : HasFitSeats seats) (p : Pid) (s : Seat) → seat_in seats p ≡ Some s → IsFitSeat fit.0 s
found_fits seats fit p s is = let at = seat_at p s seats is in fit.1 at.0 s at.1

-- the numbers of a move that is under way
pub numbers_of_move : (partner : Pid) (m : MoveName) → is_move_of partner m ≡ true →
    (is_number m.exchange.number ≡ true) × (is_number m.number ≡ true)
numbers_of_move partner m t =
    let a = and_parts (same_pid m.exchange.sender partner && is_number m.exchange.number) (is_number m.number) t in
    ((and_parts (same_pid m.exchange.sender partner) (is_number m.exchange.number) a.0).1, a.1)

pub goes_to : (m : Option MoveName) (partner : Pid) (size dest src count from : ℕ) → holds_of (is_move_of partner) m ≡ true →
    is_place count from ≡ true → lies_in (range_of src count) size ≡ true →
    going size from m (activities.Blocked (waitings.MoveTo partner dest src count)) ≡ true
goes_to None partner size dest src count from t place lies = refl
goes_to (Some m) partner size dest src count from t place lies =
    let n = numbers_of_move partner m t in
    both_true (both_true (both_true n.0 n.1) place) lies

pub goes_from : (m : Option MoveName) (partner : Pid) (size dest src count from : ℕ) → holds_of (is_move_of partner) m ≡ true →
    is_place count from ≡ true → going size from m (activities.Blocked (waitings.MoveFrom partner dest src count)) ≡ true
goes_from None partner size dest src count from t place = refl
goes_from (Some m) partner size dest src count from t place =
    let n = numbers_of_move partner m t in
    both_true (both_true n.0 n.1) place

-- an acknowledgement from which the move goes on
more_by : (a b c : Bool) → cond a acks.Ends (cond b acks.Restarts (cond c acks.Answers acks.Nothing)) ≡ acks.Restarts → b ≡ true
more_by true b c is = cc
more_by false true c is = refl
more_by false false true is = cc
more_by false false false is = cc

inside_by : (a : Bool) (note : ProcNote) (count got : ℕ) → cond a (acked_by note count got) acks.Nothing ≡ acks.Restarts →
    (ltb note.offset got && ltb got count && got % 1024 == 0) ≡ true
inside_by true note count got is = more_by (got == count) _ (got == note.offset) is
inside_by false note count got is = cc

further : (note : ProcNote) (count got : ℕ) → is_place count note.offset ≡ true →
    (ltb note.offset got && ltb got count && got % 1024 == 0) ≡ true → is_place count got ≡ true
further note count got place t =
    let a = and_parts (ltb note.offset got && ltb got count) (got % 1024 == 0) t in
    let h = place_is count note.offset place in
    is_at count got (record {
      some = h.some;
      few = h.few;
      multiple = eqb-true (got % 1024) 0 a.1;
      inside = ltb-true got count (and_parts (ltb note.offset got) (ltb got count) a.0).1;
    })

acked_goes : (d : Activity) (pid : Pid) (size : ℕ) (inside : Bool) (note : ProcNote) (got : ℕ) →
    ((w : Waiting) → d ≡ activities.Blocked w → may_wait pid size w ≡ true) →
    ((w : Waiting) → d ≡ activities.Blocked w → may_go_on note w ≡ true) →
    acked_doing inside note got d ≡ acks.Restarts → going size got note.moving d ≡ true
acked_goes activities.Ready pid size inside note got waits moves is = cc
acked_goes (activities.Done w o) pid size inside note got waits moves is = cc
acked_goes (activities.Blocked (waitings.Send target m)) pid size inside note got waits moves is = cc
acked_goes (activities.Blocked waitings.Receive) pid size inside note got waits moves is = cc
acked_goes (activities.Blocked (waitings.ReceiveSegment start count)) pid size inside note got waits moves is = cc
acked_goes (activities.Blocked (waitings.MoveFrom partner dest src count)) pid size inside note got waits moves is = cc
acked_goes (activities.Blocked (waitings.GetPid logical scope)) pid size inside note got waits moves is = cc
acked_goes (activities.Blocked (waitings.MoveTo partner dest src count)) pid size inside note got waits moves is =
    let waited = and_parts (is_remote_move pid partner count) (lies_in (range_of src count) size)
    (waits (waitings.MoveTo partner dest src count) refl) in
    let moved = and_parts (holds_of (is_move_of partner) note.moving) (is_place count note.offset)
    (moves (waitings.MoveTo partner dest src count) refl) in
    goes_to note.moving partner size dest src count got moved.0
    (further note count got moved.1 (inside_by inside note count got is)) waited.1

-- the place of a gap
gap_by : (note : ProcNote) (dest from : ℕ) (a last b c : Bool) →
    cond a (brought.Next dest last)
    (cond b (cond c (brought.Restarts note.offset) brought.Answers) brought.Nothing) ≡ brought.Restarts from →
    from ≡ note.offset
gap_by note dest from true last b c is = cc
gap_by note dest from false last true true is = cc
gap_by note dest from false last true false is = cc
gap_by note dest from false last false c is = cc

gap_inside : (a : Bool) (note : ProcNote) (dest total offset end from : ℕ) →
    cond a (brought_by note dest total offset end) brought.Nothing ≡ brought.Restarts from → from ≡ note.offset
gap_inside true note dest total offset end from is = gap_by note dest from (offset == note.offset) (end == total)
    (ltb note.offset offset && end == total) note.fresh is
gap_inside false note dest total offset end from is = cc

brought_goes : (d : Activity) (size : ℕ) (inside : Bool) (note : ProcNote) (total offset end from : ℕ) →
    ((w : Waiting) → d ≡ activities.Blocked w → may_go_on note w ≡ true) →
    brought_doing inside note total offset end d ≡ brought.Restarts from → going size from note.moving d ≡ true
brought_goes activities.Ready size inside note total offset end from moves is = cc
brought_goes (activities.Done w o) size inside note total offset end from moves is = cc
brought_goes (activities.Blocked (waitings.Send target m)) size inside note total offset end from moves is = cc
brought_goes (activities.Blocked waitings.Receive) size inside note total offset end from moves is = cc
brought_goes (activities.Blocked (waitings.ReceiveSegment start count)) size inside note total offset end from moves is = cc
brought_goes (activities.Blocked (waitings.MoveTo partner dest src count)) size inside note total offset end from moves is = cc
brought_goes (activities.Blocked (waitings.GetPid logical scope)) size inside note total offset end from moves is = cc
brought_goes (activities.Blocked (waitings.MoveFrom partner dest src count)) size inside note total offset end from moves is =
    let moved = and_parts (holds_of (is_move_of partner) note.moving) (is_place count note.offset)
    (moves (waitings.MoveFrom partner dest src count) refl) in
    let at : from ≡ note.offset = gap_inside (inside && count == total) note dest total offset end from is in
    goes_from note.moving partner size dest src count from moved.0 (ap (is_place count) at ∙ moved.1)

pub ack_goes_on : (seats : List Seat) (fit : HasFitSeats seats) (pid : Pid) (name : Name) (moving got : ℕ) →
    acks.Restarts ≡ acked_in name moving got (seat_in seats pid) → CanGoOn seats pid got
ack_goes_on seats fit pid name moving got is s found =
    let f = found_fits seats fit pid s found in
    acked_goes s.doing s.pid _ (is_mover name moving s) s.note got f.waits f.moves (ap (acked_in name moving got) (sym found) ∙ sym is)

pub bytes_go_on : (seats : List Seat) (fit : HasFitSeats seats) (pid : Pid) (name : Name) (moving total offset end from : ℕ) →
    brought.Restarts from ≡ brought_in name moving total offset end (seat_in seats pid) → CanGoOn seats pid from
bytes_go_on seats fit pid name moving total offset end from is s found =
    let f = found_fits seats fit pid s found in
    brought_goes s.doing _ (is_mover name moving s) s.note total offset end from f.moves
    (ap (brought_in name moving total offset end) (sym found) ∙ sym is)
