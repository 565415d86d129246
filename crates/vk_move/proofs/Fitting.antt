-- The tables of a station still fit after a rule of moves.
use Rattle.std.proofs.Common.{◌≡◌, ◌≤◌, ◌<◌, ℕ, true, ◌&&◌, List, length, refl, ap, sym, ◌∙◌, subst, Option, Some, None}
use Rattle.std.proofs.lemmas.Bool.{and_parts}
use Rattle.std.specs.Cmp.Derive.{both_true}
use Rattle.vk_types.specs.Types.{Ending, MoveName, Outcome, Pid, Times, Waiting}
use Rattle.vk_base.specs.declared.activity.Activity.TheVariants as activities
use Rattle.vk_base.specs.declared.activity.Outcome.TheVariants as outcomes
use Rattle.vk_base.specs.declared.activity.Waiting.TheVariants as waitings
use Rattle.vk_base.specs.declared.answer.Ending.TheVariants as endings
use Rattle.vk_base.specs.declared.answer.Refusal.TheVariants as refusals
use Rattle.vk_base.specs.Firsts.{change_first}
use Rattle.vk_base.specs.Kernel.{holds_of}
use Rattle.vk_packet.specs.Rules.{is_number, is_place}
use Rattle.vk_base.specs.Ranges.{range_of, lies_in}
use Rattle.vk_procs.specs.declared.seat.ProcNote.{ProcNote}
use Rattle.vk_procs.specs.declared.seat.Seat.{Seat}
use Rattle.vk_procs.specs.Seats.{finished, is_seat, seat_in, written}
use Rattle.vk_procs.proofs.Rooms.{length_overwritten}
use Rattle.vk_stands.specs.Fit.{IsFitSeat, is_move_of, may_go_on, may_wait}
use Rattle.vk_stands.proofs.Fits.{fit_seated}
use Rattle.vk_stands.proofs.FitSeats.{not_blocked}
use Rattle.vk_move.specs.Fitting.{KeepsFit}
use Rattle.vk_timer.specs.declared.work.Work.{Work}
use Rattle.vk_move.specs.Moved.{CanGoOn, answered, change_note, going, progressed, renoted, restarted}
use Rattle.vk_move.specs.Mover.{ended_seats}

pub fit_finished : (host : ℕ) (o : Outcome) (s : Seat) → IsFitSeat host s → IsFitSeat host (finished o s)
fit_finished host o s f = record {
  own = f.own;
  waits = λ w is. absurd (not_blocked s.doing o w is);
  moves = λ w is. absurd (not_blocked s.doing o w is);
  done = f.done;
  part = λ target m is. absurd (not_blocked s.doing o (waitings.Send target m) is);
  few = f.few;
  away = λ target m is far. absurd (not_blocked s.doing o (waitings.Send target m) is);
  begun = λ target m is. absurd (not_blocked s.doing o (waitings.Send target m) is);
  asked = λ logical scope is. absurd (not_blocked s.doing o (waitings.GetPid logical scope) is);
}

-- a note that changes no number of Sends and lookups, where what goes on may
pub fit_noted : (host : ℕ) (g : ProcNote → ProcNote) (s : Seat) → (g s.note).sends ≡ s.note.sends →
    (g s.note).lookups ≡ s.note.lookups → (g s.note).done ≤ 65536 →
    ((w : Waiting) → s.doing ≡ activities.Blocked w → may_go_on (g s.note) w ≡ true) → IsFitSeat host s → IsFitSeat host (renoted g s)
fit_noted host g s sends lookups low goes f = record {
  own = f.own;
  waits = f.waits;
  moves = goes;
  done = low;
  part = f.part;
  few = f.few;
  away = f.away;
  begun = λ target m is. subst (λ n. 0 < n) (sym sends) (f.begun target m is);
  asked = λ logical scope is. subst (λ n. 0 < n) (sym lookups) (f.asked logical scope is);
}

pub fit_written : (host at : ℕ) (bytes : List ℕ) (s : Seat) → IsFitSeat host s → IsFitSeat host (written at bytes s)
fit_written host at bytes s f = record {
  own = f.own;
  waits = λ w is. ap (λ n. may_wait s.pid n w) (length_overwritten s.memory at bytes) ∙ f.waits w is;
  moves = f.moves;
  done = f.done;
  part = f.part;
  few = f.few;
  away = f.away;
  begun = f.begun;
  asked = f.asked;
}

-- Over whole tables.
pub kept_same : (seats : List Seat) → KeepsFit seats seats
kept_same seats host t fit = fit

pub kept_then : (a b c : List Seat) → KeepsFit a b → KeepsFit b c → KeepsFit a c
kept_then a b c x y host t fit = y host t (x host t fit)

pub kept_change : (seats : List Seat) (pid : Pid) (f : Seat → Seat) → ((x : Seat) → (f x).pid ≡ x.pid) →
    ((host : ℕ) (s : Seat) → seat_in seats pid ≡ Some s → IsFitSeat host s → IsFitSeat host (f s)) →
    KeepsFit seats (change_first (is_seat pid) f seats)
kept_change seats pid f keeps fits host t fit = fit_seated host (record t { seats = seats }) fit pid f keeps (fits host)

pub kept_ended : (seats : List Seat) (pid : Pid) (why : Ending) → KeepsFit seats (ended_seats pid why seats)
kept_ended seats pid endings.Ok = kept_change seats pid (finished outcomes.Ok) (λ x. refl)
    (λ host s found f. fit_finished host outcomes.Ok s f)
kept_ended seats pid endings.Gone =
    kept_change seats pid (finished (outcomes.Refused refusals.Gone)) (λ x. refl)
    (λ host s found f. fit_finished host (outcomes.Refused refusals.Gone) s f)
kept_ended seats pid endings.TimedOut =
    kept_change seats pid (finished (outcomes.Refused refusals.TimedOut)) (λ x. refl)
    (λ host s found f. fit_finished host (outcomes.Refused refusals.TimedOut) s f)
kept_ended seats pid endings.NoProcess = kept_same seats

same_goes : (t : Times) (now : ℕ) (n : ProcNote) (w : Waiting) → may_go_on (answered t now n) w ≡ may_go_on n w
same_goes t now n w = refl

pub kept_answered : (seats : List Seat) (pid : Pid) (t : Times) (now : ℕ) → KeepsFit seats (change_note pid (answered t now) seats)
kept_answered seats pid t now = kept_change seats pid (renoted (answered t now)) (λ x. refl)
    (λ host s found f. fit_noted host (answered t now) s refl refl f.done (λ w is. same_goes t now s.note w ∙ f.moves w is) f)

-- a move that goes on from an offset where it may
place_by : (size from count : ℕ) (m : Option MoveName) (partner : Pid) (dest src : ℕ) → holds_of (is_move_of partner) m ≡ true →
    going size from m (activities.Blocked (waitings.MoveTo partner dest src count)) ≡ true → is_place count from ≡ true
place_by size from count None partner dest src t is = cc
place_by size from count (Some m) partner dest src t is =
    let a = and_parts (is_number m.exchange.number && is_number m.number && is_place count from) (lies_in (range_of src count) size) is in
    (and_parts (is_number m.exchange.number && is_number m.number) (is_place count from) a.0).1

place_from : (size from count : ℕ) (m : Option MoveName) (partner : Pid) (dest src : ℕ) → holds_of (is_move_of partner) m ≡ true →
    going size from m (activities.Blocked (waitings.MoveFrom partner dest src count)) ≡ true → is_place count from ≡ true
place_from size from count None partner dest src t is = cc
place_from size from count (Some m) partner dest src t is =
    (and_parts (is_number m.exchange.number && is_number m.number) (is_place count from) is).1

goes_at : (size from : ℕ) (n : ProcNote) (w : Waiting) → may_go_on n w ≡ true → going size from n.moving (activities.Blocked w) ≡ true →
    may_go_on (record n { offset = from }) w ≡ true
goes_at size from n (waitings.MoveTo partner dest src count) t is =
    let a = and_parts (holds_of (is_move_of partner) n.moving) (is_place count n.offset) t in
    both_true a.0 (place_by size from count n.moving partner dest src a.0 is)
goes_at size from n (waitings.MoveFrom partner dest src count) t is =
    let a = and_parts (holds_of (is_move_of partner) n.moving) (is_place count n.offset) t in
    both_true a.0 (place_from size from count n.moving partner dest src a.0 is)
goes_at size from n (waitings.Send target m) t is = refl
goes_at size from n waitings.Receive t is = refl
goes_at size from n (waitings.ReceiveSegment start count) t is = refl
goes_at size from n (waitings.GetPid logical scope) t is = refl

at_offset : (work : Work) (from : ℕ) (n : ProcNote) (w : Waiting) →
    may_go_on (restarted work from n) w ≡ may_go_on (record n { offset = from }) w
at_offset work from n w = refl

pub kept_restarted : (seats : List Seat) (pid : Pid) (work : Work) (from : ℕ) → CanGoOn seats pid from →
    KeepsFit seats (change_note pid (restarted work from) seats)
kept_restarted seats pid work from goes = kept_change seats pid (renoted (restarted work from)) (λ x. refl)
    (λ host s found f. fit_noted host (restarted work from) s refl refl f.done
    (λ w is. at_offset work from s.note w
    ∙ goes_at (length s.memory) from s.note w (f.moves w is) (ap (going (length s.memory) from s.note.moving) (sym is) ∙ goes s found)) f)

same_progress : (moving done : ℕ) (n : ProcNote) (w : Waiting) → may_go_on (progressed moving done n) w ≡ may_go_on n w
same_progress moving done n w = refl

pub kept_progressed : (seats : List Seat) (pid : Pid) (moving done : ℕ) → done ≤ 65536 →
    KeepsFit seats (change_note pid (progressed moving done) seats)
kept_progressed seats pid moving done low = kept_change seats pid (renoted (progressed moving done)) (λ x. refl)
    (λ host s found f. fit_noted host (progressed moving done) s refl refl low (λ w is. same_progress moving done s.note w ∙ f.moves w is) f)

pub kept_written : (seats : List Seat) (pid : Pid) (at : ℕ) (bytes : List ℕ) →
    KeepsFit seats (change_first (is_seat pid) (written at bytes) seats)
kept_written seats pid at bytes = kept_change seats pid (written at bytes) (λ x. refl) (λ host s found f. fit_written host at bytes s f)
