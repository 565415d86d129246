-- A process of the station fits after a change of what it does, of its memory or of its numbers.
use Rattle.std.proofs.Common.{◌≡◌, ℕ, ◌<◌, ◌≤◌, List, length, refl, sym, ap, subst, ◌∙◌}
use Rattle.vk_types.specs.Types.{Activity, Outcome, Pid, Waiting}
use Rattle.vk_base.specs.declared.activity.Activity.TheVariants as activities
use Rattle.vk_base.specs.declared.activity.Waiting.TheVariants as waitings
use Rattle.vk_base.specs.declared.limits.TheConstants.{MOVE_BYTES, SEGMENT_BYTES}
use Rattle.vk_base.specs.Activities.{done_with}
use Rattle.vk_procs.specs.declared.seat.ProcNote.{ProcNote}
use Rattle.vk_procs.specs.declared.seat.Seat.{Seat}
use Rattle.vk_procs.specs.Seats.{finished}
use Rattle.vk_stands.specs.Fit.{IsFitSeat, may_go_on, may_wait}

-- one that waits in nothing, whatever it does and has in its memory
pub fit_idle : (host : ℕ) (s y : Seat) → y.pid ≡ s.pid → y.note ≡ s.note → y.part.bytes ≡ s.part.bytes →
    ((w : Waiting) → y.doing ≡ activities.Blocked w → ⊥) → IsFitSeat host s → IsFitSeat host y
fit_idle host s y pid note part idle h = record {
  own = ap (λ (p : Pid). p.host) pid ∙ h.own;
  waits = λ w is. absurd (idle w is);
  moves = λ w is. absurd (idle w is);
  done = subst (λ (n : ProcNote). n.done ≤ MOVE_BYTES) (sym note) h.done;
  part = λ target m is. absurd (idle (waitings.Send target m) is);
  few = subst (λ bytes. length bytes ≤ SEGMENT_BYTES) (sym part) h.few;
  away = λ target m is far. absurd (idle (waitings.Send target m) is);
  begun = λ target m is. absurd (idle (waitings.Send target m) is);
  asked = λ logical scope is. absurd (idle (waitings.GetPid logical scope) is);
}

pub not_blocked : (d : Activity) (o : Outcome) (w : Waiting) → done_with d o ≡ activities.Blocked w → ⊥
not_blocked activities.Ready o w is = cc
not_blocked (activities.Blocked v) o w is = cc
not_blocked (activities.Done v old) o w is = cc

pub fit_finished : (host : ℕ) (s : Seat) (o : Outcome) → IsFitSeat host s → IsFitSeat host (finished o s)
fit_finished host s o h = fit_idle host s (finished o s) refl refl refl (λ w is. not_blocked s.doing o w is) h

-- numbers that its moves and its Sends do not rest on
pub move_note : (a b : ProcNote) (w : Waiting) → b.moving ≡ a.moving → b.offset ≡ a.offset → may_go_on b w ≡ may_go_on a w
move_note a b (waitings.MoveTo partner dest src count) moving offset =
    λ i. may_go_on (record a { moving = moving i; offset = offset i }) (waitings.MoveTo partner dest src count)
move_note a b (waitings.MoveFrom partner dest src count) moving offset =
    λ i. may_go_on (record a { moving = moving i; offset = offset i }) (waitings.MoveFrom partner dest src count)
move_note a b (waitings.Send target m) moving offset = refl
move_note a b waitings.Receive moving offset = refl
move_note a b (waitings.ReceiveSegment start count) moving offset = refl
move_note a b (waitings.GetPid logical scope) moving offset = refl

pub record IsSameNote (a b : ProcNote) : Type 0 where
  pub moving : b.moving ≡ a.moving
  pub offset : b.offset ≡ a.offset
  pub done : b.done ≡ a.done
  pub sends : b.sends ≡ a.sends
  pub lookups : b.lookups ≡ a.lookups

pub fit_note : (host : ℕ) (s : Seat) (n : ProcNote) → IsSameNote s.note n → IsFitSeat host s → IsFitSeat host (record s { note = n })
fit_note host s n same h = record {
  own = h.own;
  waits = h.waits;
  moves = λ w is. move_note s.note n w same.moving same.offset ∙ h.moves w is;
  done = subst (λ d. d ≤ MOVE_BYTES) (sym same.done) h.done;
  part = h.part;
  few = h.few;
  away = h.away;
  begun = λ target m is. subst (λ d. 0 < d) (sym same.sends) (h.begun target m is);
  asked = λ logical scope is. subst (λ d. 0 < d) (sym same.lookups) (h.asked logical scope is);
}

-- a memory of the same size
pub fit_memory : (host : ℕ) (s : Seat) (memory : List ℕ) → length memory ≡ length s.memory → IsFitSeat host s →
    IsFitSeat host (record s { memory = memory })
fit_memory host s memory same h = record {
  own = h.own;
  waits = λ w is. ap (λ n. may_wait s.pid n w) same ∙ h.waits w is;
  moves = h.moves;
  done = h.done;
  part = h.part;
  few = h.few;
  away = h.away;
  begun = h.begun;
  asked = h.asked;
}
