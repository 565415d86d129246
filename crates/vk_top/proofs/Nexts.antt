-- What a reader leaves when it gave its next event or step, or has none.
use Rattle.std.proofs.Common.{◌≡◌, ℕ, ◌+◌, ◌<◌, Bool, true, false, cond, [], ◌∷◌, length, Some, None, ap, arith}
use Rattle.vk_types.specs.Types.{Step}
use Rattle.vk_schedule.specs.declared.event.Event.{Event}
use Rattle.vk_schedule.specs.declared.schedule.Front.{Front}
use Rattle.vk_schedule.specs.Remaining as events
use Rattle.v_trace.specs.Remaining as steps
use Rattle.v_trace.specs.Remaining.{Remaining}

pub next_event : (old new : Front) (b : Bool) (e : Event) → b ≡ true → events.IsNextEvent old new (cond b (Some e) None) →
    old ≡ events.behind (e ∷ []) new
next_event old new true e is next = next
next_event old new false e is next = cc

pub fewer_events : (old new : Front) (e : Event) → old ≡ events.behind (e ∷ []) new →
    length new.schedule.events < length old.schedule.events
fewer_events old new e next = let count = ap (λ (f : Front). length f.schedule.events) next in omega (arith, count)

pub next_step : (old new : Remaining) (b : Bool) (s : Step) → b ≡ true → steps.IsNextStep old new (cond b (Some s) None) →
    old ≡ steps.behind (s ∷ []) new
next_step old new true s is next = next
next_step old new false s is next = cc

pub no_step : (old new : Remaining) (b : Bool) (s : Step) → b ≡ false → steps.IsNextStep old new (cond b (Some s) None) →
    (old.steps ≡ []) × (new ≡ old)
no_step old new true s is next = cc
no_step old new false s is next = next

pub fewer_steps : (old new : Remaining) (s : Step) → old ≡ steps.behind (s ∷ []) new → length new.steps < length old.steps
fewer_steps old new s next = let count = ap (λ (r : Remaining). length r.steps) next in omega (arith, count)

-- with one step more read, the others are left
pub step_counted : (old new : Remaining) (s : Step) (read whole : ℕ) → old ≡ steps.behind (s ∷ []) new
    → read + length old.steps ≡ whole → read + 1 + length new.steps ≡ whole
step_counted old new s read whole next counted =
    let count = ap (λ (r : Remaining). length r.steps) next in omega (arith, count, counted)
