-- What answers the events of a station have.
use Rattle.std.proofs.Common.{◌≡◌, ℕ, ◌+◌, true, List, Option, Some, None, is_some, refl, sym, subst, inl, inr}
use Rattle.std.proofs.lemmas.Bool.{and_parts}
use Rattle.vk_types.specs.Types.{Call, Observation, Pid, StationEvent}
use Rattle.vk_base.specs.declared.answer.Answer.TheVariants as answers
use Rattle.vk_base.specs.declared.answer.Refusal.TheVariants as refusals
use Rattle.vk_base.specs.declared.event.EventAnswer.TheVariants as given
use Rattle.vk_base.specs.declared.event.StationEvent.TheVariants as events
use Rattle.vk_base.specs.declared.step.Step.TheVariants as steps
use Rattle.vk_base.specs.declared.kernel.State.TheVariants as states
use Rattle.vk_base.specs.Calls.{Effect, answered}
use Rattle.vk_base.specs.Kernel.{◌>>=◌, Kernel, with_state}
use Rattle.vk_base.specs.Settings.{Settings}
use Rattle.vk_base.specs.Steps.{Collecting, collecting, effect, is_allowed}
use Rattle.vk_rules.specs.CallOutcomes.{effect_answer, seen_answer}
use Rattle.vk_rules.specs.Entries.{Called, Collected, Entry, Input, Ticked}
use Rattle.vk_rules.specs.Readings.{reading}
use Rattle.vk_rules.specs.Right.{answer_to, entry_of}
unfoldable use Rattle.vk_rules.specs.Right.{right_entry}
use Rattle.vk_port.specs.Turns.{HoldsAnswer, IsCallAnswer}
use Rattle.vk_port.specs.Stations.{StationHistory, entries_at, entry_at, is_process_of, is_ready}

pub answer_is : (c : Settings) (host : ℕ) (es : List Entry) (i : Input) → (entry_of c host es i).answer ≡ answer_to c host (reading c host es) i
unfolding right_entry
answer_is c host es i = refl

-- A call is begun, or answered at once.
by_seen : (o : Option Observation) → IsCallAnswer (seen_answer o)
by_seen None = inl refl
by_seen (Some o) = inr (o.answer, refl)

call_given : (o : Option Effect) → IsCallAnswer (effect_answer o)
call_given None = inr (answers.Refused refusals.NotYet, refl)
call_given (Some e) = by_seen e.seen

pub call_answer : (o : StationHistory) (history : List (ℕ × StationEvent)) (pid : Pid) (call : Call) →
    IsCallAnswer (entry_at o history (events.Call pid call)).answer
call_answer o history pid call =
    subst IsCallAnswer (sym (answer_is o.config o.host (entries_at o history) (Called pid call)))
    (call_given (effect (reading o.config o.host (entries_at o history)).view (steps.Call pid call)))

-- What is collected once a process is done.
collect_given : (k : Kernel) (pid : Pid) (o : Option Collecting) →
    is_some (o >>= λ d. Some (answered (with_state k pid d.process states.Ready) pid d.call d.answer)) ≡ true →
    HoldsAnswer (effect_answer (o >>= λ d. Some (answered (with_state k pid d.process states.Ready) pid d.call d.answer)))
collect_given k pid None none = absurd (cc none)
collect_given k pid (Some d) some = (d.answer, refl)

pub collect_answer : (o : StationHistory) (history : List (ℕ × StationEvent)) (pid : Pid) → is_ready o history (events.Collect pid) ≡ true →
    HoldsAnswer (entry_at o history (events.Collect pid)).answer
collect_answer o history pid ready =
    let k : Kernel = (reading o.config o.host (entries_at o history)).view in
    subst HoldsAnswer (sym (answer_is o.config o.host (entries_at o history) (Collected pid)))
    (collect_given k pid (collecting k pid) (and_parts (is_process_of o pid) (is_allowed k (steps.Collect pid)) ready).1)

-- A tick is answered with the new tick.
pub tick_answer : (o : StationHistory) (history : List (ℕ × StationEvent)) → (now : ℕ) × ((entry_at o history events.Tick).answer ≡ given.Ticked now)
tick_answer o history =
    ((reading o.config o.host (entries_at o history)).now + 1, answer_is o.config o.host (entries_at o history) Ticked)
