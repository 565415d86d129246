-- No collect of a node that comes in time is answered that it is too early, whatever frames come.
use Rattle.std.proofs.Common.{◌≡◌, ℕ, true, Option, Some, None, is_some, List, [], ◌∷◌, refl, subst}
use Rattle.std.proofs.lemmas.Option.{same_Some, none-some}
use Rattle.vk_types.specs.Types.{Answer, Call, Pid, State}
use Rattle.vk_base.specs.declared.kernel.State.TheVariants as states
use Rattle.vk_base.specs.declared.step.Step.TheVariants as steps
use Rattle.vk_base.specs.Calls.{Effect}
use Rattle.vk_base.specs.Kernel.{Kernel, finished_call}
use Rattle.vk_base.specs.Settings.{Settings}
use Rattle.vk_base.specs.Steps.{collecting, effect}
use Rattle.vk_base.proofs.OptionLemmas.{bind_is}
use Rattle.v_laws.proofs.StepLemmas.{collecting_is}
use Rattle.vk_rules.specs.CallOutcomes.{effect_answer}
use Rattle.vk_rules.specs.Each.{Each}
use Rattle.vk_rules.specs.Entries.{Called, Collected, Delivered, Entry, Input, Ticked}
use Rattle.vk_rules.specs.Readings.{reading}
unfoldable use Rattle.vk_rules.specs.Right.{right_entry}
use Rattle.vk_rules.specs.Right.{entries_of, entry_of}
use Rattle.v_ended.specs.Answered.{ComeInTime, IsInTime}
use Rattle.v_run.specs.Ran.{HandsOut}
use Rattle.v_node.proofs.States.{AreProper, IsHandedOut, IsProperState, proper_view}

done_out : (q : Pid) (s : State) (x : Call × Answer) → finished_call s ≡ Some x → IsProperState q s → IsHandedOut x.1
done_out q states.Ready x is proper = absurd (none-some x is)
done_out q (states.Blocked c) x is proper = absurd (none-some x is)
done_out q (states.Done c a) x is proper = subst (λ (y : Call × Answer). IsHandedOut y.1) (same_Some (c, a) x is) proper

collect_out : (k : Kernel) (pid : Pid) (o : Option Effect) → effect k (steps.Collect pid) ≡ o → is_some o ≡ true → AreProper k
    → HandsOut (Collected pid) (effect_answer o)
collect_out k pid None is some proper = absurd (cc some)
collect_out k pid (Some e) is some proper =
    let d = bind_is (collecting k pid) _ e is in
    let it = collecting_is k pid d.0 d.1 in
    subst (λ (x : Effect). HandsOut (Collected pid) (effect_answer (Some x))) (same_Some _ e d.2)
    (done_out pid d.0.process.state (d.0.call, d.0.answer) it.done (proper.each pid d.0.process it.process))

entry_out : (c : Settings) (host : ℕ) (es : List Entry) (i : Input) → AreProper (reading c host es).view
    → IsInTime c host es (entry_of c host es i).input → HandsOut (entry_of c host es i).input (entry_of c host es i).answer
unfolding right_entry
entry_out c host es (Called pid call) proper time = tt
entry_out c host es (Collected pid) proper time =
    let k = (reading c host es).view in collect_out k pid (effect k (steps.Collect pid)) refl time proper
entry_out c host es Ticked proper time = tt
entry_out c host es (Delivered frame) proper time = tt

pub all_out : (c : Settings) (host : ℕ) (is : List Input) → ComeInTime c host (entries_of c host is)
    → Each (λ (e : Entry). HandsOut e.input e.answer) (entries_of c host is)
all_out c host [] time = tt
all_out c host (i ∷ is) time =
    (entry_out c host (entries_of c host is) i (proper_view c host is) time.0, all_out c host is time.1)
