use Rattle.std.proofs.Common.{◌≡◌, ◌-◌, sym, ap, subst, ◌∙◌}
use Rattle.vk_base.specs.declared.step.Step.TheVariants as steps
use Rattle.vk_brief.specs.Brief.{step_with}
use Rattle.v_machine.specs.Apply.{Applied, most}
use Rattle.v_machine.specs.Kept.{tables_in}
use Rattle.v_machine.specs.Rules.{quiet}
use Rattle.v_machine.proofs.Applying.{applied, kept_after, counts_quiet, counts_none}
use Rattle.v_machine.proofs.Stores.{is_error}
use Rattle.v_machine.proofs.machine.Machine.advance.Goals as goal

pub invariant_of-self : goal.invariant_of-self
invariant_of-self c =
    kept_after c.self.inside.store c.call.new.store c.self.inside.noted c.call.new.noted (steps.Call c.in-Call.pid c.new-view.result)
    c.self.invariant.0 c.self.invariant.1 c.call.result c.call.ensures.answers c.call.ensures.counts

pub invariant_of-self-in-Collect : goal.invariant_of-self-in-Collect
invariant_of-self-in-Collect c =
    kept_after c.self.inside.store c.collect.new.store c.self.inside.noted c.self.inside.noted (steps.Collect c.in-Collect.pid)
    c.self.invariant.0 c.self.invariant.1 c.collect.result (c.collect.ensures (most - c.self.inside.noted))
    (counts_none c.self.inside.noted c.collect.result)

pub invariant_of-self-in_default : goal.invariant_of-self-in_default
invariant_of-self-in_default c =
    kept_after c.self.inside.store c.quiet_step.new.store c.self.inside.noted c.quiet_step.new.noted c.args.step.now c.self.invariant.0
    c.self.invariant.1 (quiet c.quiet_step.result) c.quiet_step.ensures.answers
    (counts_quiet _ c.self.inside.noted c.quiet_step.new.noted c.quiet_step.result c.quiet_step.ensures.counts)

pub invariant_of-self-in_err-quiet_step-in_default : goal.invariant_of-self-in_err-quiet_step-in_default
invariant_of-self-in_err-quiet_step-in_default c =
    kept_after c.self.inside.store c.quiet_step.new.store c.self.inside.noted c.quiet_step.new.noted c.args.step.now c.self.invariant.0
    c.self.invariant.1 (quiet c.quiet_step.result) c.quiet_step.ensures.answers
    (counts_quiet _ c.self.inside.noted c.quiet_step.new.noted c.quiet_step.result c.quiet_step.ensures.counts)

pub returns-in-Call : goal.returns-in-Call
returns-in-Call c =
    let new = tables_in c.call.new.store c.call.new.noted in
    let step = steps.Call c.in-Call.pid c.new-view.result in
    let done = applied c.self.inside.store c.call.new.store c.self.inside.noted c.call.new.noted step c.self.invariant.0 c.self.invariant.1
    c.call.result c.call.ensures.answers c.call.ensures.counts in
    let is = c.parts.ensures.step ∙ ap (step_with c.parts.result.1.now) c.in-Call.is ∙ ap (steps.Call c.in-Call.pid) (sym c.new-view.ensures) in
    subst (λ s. Applied s c.args.self.now new c.call.result) (sym is)
    (subst (λ old. Applied step old new c.call.result) c.self.view_is done)

pub returns-in-Collect : goal.returns-in-Collect
returns-in-Collect c =
    let new = tables_in c.collect.new.store c.self.inside.noted in
    let step = steps.Collect c.in-Collect.pid in
    let done = applied c.self.inside.store c.collect.new.store c.self.inside.noted c.self.inside.noted step c.self.invariant.0
    c.self.invariant.1 c.collect.result (c.collect.ensures (most - c.self.inside.noted))
    (counts_none c.self.inside.noted c.collect.result) in
    let is = c.parts.ensures.step ∙ ap (step_with c.parts.result.1.now) c.in-Collect.is in
    subst (λ s. Applied s c.args.self.now new c.collect.result) (sym is)
    (subst (λ old. Applied step old new c.collect.result) c.self.view_is done)

pub returns-in_err-quiet_step-in_default : goal.returns-in_err-quiet_step-in_default
returns-in_err-quiet_step-in_default c =
    let new = tables_in c.quiet_step.new.store c.quiet_step.new.noted in
    let done = applied c.self.inside.store c.quiet_step.new.store c.self.inside.noted c.quiet_step.new.noted c.args.step.now
    c.self.invariant.0 c.self.invariant.1 (quiet c.quiet_step.result) c.quiet_step.ensures.answers
    (counts_quiet _ c.self.inside.noted c.quiet_step.new.noted c.quiet_step.result c.quiet_step.ensures.counts) in
    let result : c.from_residual.result ≡ quiet c.quiet_step.result = is_error c.from_residual.result _ c.from_residual.ensures.1
    ∙ sym (ap quiet c.in_err-quiet_step-in_default.was) in
    subst (Applied c.args.step.now c.args.self.now new) (sym result)
    (subst (λ old. Applied c.args.step.now old new (quiet c.quiet_step.result)) c.self.view_is done)

pub returns-in_ok-quiet_step-in_default : goal.returns-in_ok-quiet_step-in_default
returns-in_ok-quiet_step-in_default c =
    let new = tables_in c.quiet_step.new.store c.quiet_step.new.noted in
    let done = applied c.self.inside.store c.quiet_step.new.store c.self.inside.noted c.quiet_step.new.noted c.args.step.now
    c.self.invariant.0 c.self.invariant.1 (quiet c.quiet_step.result) c.quiet_step.ensures.answers
    (counts_quiet _ c.self.inside.noted c.quiet_step.new.noted c.quiet_step.result c.quiet_step.ensures.counts) in
    subst (λ r. Applied c.args.step.now c.args.self.now new r) (ap quiet c.in_ok-quiet_step-in_default.was)
    (subst (λ old. Applied c.args.step.now old new (quiet c.quiet_step.result)) c.self.view_is done)
