use Rattle.std.proofs.Common.{sym, subst, ◌∙◌}
use Rattle.v_machine.specs.Follows.{Follows}
use Rattle.v_machine.proofs.Following.{follows, follows_refused, given_back_from, refused_lean, stays_lean}
use Rattle.v_machine.proofs.lean.LeanMachine.advance.Goals as goal

pub invariant_of-self : goal.invariant_of-self
invariant_of-self c =
    let back = c.give_back.ensures in
    stays_lean c.args.step.now c.self.inside.machine c.self.invariant c.advance-seen.new.self c.give_back.new.self c.advance-seen.result
    (sym c.is_ok.ensures.value ∙ c.if-is_ok.true) c.advance-seen.ensures
    (given_back_from c.args.step.now c.self.inside.machine c.advance-seen.new.self c.give_back.new.self c.opened_before-before.result
    c.opened_before-before.ensures back.alike back.gives back.noted)

pub invariant_of-self-else-is_ok : goal.invariant_of-self-else-is_ok
invariant_of-self-else-is_ok c =
    refused_lean c.args.step.now c.self.inside.machine c.self.invariant c.advance-seen.new.self c.advance-seen.result
    (sym c.is_ok.ensures.value ∙ c.if-is_ok.false) c.advance-seen.ensures

pub returns-then-is_ok : goal.returns-then-is_ok
returns-then-is_ok c =
    let back = c.give_back.ensures in
    subst (λ old. Follows c.args.step.now old c.give_back.new.self c.advance-seen.result) c.self.view_is
    (follows c.args.step.now c.self.inside.machine c.self.invariant c.advance-seen.new.self c.give_back.new.self c.advance-seen.result
    (sym c.is_ok.ensures.value ∙ c.if-is_ok.true) c.advance-seen.ensures
    (given_back_from c.args.step.now c.self.inside.machine c.advance-seen.new.self c.give_back.new.self c.opened_before-before.result
    c.opened_before-before.ensures back.alike back.gives back.noted))

pub returns-else-is_ok : goal.returns-else-is_ok
returns-else-is_ok c =
    subst (λ old. Follows c.args.step.now old c.advance-seen.new.self c.advance-seen.result) c.self.view_is
    (follows_refused c.args.step.now c.self.inside.machine c.self.invariant c.advance-seen.new.self c.advance-seen.result
    (sym c.is_ok.ensures.value ∙ c.if-is_ok.false) c.advance-seen.ensures)
