use Rattle.std.proofs.Common.{◌≤◌, ◌∙◌, ap, length, subst, sym}
use Rattle.vk_procs.specs.Awaited.{due_places}
use Rattle.vk_procs.specs.Kept.{AreFollowed}
use Rattle.vk_procs.proofs.Once.{kept_heard}
use Rattle.vk_procs.proofs.procs.Procs.due.Goals as goal

pub due-requires-clause-few : goal.due-requires-clause-few
due-requires-clause-few c = subst (λ xs. length xs ≤ 32) (sym c.deref.ensures.value) c.self.invariant.few

pub due-requires-clause-followed : goal.due-requires-clause-followed
due-requires-clause-followed c = subst (AreFollowed c.self.inside.deadlines) (sym c.deref.ensures.value) c.self.invariant.followed

pub invariant_of-self : goal.invariant_of-self
invariant_of-self c =
    kept_heard _ _ _ _ c.self.invariant (subst (AreFollowed c.due.new.self) c.deref.ensures.value c.due.ensures.followed)

pub returns-clause-due : goal.returns-clause-due
returns-clause-due c = c.due.ensures.due ∙ ap (due_places c.args.now) (c.deref.ensures.value ∙ c.self.view_is)
