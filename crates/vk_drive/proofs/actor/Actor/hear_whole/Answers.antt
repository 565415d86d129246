use Rattle.std.proofs.Common.{[], ◌∷◌, ◌++◌, Some, false, refl, sym, ap, subst, ◌∙◌, inl, inr}
use Rattle.vk_base.specs.declared.event.EventAnswer.TheVariants as given
use Rattle.vk_drive.specs.declared.actor.Actor.{Actor}
use Rattle.vk_drive.specs.Driving.{IsActor, tells_too_early}
use Rattle.vk_drive.proofs.Acting.{hears_answer, hears_begun, hears_silent}
use Rattle.vk_drive.proofs.actor.Actor.hear_whole.Goals as goal

pub returns-in-Begun : goal.returns-in-Begun
returns-in-Begun c t heard is = hears_begun t heard c.args.self.now _ c.args.answer is c.requires.told c.in-Begun.is refl

pub returns-in-Answered : goal.returns-in-Answered
returns-in-Answered c t heard is =
    let answer = c.in-Answered.answer in
    let new : Actor = record c.args.self.now { told = Some answer; waits = false } in
    subst (λ x. IsActor new t (heard ++ x ∷ [])) (sym c.in-Answered.is)
    (hears_answer t heard c.args.self.now new answer is c.requires.told (ap tells_too_early (sym c.in-Answered.is) ∙ c.requires.late) refl)

pub returns-in-Ticked : goal.returns-in-Ticked
returns-in-Ticked c t heard is =
    elim c.in-Ticked.is [
      | inl n ↦ hears_silent t heard c.args.self.now c.args.answer (given.Ticked n.0) is n.1 refl refl
      | inr r ↦ elim r [
        | inl e ↦ hears_silent t heard c.args.self.now c.args.answer given.Taken is e refl refl
        | inr q ↦ elim q [
          | inl e ↦ hears_silent t heard c.args.self.now c.args.answer given.Old is e refl refl
          | inr e ↦ hears_silent t heard c.args.self.now c.args.answer given.Bad is e refl refl
        ]
      ]
    ]
