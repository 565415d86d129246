use Rattle.std.proofs.lemmas.Result.{IfErr-weaker, IfOk-weaker}
use Rattle.vk_top.proofs.Told.{check_work, told_by}
use Rattle.vk_top.proofs.begun.checked.Goals as goal

pub returns-in-Ok-clause-work : goal.returns-in-Ok-clause-work
returns-in-Ok-clause-work c = λ text all.
    let is = c.in-Ok.ensures text all in
    IfOk-weaker c.told.result _ _ (λ w told. check_work text w _ _ is.spells is.verdict told) c.told.ensures.work

pub returns-in-Ok-clause-refused : goal.returns-in-Ok-clause-refused
returns-in-Ok-clause-refused c = λ text all some.
    let is = c.in-Ok.ensures text all in
    IfErr-weaker c.told.result _ _ (λ s why. told_by text _ _ s is.spells is.verdict why) c.told.ensures.refused
