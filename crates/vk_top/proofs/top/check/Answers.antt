use Rattle.std.proofs.lemmas.Result.{IfErr-weaker, IfOk-weaker, err_from_is_err_and}
use Rattle.vk_top.proofs.Told.{check_refused, check_work, told_by}
use Rattle.vk_top.proofs.top.check.Goals as goal

pub returns-in_err-verdict-clause-refused : goal.returns-in_err-verdict-clause-refused
returns-in_err-verdict-clause-refused c =
    let left = err_from_is_err_and c.from_residual.result c.from_residual.ensures.1 in
    rw (left.1, left.2) (check_refused c.args.text.now _ c.in_err-verdict.ensures.refused)

pub returns-clause-refused : goal.returns-clause-refused
returns-clause-refused c =
    let is = c.in_ok-verdict.ensures.verdict in
    IfErr-weaker c.told.result _ _ (λ s why. told_by c.args.text.now _ _ s is.spells is.verdict why) c.told.ensures.refused

pub returns-clause-work : goal.returns-clause-work
returns-clause-work c =
    let is = c.in_ok-verdict.ensures.verdict in
    IfOk-weaker c.told.result _ _ (λ w told. check_work c.args.text.now w _ _ is.spells is.verdict told) c.told.ensures.work
