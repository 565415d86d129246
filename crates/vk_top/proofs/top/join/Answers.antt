use Rattle.std.proofs.Common.{refl}
use Rattle.std.proofs.lemmas.Result.{err_from_is_err_and}
use Rattle.vk_top.proofs.Joins.{join_work}
use Rattle.vk_top.proofs.top.join.Goals as goal

pub returns-in_err-schedule-clause-refused : goal.returns-in_err-schedule-clause-refused
returns-in_err-schedule-clause-refused c =
    let left = err_from_is_err_and c.from_residual.result c.from_residual.ensures.1 in
    rw (left.1, left.2) c.in_err-schedule.ensures.refused

pub returns-clause-work : goal.returns-clause-work
returns-clause-work c = join_work _ _ c.in_ok-schedule.ensures.output refl
