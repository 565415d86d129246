use Rattle.std.proofs.lemmas.Result.{err_from_is_err_and}
use Rattle.vk_top.proofs.Told.{replay_refused}
use Rattle.vk_top.proofs.top.replay.Goals as goal

pub returns-in_err-written-clause-refused : goal.returns-in_err-written-clause-refused
returns-in_err-written-clause-refused c =
    let left = err_from_is_err_and c.from_residual.result c.from_residual.ensures.1 in
    rw (left.1, left.2) (replay_refused c.args.form c.args.text.now _ c.in_err-written.ensures.refused)
