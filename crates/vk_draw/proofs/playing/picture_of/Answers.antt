use Rattle.std.proofs.Common.{List, length, ap, arith}
use Rattle.std.proofs.lemmas.Result.{err_from_is_err_and}
use Rattle.vk_picture.specs.declared.picture.Column.{Column}
use Rattle.vk_draw.proofs.Answered.{few_columns}
use Rattle.vk_draw.proofs.playing.picture_of.Goals as goal

pub returns-in_err-rows-clause-refused : goal.returns-in_err-rows-clause-refused
returns-in_err-rows-clause-refused c =
    let left = err_from_is_err_and c.from_residual-in_err-rows.result c.from_residual-in_err-rows.ensures.1 in
    rw (left.1, left.2) c.in_err-rows.ensures.refused

pub returns-clause-columns : goal.returns-clause-columns
returns-clause-columns c =
    let few = few_columns 0 0 c.specs.result.now in
    let same = ap (λ (cs : List Column). length cs) c.in_ok-columns.ensures in
    let all = c.specs.ensures.all in
    omega (arith, few, same, all)
