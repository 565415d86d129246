use Rattle.std.proofs.Common.{◌∙◌, arith}
use Rattle.std.proofs.lemmas.Result.{err_from_is_err_and}
use Rattle.vk_edge.proofs.Gathering.{none_behind, since_more}
use Rattle.vk_edge.proofs.PieceTexts.{unread_since}
use Rattle.vk_edge.proofs.buffer.Buffer.skip_rest.Goals as goal

pub returns-in_err-count-clause-refused : goal.returns-in_err-count-clause-refused
returns-in_err-count-clause-refused g c =
    let more = c.loop-count.invariant.more in
    let p = err_from_is_err_and c.from_residual.result c.from_residual.ensures.1 in
    rw (p.1, p.2) (
    unread_since _ _ _ more.0 _ _ _ more.1.taken (c.clear.ensures.count ∙ more.1.count) c.in_err-count.ensures.refused)

pub loop-count-preserved : goal.loop-count-preserved
loop-count-preserved g c =
    let filled = c.in_ok-count.ensures.read in
    record {
      more = since_more _ _ _ filled.more.bytes _ _ _ _ c.loop-count.invariant.more c.clear.ensures.count filled.more.read;
      some = omega (arith, c.loop-count.invariant.some, c.clear.ensures.count, c.in_ok-count.ensures.grows);
      kept = c.in_ok-count.ensures.kept ∙ c.loop-count.invariant.kept;
      at_end = filled.at_end;
      none = λ over. none_behind _ _ _ _ _ filled c.clear.ensures.bytes over;
    }
