use Rattle.std.proofs.lemmas.Result.{err_from_is_err_and}
use Rattle.vk_edge.proofs.PieceTexts.{unread_since}
use Rattle.vk_edge.proofs.buffer.Buffer.read_line.Goals as goal

pub returns-in_err-count-clause-refused : goal.returns-in_err-count-clause-refused
returns-in_err-count-clause-refused g c =
    let more = c.loop-count.invariant.more in
    let p = err_from_is_err_and c.from_residual.result c.from_residual.ensures.1 in
    rw (p.1, p.2) (unread_since _ _ _ more.bytes _ _ _ more.read.taken more.read.count c.in_err-count.ensures.refused)
