use Rattle.std.proofs.Common.{take, arith}
use Rattle.std.proofs.lemmas.Result.{err_from_is_err_and}
use Rattle.vk_edge.proofs.PieceTexts.{unread_since}
use Rattle.vk_edge.proofs.pieces.TextPieces.first.Goals as goal

pub returns-in_err-cut-clause-refused : goal.returns-in_err-cut-clause-refused
returns-in_err-cut-clause-refused g c =
    let front = take c.in-Ok.count c.read.new.into in
    let p = err_from_is_err_and c.from_residual.result c.from_residual.ensures.1 in
    rw (p.1, p.2) (
    unread_since _ _ _ front 0 _ _ c.in-Ok.ensures.bytes.0 (omega (arith, c.in-Ok-new.ensures.count)) c.in_err-cut.ensures.refused)
