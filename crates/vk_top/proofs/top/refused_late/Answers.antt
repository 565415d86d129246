use Rattle.std.proofs.Common.{sym, ◌∙◌}
use Rattle.vk_top.proofs.PieceInputs.{refused_skipped, refused_unread}
use Rattle.vk_top.proofs.top.refused_late.Goals as goal

pub returns-in-Ok-clause-refused : goal.returns-in-Ok-clause-refused
returns-in-Ok-clause-refused g c = λ a left why.
    refused_skipped a left _ _ _ why _ _ (sym c.is_last.ensures ∙ c.if-is_last.false) c.in-Ok.ensures.read

pub returns-in-Err-clause-refused : goal.returns-in-Err-clause-refused
returns-in-Err-clause-refused g c = λ a left why. refused_unread a left _ _ _ why _ _ _ c.from.ensures c.in-Err.ensures.refused
