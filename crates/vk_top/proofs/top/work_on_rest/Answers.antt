use Rattle.vk_top.proofs.PieceInputs.{unread_rest}
use Rattle.vk_top.proofs.top.work_on_rest.Goals as goal

pub returns-in-Err-clause-refused : goal.returns-in-Err-clause-refused
returns-in-Err-clause-refused g c = λ left first. unread_rest c.args.asked left _ _ _ _ _ first c.from.ensures c.in-Err.ensures.refused
