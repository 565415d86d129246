use Rattle.std.proofs.Common.{◌++◌, codes}
use Rattle.vk_why.specs.Reasons.{move_text, opened_text}
use Rattle.vk_why.proofs.Writing.{next_piece, two}
use Rattle.vk_why.proofs.reason.put_not_open.Goals as goal

pub returns : goal.returns
returns c =
    two _ _ _ _ (move_text c.args.name c.args.moving ++ codes " is not open: ") (opened_text c.args.opened)
    (next_piece _ _ _ (move_text c.args.name c.args.moving) (codes " is not open: ") c.in_ok-put_move.ensures c.in_ok-put.ensures.ok)
    c.put_opened.ensures
