use Rattle.std.proofs.Common.{◌++◌, codes}
use Rattle.vk_text.specs.Spelling.{pid_text}
use Rattle.vk_why.specs.Reasons.{send_text, standing_text}
use Rattle.vk_why.proofs.Writing.{next_piece, two}
use Rattle.vk_why.proofs.reason.put_not_replied.Goals as goal

pub returns : goal.returns
returns c =
    two _ _ _ _ (send_text c.args.name ++ codes " has no reply: " ++ standing_text c.args.standing) (pid_text c.args.at)
    (next_piece _ _ _ (send_text c.args.name ++ codes " has no reply: ") (standing_text c.args.standing)
    (next_piece _ _ _ (send_text c.args.name) (codes " has no reply: ") c.in_ok-put_send.ensures c.in_ok-put.ensures.ok)
    c.in_ok-put_standing.ensures)
    c.put_pid.ensures.ok
