use Rattle.std.proofs.lemmas.Result.{err_from_is_err_and}
use Rattle.vk_top.proofs.Joins.{unjoined_nodes, unread_nodes, unwritten_nodes}
use Rattle.vk_top.proofs.join.joined_text.Goals as goal

pub returns-in_err-nodes-clause-refused : goal.returns-in_err-nodes-clause-refused
returns-in_err-nodes-clause-refused c =
    let left = err_from_is_err_and c.from_residual.result c.from_residual.ensures.1 in
    rw (left.1, left.2) (unread_nodes c.args.text.now _ c.in_err-nodes.ensures.refused)

pub returns-in_err-schedule-clause-refused : goal.returns-in_err-schedule-clause-refused
returns-in_err-schedule-clause-refused c =
    let left = err_from_is_err_and c.from_residual-in_err-schedule.result c.from_residual-in_err-schedule.ensures.1 in
    rw (left.1, left.2)
    (unjoined_nodes c.args.text.now c.in_ok-nodes.nodes _ c.in_ok-nodes.ensures.nodes c.in_ok-nodes.ensures.lawful
    c.in_err-schedule.ensures.refused)

pub returns-in_err-output-clause-refused : goal.returns-in_err-output-clause-refused
returns-in_err-output-clause-refused c =
    let left = err_from_is_err_and c.from_residual-in_err-output.result c.from_residual-in_err-output.ensures.1 in
    rw (left.1, left.2) (unwritten_nodes c.args.text.now c.in_ok-nodes.nodes c.in_ok-nodes.ensures.nodes)
