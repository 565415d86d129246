use Rattle.std.proofs.lemmas.Result.{err_from_is_err_and}
use Rattle.vk_top.proofs.Nodes.{node_refused}
use Rattle.vk_top.proofs.Runs.{some_scenario}
use Rattle.vk_top.proofs.node.read_for.Goals as goal

pub returns-then-has_all_ports-clause-some : goal.returns-then-has_all_ports-clause-some
returns-then-has_all_ports-clause-some c = some_scenario c.args.text.now c.in_ok-scenario.scenario c.in_ok-scenario.ensures.scenario

pub returns-in_err-scenario-clause-refused : goal.returns-in_err-scenario-clause-refused
returns-in_err-scenario-clause-refused c =
    let left = err_from_is_err_and c.from_residual.result c.from_residual.ensures.1 in
    rw (left.1, left.2) (node_refused c.args.host c.args.text.now _ c.in_err-scenario.ensures.refused)
