use Rattle.v_node.proofs.Whole.{closed_nodes_are_runs}
use Rattle.v_node.proofs.law.closed_nodes_are_runs.Goals as goal

pub returns : goal.returns
returns c =
    closed_nodes_are_runs c.frames_unseal_again.ensures c.frames_are_spelled_once.ensures c.packets_are_spelled_once.ensures.read
    c.frames_go_to_others.ensures
