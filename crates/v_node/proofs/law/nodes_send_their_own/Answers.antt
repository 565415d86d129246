use Rattle.v_node.proofs.Whole.{nodes_send_their_own}
use Rattle.v_node.proofs.law.nodes_send_their_own.Goals as goal

pub returns : goal.returns
returns c =
    nodes_send_their_own c.frames_unseal_again.ensures c.frames_are_spelled_once.ensures c.packets_are_spelled_once.ensures.read
    c.frames_go_to_others.ensures
