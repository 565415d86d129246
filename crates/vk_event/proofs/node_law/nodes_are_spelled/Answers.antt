use Rattle.vk_event.proofs.NodeSpelled.{nodes_spelled}
use Rattle.vk_event.proofs.node_law.nodes_are_spelled.Goals as goal

pub returns : goal.returns
returns c = nodes_spelled
