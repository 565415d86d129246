use Rattle.vk_event.proofs.NodeBack.{nodes_back}
use Rattle.vk_event.proofs.NodeLawful.{only_lawful}
use Rattle.vk_event.proofs.node_law.nodes_are_read_again.Goals as goal

pub returns-clause-back : goal.returns-clause-back
returns-clause-back c = nodes_back

pub returns-clause-lawful : goal.returns-clause-lawful
returns-clause-lawful c = only_lawful
