use Rattle.vk_wire.proofs.Fronts.{numbers, pids, messages}
use Rattle.vk_wire.proofs.law.fields_are_spelled_once.Goals as goal

-- src/law.rt:7:1
pub returns-clause-numbers : goal.returns-clause-numbers
returns-clause-numbers c = numbers

-- src/law.rt:7:1
pub returns-clause-pids : goal.returns-clause-pids
returns-clause-pids c = pids

-- src/law.rt:7:1
pub returns-clause-messages : goal.returns-clause-messages
returns-clause-messages c = messages
