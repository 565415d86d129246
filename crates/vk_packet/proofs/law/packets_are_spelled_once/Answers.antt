use Rattle.vk_packet.proofs.Stands.{nothing_else_is_read}
use Rattle.vk_packet.proofs.Again.{written_is_read}
use Rattle.vk_packet.proofs.law.packets_are_spelled_once.Goals as goal

pub returns-clause-read : goal.returns-clause-read
returns-clause-read c = nothing_else_is_read

pub returns-clause-written : goal.returns-clause-written
returns-clause-written c = written_is_read
