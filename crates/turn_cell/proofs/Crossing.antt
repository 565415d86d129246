-- A history that only clauses read may go to another thread.
use denote.RattleType.{RattleType}
use denote.Param.Send.{IsSend, sendable}
use Rattle.std.proofs.Crossing.{crosses}
use Rattle.turn_cell.specs.contracts.past.Past as past_row

pub past_send : (E : RattleType) → IsSend (past_row.the_row E)
past_send E = search (sendable, crosses) depth 40 fits 20000
