-- A pipe server may go to another thread, since all that it is made of may. One search through all of it is too long.
use denote.RattleType.{RattleType}
use denote.Param.Send.{IsSend, sendable}
use Rattle.std.proofs.Crossing.{crosses}
use Rattle.circular_buffer.proofs.cells.Cells.TheSendSync.{the_send as cells_send}
use Rattle.circular_buffer.proofs.cells.Deed.TheSendSync.{the_send as deed_send}
use Rattle.vk_base.specs.contracts.data.Data as data_row
use Rattle.vk_pipe.specs.contracts.bytes.PipeBytes as bytes_row
use Rattle.vk_pipe.specs.contracts.queue.Queue as queue_row
use Rattle.vk_pipe.specs.contracts.server.PipeServer as server_row
use Rattle.vk_pipe.specs.contracts.waiting.Write as write_row

data_send : IsSend data_row.the_row
data_send = search (sendable, crosses) depth 40 fits 20000

write_send : IsSend write_row.the_row
write_send = search (sendable, crosses, data_send) depth 40 fits 20000

bytes_send : IsSend bytes_row.the_row
bytes_send = search (sendable, crosses, cells_send, deed_send) depth 40 fits 20000

queue_send : (T : RattleType) → IsSend T → IsSend (queue_row.the_row T)
queue_send T s = search (sendable, crosses, cells_send, deed_send) depth 40 fits 20000

pub server_send : IsSend server_row.the_row
server_send = search (sendable, crosses, bytes_send, write_send, queue_send) depth 40 fits 20000
