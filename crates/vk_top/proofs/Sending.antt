-- Any program of a scenario may go to another thread, since all that it is made of may. One search through all of it is too long.
use denote.RattleType.{RattleType}
use denote.Param.Send.{IsSend, sendable}
use denote.Param.SendFields.{variants_send}
use Rattle.std.proofs.Crossing.{crosses}
use Rattle.std.specs.contracts.snapshot.Snapshot as Snapshot
use Rattle.vk_files.specs.contracts.ahead.ReadAhead as ahead_row
use Rattle.vk_files.specs.contracts.entry.Entry as entry_row
use Rattle.vk_files.specs.contracts.loader.Loader as loader_row
use Rattle.vk_files.specs.contracts.memory.SureDisk as disk_row
use Rattle.vk_files.specs.contracts.memory.SureDiskDisk.TheImpl.{ghosts}
use Rattle.vk_files.specs.contracts.server.FileServer as files_row
use Rattle.vk_files.specs.declared.disk.Disk.{Ghosts}
use Rattle.vk_group.specs.contracts.coordinator.Coordinator as coordinator_row
use Rattle.vk_group.specs.contracts.helper.Helper as helper_row
use Rattle.vk_pages.specs.contracts.any.AnyProgram as any_row
use Rattle.vk_pipe.proofs.Crossing.{server_send}
use Rattle.vk_top.specs.contracts.program.TopProgram as program_row

-- a snapshot holds nothing
snapshot_send : (Y : RattleType) → IsSend (Snapshot.the_row Y)
snapshot_send Y = record { owned = λ d vs. ((λ vss. (tt, ((λ uss. (tt, tt)), tt))), tt); leaving = λ k f vs. tt }

disk_send : IsSend disk_row.the_row
disk_send = search (sendable, crosses) depth 40 fits 20000

entry_send : IsSend entry_row.the_row
entry_send = search (sendable, crosses) depth 40 fits 20000

ahead_send : (D : RattleType) (g : Ghosts D.Denot) → IsSend D → IsSend (ahead_row.the_row D g)
ahead_send D g s = search (sendable, crosses) depth 40 fits 20000

-- (no search finds the ghosts of an impl)
files_send : IsSend (files_row.the_row disk_row.the_row ghosts)
files_send = search (sendable, crosses, snapshot_send, disk_send, entry_send, ahead_send disk_row.the_row ghosts) depth 40 fits 20000

loader_send : IsSend loader_row.the_row
loader_send = search (sendable, crosses) depth 40 fits 20000

coordinator_send : IsSend coordinator_row.the_row
coordinator_send = search (sendable, crosses) depth 60 fits 40000

helper_send : IsSend helper_row.the_row
helper_send = search (sendable, crosses) depth 40 fits 20000

any_send : IsSend any_row.the_row
any_send = search (sendable, crosses) depth 60 fits 40000

pub program_send : IsSend program_row.the_row
program_send =
    variants_send program_row.enum
    ((any_send, tt), ((files_send, tt), ((loader_send, tt), ((server_send, tt), ((coordinator_send, tt), ((helper_send, tt), tt))))))
