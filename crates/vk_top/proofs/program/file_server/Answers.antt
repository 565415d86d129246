use Rattle.std.proofs.Common.{ℕ, List, ap, ◌∙◌}
use Rattle.vk_files.specs.Disks.{DiskState}
use Rattle.vk_files.specs.MemoryDisks.{sure_state}
use Rattle.vk_files.specs.Tasks.{file_task}
use Rattle.vk_top.proofs.program.file_server.Goals as goal

pub returns-in-Ok-clause-task : goal.returns-in-Ok-clause-task
returns-in-Ok-clause-task c =
    ap (λ (d : DiskState). file_task d c.in-Ok.server.requests) c.in-Ok.ensures.opened.first
    ∙ ap (file_task (sure_state c.in_ok-disk.disk)) c.in-Ok.ensures.opened.requests
    ∙ ap (λ (blocks : List (List ℕ)). file_task (sure_state blocks) c.args.requests) c.in_ok-disk.ensures.blocks
