use Rattle.std.proofs.Common.{ap, sym, ◌∙◌}
use Rattle.vk_top.specs.Programs.{program_call}
use Rattle.vk_top.proofs.program.TopProgram.new.Goals as goal

pub returns-in_ok-file_server-in-FileServer-clause-task : goal.returns-in_ok-file_server-in-FileServer-clause-task
returns-in_ok-file_server-in-FileServer-clause-task c =
    c.in_ok-file_server-in-FileServer.ensures.task ∙ sym (ap (program_call c.args.task.now.pid.host) c.in-FileServer.is)
