use Rattle.std.proofs.Common.{ap, sym, ◌∙◌}
use Rattle.vk_top.specs.Programs.{call_by}
use Rattle.vk_top.proofs.program.TopProgramProgram.next.Goals as goal

pub returns-in-FileServer-clause-task : goal.returns-in-FileServer-clause-task
returns-in-FileServer-clause-task c = c.next-in-FileServer.ensures.task ∙ sym (ap call_by c.in-FileServer.is)
