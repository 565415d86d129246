use Rattle.std.proofs.Common.{subst}
use Rattle.vk_pages.specs.Any.{IsAfter}
use Rattle.vk_pages.specs.declared.any.AnyProgram.{AnyProgram}
use Rattle.vk_pages.proofs.any.AnyProgramProgram.next.Goals as goal

pub returns-in-Client-clause-after : goal.returns-in-Client-clause-after
returns-in-Client-clause-after c = λ answers is.
    c.next-in-Client.ensures.after answers (subst (λ (p : AnyProgram). IsAfter p answers) c.in-Client.is is)
