use Rattle.std.proofs.Common.{Bor, Option, option_copied, ap}
use Rattle.vk_types.specs.Types.{Answer}
use Rattle.vk_program.specs.Tasks.{told_by}
use Rattle.vk_values.proofs.Answering.{after_last}
use Rattle.vk_values.proofs.server.KeyServer.hear.Goals as goal

pub returns-in-Some-clause-after : goal.returns-in-Some-clause-after
returns-in-Some-clause-after c = λ given is.
    after_last _ _ _ _ _ _ _ _ c.in-Some.answer.now (told_by (option_copied c.args.last)) given c.answer.ensures.requests
    (ap (λ (o : Option (Bor Answer)). told_by (option_copied o)) c.in-Some.is) c.answer.ensures.state is
