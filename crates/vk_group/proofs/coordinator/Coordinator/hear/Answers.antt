use Rattle.std.proofs.Common.{Bor, Option, option_copied, ap, refl}
use Rattle.vk_types.specs.Types.{Answer}
use Rattle.vk_program.specs.Tasks.{told_by}
use Rattle.vk_group.proofs.Following.{after_last}
use Rattle.vk_group.proofs.coordinator.Coordinator.hear.Goals as goal

pub returns-in-Some-clause-after : goal.returns-in-Some-clause-after
returns-in-Some-clause-after c = λ given is.
    after_last _ _ _ _ c.in-Some.answer.now (told_by (option_copied c.args.last)) given refl
    (ap (λ (o : Option (Bor Answer)). told_by (option_copied o)) c.in-Some.is) c.answer.ensures.pairs c.answer.ensures.state is
