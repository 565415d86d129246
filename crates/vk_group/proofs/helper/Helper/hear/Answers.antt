use Rattle.std.proofs.Common.{Bor, Option, option_copied, ap}
use Rattle.vk_types.specs.Types.{Answer}
use Rattle.vk_program.specs.Tasks.{told_by}
use Rattle.vk_group.proofs.Following.{helper_after}
use Rattle.vk_group.proofs.helper.Helper.hear.Goals as goal

pub returns-in-Some-clause-after : goal.returns-in-Some-clause-after
returns-in-Some-clause-after c = λ given is.
    helper_after _ _ c.in-Some.answer.now (told_by (option_copied c.args.last)) given
    (ap (λ (o : Option (Bor Answer)). told_by (option_copied o)) c.in-Some.is) c.helped-self.ensures is
