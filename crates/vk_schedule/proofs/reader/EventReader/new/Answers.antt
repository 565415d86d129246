use Rattle.std.proofs.Common.{sym, subst}
use Rattle.vk_schedule.specs.declared.schedule.Front.{Front}
use Rattle.vk_schedule.specs.Lawful.{IsLawful}
use Rattle.vk_schedule.proofs.Lawfulness.{front_is_lawful}
use Rattle.vk_schedule.proofs.RemainingEvents.{all_left}
use Rattle.vk_schedule.proofs.Wanted.{refused_as}
use Rattle.vk_schedule.proofs.reader.EventReader.new.Goals as goal

pub returns-in-Ok-clause-front : goal.returns-in-Ok-clause-front
returns-in-Ok-clause-front c =
    all_left c.args.text.now c.in-Ok.head.config c.in-Ok.head.at c.in-Ok.head.line c.in-Ok.ensures.opening c.in-Ok.ensures.line

pub returns-in-Ok-clause-lawful : goal.returns-in-Ok-clause-lawful
returns-in-Ok-clause-lawful c =
    subst (λ (f : Front). IsLawful f.schedule)
    (sym (all_left c.args.text.now c.in-Ok.head.config c.in-Ok.head.at c.in-Ok.head.line c.in-Ok.ensures.opening c.in-Ok.ensures.line))
    (front_is_lawful c.args.text.now)

pub returns-in-Err-clause-refused : goal.returns-in-Err-clause-refused
returns-in-Err-clause-refused c =
    refused_as c.args.text.now c.in-Err.refusal c.refused.result c.refused.ensures c.in-Err.ensures.refused
