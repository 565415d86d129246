use Rattle.std.proofs.Common.{◌≡◌, ◌<◌, subst, length}
use Rattle.std.specs.Prelude.{IfOk, OnErr}
use Rattle.vk_schedule.specs.declared.schedule.Front.{Front}
use Rattle.vk_schedule.proofs.RemainingEvents.{lawful_result}
use Rattle.vk_schedule.proofs.schedule.read_front.Goals as goal

pub returns-in-Ok-clause-front : goal.returns-in-Ok-clause-front
returns-in-Ok-clause-front c =
    subst (λ (x : Front). IfOk c.collect.result (λ f. f ≡ x)) c.in-Ok.ensures.front c.collect.ensures.front

pub returns-in-Ok-clause-lawful : goal.returns-in-Ok-clause-lawful
returns-in-Ok-clause-lawful c = lawful_result c.collect.result c.in-Ok.reader c.collect.ensures.front c.in-Ok.ensures.lawful

pub returns-in-Ok-clause-memory : goal.returns-in-Ok-clause-memory
returns-in-Ok-clause-memory c =
    subst (λ (x : Front). OnErr c.collect.result (0 < length x.schedule.config.specs)) c.in-Ok.ensures.front c.collect.ensures.memory
