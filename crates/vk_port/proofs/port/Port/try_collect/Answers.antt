use Rattle.vk_port.proofs.Turning.{made_collect}
use Rattle.vk_port.proofs.port.Port.try_collect.Goals as goal

pub collected_into-requires : goal.collected_into-requires
collected_into-requires g c =
    let made = c.in-Ok-Done.ensures.done c.in-Ok-Done.field-0-is in (
      made.0,
      made.1,
      made_collect c.self.inside.access c.enter_when_ready.new.self c.args.event.now made.0 c.requires.collect made.2,
    )
