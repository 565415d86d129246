use Rattle.std.proofs.Common.{[]}
use Rattle.vk_port.proofs.Turning.{made_call}
use Rattle.vk_port.proofs.port.Port.call_into.Goals as goal

pub outcome_into-requires : goal.outcome_into-requires
outcome_into-requires g c =
    let made = c.in-Ok.ensures.ok in
    (made.0, made.1, made_call c.self.inside.access c.enter.new.self [] c.args.pid c.args.call made.0 made.2)
