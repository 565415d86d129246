use Rattle.std.proofs.Common.{◌∙◌}
use Rattle.vk_port.proofs.station.Station.tick.Goals as goal

pub returns : goal.returns
returns c = rw (← c.self.view_is) (c.now.ensures ∙ c.self.invariant.stands.now)
