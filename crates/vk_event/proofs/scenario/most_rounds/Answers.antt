use Rattle.std.proofs.Common.{arith}
use Rattle.vk_event.proofs.Stations.{some_station}
use Rattle.vk_event.proofs.scenario.most_rounds.Goals as goal

pub nonzero_div-result : goal.nonzero_div-result
nonzero_div-result c = omega (arith, c.station_count.ensures.count, some_station c.args.config.now.specs c.requires)
