use Rattle.std.proofs.Common.{arith}
use Rattle.vk_cluster.proofs.Loops.{is_among}
use Rattle.vk_cluster.proofs.cluster.place_of.Goals as goal

pub unreachable-requires : goal.unreachable-requires
unreachable-requires c = is_among c.args.config.now.specs c.args.host c.loop-at.at c.requires (omega arith) c.loop-at.invariant
