use Rattle.std.proofs.Common.{subst, sym}
use Rattle.vk_join.specs.Logs.{AreLogs}
use Rattle.vk_top.proofs.Joins.{are_logs}
use Rattle.vk_top.proofs.join.joined.Goals as goal

pub join_stations-requires : goal.join_stations-requires
join_stations-requires c = subst (AreLogs c.args.nodes.config) (sym c.in_ok-logs.ensures) (are_logs c.args.nodes c.requires)
