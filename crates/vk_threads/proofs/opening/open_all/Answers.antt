use Rattle.std.proofs.Common.{drop, get_or, ◌+◌}
use Rattle.vk_threads.proofs.Dealing.{drop_whole, dropped_on}
use Rattle.vk_threads.proofs.Opened.{opened_all, opened_more}
use Rattle.vk_threads.proofs.opening.open_all.Goals as goal

pub loop-host-preserved : goal.loop-host-preserved
loop-host-preserved c =
    let stations = c.args.stations.now in
    let i = c.loop-host.host-index in
    opened_more c.args.config.now c.args.hosts.now stations (drop i stations) (drop (i + 1) stations) c.loop-host.sites.items c.push.new.self.items
    c.loop-host.spares.items c.open_one.new.spares.items (get_or stations i 0) c.count_of.result c.in_ok-cell.cell c.loop-host.invariant
    (dropped_on stations i 0 c.loop-host-test.true) c.count_of.ensures c.in_ok-cell.ensures c.in_ok-push.ensures.items

pub returns : goal.returns
returns c =
    let stations = c.args.stations.now in
    opened_all c.args.config.now c.args.hosts.now stations (drop c.loop-host.host-index stations) c.loop-host.sites.items c.loop-host.spares.items
    c.loop-host.invariant (drop_whole stations c.loop-host.host-index c.loop-host-test.false)
