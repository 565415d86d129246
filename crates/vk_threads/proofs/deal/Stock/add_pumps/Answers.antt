use Rattle.std.proofs.Common.{ap, ◌∙◌}
use Rattle.vk_threads.proofs.Dealing.{pump_job, stock_more}
use Rattle.vk_threads.proofs.deal.Stock.add_pumps.Goals as goal

pub loop-host-preserved : goal.loop-host-preserved
loop-host-preserved g c =
    let self = c.args.self.now in
    let here = c.loop-host.self in
    let new = c.port_at.new.self in
    let was = c.loop-host.invariant in
    let hosts = c.args.stations.now in
    let i = c.loop-host.host-index in
    let sites = ap (λ s. s.now) was.sites in
    let hub = ap (λ h. h.now) was.hub in
    record {
      sites = c.port_at.ensures.sites ∙ was.sites;
      hub = c.port_at.ensures.hub ∙ was.hub;
      jobs = λ ds are. pump_job g.G.Program.task self.sites.now here.sites.now self.hub.now here.hub.now ds c.loop-host.jobs.items c.push.new.self.items
          c.in_ok-port.port sites hub hosts i c.in_ok-new.field-0 c.loop-host-test.true c.in_ok-new.ensures c.in_ok-push.ensures.items
          c.in_ok-port.ensures.port (was.jobs ds are);
      left = λ rest stock. stock_more self.sites.now here.sites.now self.hub.now here.hub.now here.spares.items new.spares.items here.hub_seats.items
          new.hub_seats.items hosts rest i sites hub c.loop-host-test.true (was.left rest stock) c.port_at.ensures.left;
    }
