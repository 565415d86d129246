use Rattle.std.proofs.Common.{ap, ◌∙◌}
use Rattle.vk_threads.proofs.Dealing.{ports_more, stock_more}
use Rattle.vk_threads.proofs.deal.Stock.clock_ports.Goals as goal

pub loop-host-preserved : goal.loop-host-preserved
loop-host-preserved c =
    let self = c.args.self.now in
    let here = c.loop-host.self in
    let new = c.port_at.new.self in
    let was = c.loop-host.invariant in
    let hosts = c.args.hosts.now in
    let i = c.loop-host.host-index in
    let sites = ap (λ s. s.now) was.sites in
    let hub = ap (λ h. h.now) was.hub in
    record {
      sites = c.port_at.ensures.sites ∙ was.sites;
      hub = c.port_at.ensures.hub ∙ was.hub;
      ports = ports_more self.sites.now here.sites.now self.hub.now here.hub.now hosts i c.loop-host.ports.items c.push.new.self.items
          c.in_ok-port_at.field-0 sites hub c.loop-host-test.true c.in_ok-push.ensures.items was.ports c.in_ok-port_at.ensures.port;
      left = λ rest stock. stock_more self.sites.now here.sites.now self.hub.now here.hub.now here.spares.items new.spares.items here.hub_seats.items
          new.hub_seats.items hosts rest i sites hub c.loop-host-test.true (was.left rest stock) c.port_at.ensures.left;
    }
