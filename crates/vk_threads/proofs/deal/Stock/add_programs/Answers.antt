use Rattle.std.proofs.Common.{ap, ◌∙◌, ◌++◌, map, subst}
use Rattle.vk_rules.specs.Each.{Each}
use Rattle.vk_threads.specs.Dealt.{IsOwnAt, host_of}
use Rattle.vk_threads.proofs.Dealing.{program_job, stock_next}
use Rattle.vk_threads.proofs.deal.Stock.add_programs.Goals as goal

pub loop-assigned-preserved : goal.loop-assigned-preserved
loop-assigned-preserved g c =
    let self = c.args.self.now in
    let here = c.loop-assigned.self in
    let new = c.port_at.new.self in
    let was = c.loop-assigned.invariant in
    let a = c.in-Some.assigned in
    let steps = c.in-Some.ensures.steps.0 in
    let left = c.next.new.self.rest.items in
    let sites = ap (λ s. s.now) was.sites in
    let hub = ap (λ h. h.now) was.hub in
    record {
      sites = c.port_at.ensures.sites ∙ was.sites;
      hub = c.port_at.ensures.hub ∙ was.hub;
      processes = (subst (Each (IsOwnAt self.sites.now)) steps was.processes).1;
      fresh = (subst (Each _) steps was.fresh).1;
      jobs = λ ds are. program_job g.G.Program.task self.sites.now here.sites.now self.hub.now here.hub.now ds c.loop-assigned.jobs.items
          c.push.new.self.items c.in_ok-port.port sites hub c.loop-assigned.yielded a c.in_ok-work.work c.in_ok-work.ensures c.in_ok-push.ensures.items
          c.in_ok-port.ensures.port (was.jobs ds are);
      left = λ rest stock. stock_next self.sites.now here.sites.now self.hub.now here.hub.now here.spares.items new.spares.items here.hub_seats.items
          new.hub_seats.items a.pid.host (map host_of left ++ rest) _ sites hub (ap (λ l. map host_of l ++ rest) steps) (was.left rest stock)
          c.port_at.ensures.left;
    }
