use Rattle.std.proofs.Common.{◌++◌, [], ap, append_assoc, append-nil, map, subst, sym, ◌∙◌}
use Rattle.vk_threads.specs.Dealt.{AreJobsAt, IsStocked, host_of, runs_by}
use Rattle.vk_threads.proofs.Dealing.{due_by, jobs_by, jobs_dealt, ports_at_hub, ports_by, ports_hosts, ports_may}
use Rattle.vk_threads.proofs.deal.jobs_of.Goals as goal

pub add_pumps-requires : goal.add_pumps-requires
add_pumps-requires g c =
    let stock = c.args.stock in
    let new = c.add_programs.new.self in
    let hosts = c.args.roster.stations.items in
    let due = subst (IsStocked stock.sites.now stock.hub.now stock.spares.items stock.hub_seats.items)
    (append_assoc (map host_of c.args.roster.programs.items) hosts hosts) c.requires.stock in (
      hosts,
      due_by stock.sites.now new.sites.now stock.hub.now new.hub.now new.spares.items new.hub_seats.items hosts c.deref.result.now hosts
          (ap (λ s. s.now) c.add_programs.ensures.sites) (ap (λ h. h.now) c.add_programs.ensures.hub) c.deref.ensures.value
          (c.in_ok-add_programs.ensures.left (hosts ++ hosts) due),
    )

pub clock_ports-requires : goal.clock_ports-requires
clock_ports-requires g c =
    let stock = c.args.stock in
    let one = c.add_programs.new.self in
    let new = c.add_pumps.new.self in
    let hosts = c.args.roster.stations.items in
    let due = subst (IsStocked stock.sites.now stock.hub.now stock.spares.items stock.hub_seats.items)
    (append_assoc (map host_of c.args.roster.programs.items) hosts hosts) c.requires.stock in
    let first = due_by stock.sites.now one.sites.now stock.hub.now one.hub.now one.spares.items one.hub_seats.items hosts c.deref.result.now hosts
    (ap (λ s. s.now) c.add_programs.ensures.sites) (ap (λ h. h.now) c.add_programs.ensures.hub) c.deref.ensures.value
    (c.in_ok-add_programs.ensures.left (hosts ++ hosts) due) in
    let left = subst (IsStocked one.sites.now one.hub.now new.spares.items new.hub_seats.items) (sym (append-nil hosts))
    (c.in_ok-add_pumps.ensures.left hosts first) in (
      [],
      due_by one.sites.now new.sites.now one.hub.now new.hub.now new.spares.items new.hub_seats.items hosts c.deref-2.result.now []
          (ap (λ s. s.now) c.add_pumps.ensures.sites) (ap (λ h. h.now) c.add_pumps.ensures.hub) c.deref-2.ensures.value left,
    )

pub new-requires-clause-hub : goal.new-requires-clause-hub
new-requires-clause-hub g c =
    let stock = c.args.stock in
    let new = c.add_pumps.new.self in
    let are = ports_by stock.sites.now new.sites.now stock.hub.now new.hub.now c.in_ok-ports.ports.items c.args.roster.stations.items c.deref-2.result.now
    (ap (λ s. s.now) (c.add_pumps.ensures.sites ∙ c.add_programs.ensures.sites)) (ap (λ h. h.now) (c.add_pumps.ensures.hub ∙ c.add_programs.ensures.hub))
    c.deref-2.ensures.value c.in_ok-ports.ensures in
    ports_at_hub stock.sites.now stock.hub.now _ c.args.roster.stations.items c.in_ok-ports.ports.items are

pub new-requires-clause-hosts : goal.new-requires-clause-hosts
new-requires-clause-hosts g c =
    let new = c.add_pumps.new.self in
    ports_hosts new.sites.now new.hub.now c.deref-2.result.now c.in_ok-ports.ports.items c.in_ok-ports.ensures ∙ c.deref-2.ensures.value

pub new-requires-clause-may : goal.new-requires-clause-may
new-requires-clause-may g c =
    let new = c.add_pumps.new.self in
    ports_may new.sites.now new.hub.now c.deref-2.result.now c.in_ok-ports.ports.items c.in_ok-ports.ensures

pub returns : goal.returns
returns g c =
    let stock = c.args.stock in
    let one = c.add_programs.new.self in
    let new = c.add_pumps.new.self in
    let task = g.G.Program.task in
    let sites = ap (λ s. s.now) c.add_programs.ensures.sites in
    let hub = ap (λ h. h.now) c.add_programs.ensures.hub in
    let are = ports_by stock.sites.now new.sites.now stock.hub.now new.hub.now c.in_ok-ports.ports.items c.args.roster.stations.items c.deref-2.result.now
    (ap (λ s. s.now) (c.add_pumps.ensures.sites ∙ c.add_programs.ensures.sites)) (ap (λ h. h.now) (c.add_pumps.ensures.hub ∙ c.add_programs.ensures.hub))
    c.deref-2.ensures.value c.in_ok-ports.ensures in
    let runs = map (runs_by task) c.args.roster.programs.items in
    let programs = c.in_ok-add_programs.ensures.jobs [] (subst (AreJobsAt task stock.sites.now stock.hub.now []) (sym c.new-jobs.ensures.items) tt) in
    let first = c.in_ok-add_pumps.ensures.jobs runs
    (jobs_by task stock.sites.now one.sites.now stock.hub.now one.hub.now runs c.add_programs.new.jobs.items sites hub programs) in
    jobs_dealt task stock.sites.now stock.hub.now c.args.roster.programs.items c.args.roster.stations.items c.deref.result.now c.args.roster.rounds c.add_pumps.new.jobs.items
    c.push.new.self.items c.in_ok-ports.ports.items c.in_ok-clock.clock c.in_ok-push.ensures.items c.deref.ensures.value
    (jobs_by task one.sites.now stock.sites.now one.hub.now stock.hub.now _ c.add_pumps.new.jobs.items (sym sites) (sym hub) first) are c.in_ok-clock.ensures
