use Rattle.std.proofs.Common.{◌≡◌, ℕ, List, map, take, drop, ◌++◌}
use Rattle.v_run.specs.Passages.{Role}
use Rattle.vk_threads.specs.Dealt.{AreJobsAt, IsStocked, pumps_at}
use Rattle.vk_threads.proofs.deal.Stock.add_pumps.Given as goal

abbrev pub invariant-loop-host : goal.invariant-loop-host
invariant-loop-host g l = record {
  sites : l.self.sites ≡ l.fn.self.sites;
  hub : l.self.hub ≡ l.fn.self.hub;
  jobs : (ds : List (ℕ × Role)) → AreJobsAt g.G.Program.task l.fn.self.sites.now l.fn.self.hub.now ds l.fn.jobs.items
      → AreJobsAt g.G.Program.task l.fn.self.sites.now l.fn.self.hub.now (ds ++ map pumps_at (take l.host-index l.stations)) l.jobs.items;
  left : (rest : List ℕ) → IsStocked l.fn.self.sites.now l.fn.self.hub.now l.fn.self.spares.items l.fn.self.hub_seats.items (l.stations ++ rest)
      → IsStocked l.fn.self.sites.now l.fn.self.hub.now l.self.spares.items l.self.hub_seats.items (drop l.host-index l.stations ++ rest);
}
