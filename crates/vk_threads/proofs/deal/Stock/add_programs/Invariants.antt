use Rattle.std.proofs.Common.{◌≡◌, ℕ, List, map, ◌++◌, []}
use Rattle.v_run.specs.Passages.{Role}
use Rattle.vk_rules.specs.Each.{Each}
use Rattle.vk_threads.specs.Dealt.{AreJobsAt, IsOwnAt, IsStocked, host_of, runs_by}
use Rattle.vk_threads.proofs.deal.Stock.add_programs.Given as goal

abbrev pub invariant-loop-assigned : goal.invariant-loop-assigned
invariant-loop-assigned g l = record {
  sites : l.self.sites ≡ l.fn.self.sites;
  hub : l.self.hub ≡ l.fn.self.hub;
  processes : Each (IsOwnAt l.fn.self.sites.now) l.assigned-iterator.rest.items;
  fresh : Each (λ a. g.G.Program.is_after a.program []) l.assigned-iterator.rest.items;
  jobs : (ds : List (ℕ × Role)) → AreJobsAt g.G.Program.task l.fn.self.sites.now l.fn.self.hub.now ds l.fn.jobs.items
      → AreJobsAt g.G.Program.task l.fn.self.sites.now l.fn.self.hub.now (ds ++ map (runs_by g.G.Program.task) l.yielded) l.jobs.items;
  left : (rest : List ℕ) → IsStocked l.fn.self.sites.now l.fn.self.hub.now l.fn.self.spares.items l.fn.self.hub_seats.items
      (map host_of l.fn.programs.items ++ rest)
      → IsStocked l.fn.self.sites.now l.fn.self.hub.now l.self.spares.items l.self.hub_seats.items (map host_of l.assigned-iterator.rest.items ++ rest);
}
