use Rattle.std.proofs.Common.{◌≡◌, ℕ, List, true, take, drop, ◌++◌}
use Rattle.vk_threads.specs.Dealt.{ArePorts, IsStocked}
use Rattle.vk_threads.proofs.deal.Stock.clock_ports.Given as goal

abbrev pub invariant-loop-host : goal.invariant-loop-host
invariant-loop-host l = record {
  sites : l.self.sites ≡ l.fn.self.sites;
  hub : l.self.hub ≡ l.fn.self.hub;
  ports : ArePorts l.fn.self.sites.now l.fn.self.hub.now true (take l.host-index l.hosts) l.ports.items;
  left : (rest : List ℕ) → IsStocked l.fn.self.sites.now l.fn.self.hub.now l.fn.self.spares.items l.fn.self.hub_seats.items (l.hosts ++ rest)
      → IsStocked l.fn.self.sites.now l.fn.self.hub.now l.self.spares.items l.self.hub_seats.items (drop l.host-index l.hosts ++ rest);
}
