use Rattle.std.proofs.Common.{◌≡◌, ℕ, ◌+◌, List, ◌++◌, [], true, length}
use Rattle.vk_port.specs.Stations.{is_process_of}
use Rattle.vk_program.specs.declared.assigned.Assigned.{Assigned}
use Rattle.vk_rules.specs.Each.{Each}
use Rattle.vk_udp.specs.Dealt.{AreProcesses, IsStocked}
use Rattle.vk_udp.proofs.deal.add_programs.Given as goal

abbrev pub invariant-loop-assigned : goal.invariant-loop-assigned
invariant-loop-assigned g l = record {
  host : l.stock.host ≡ l.fn.stock.host;
  cell : l.stock.cell ≡ l.fn.stock.cell;
  hub : l.stock.hub ≡ l.fn.stock.hub;
  processes : Each (λ (a : Assigned _). is_process_of l.fn.stock.cell.now.origin a.pid ≡ true) l.assigned-iterator.rest.items;
  fresh : Each (λ a. g.G.Program.is_after a.program []) l.assigned-iterator.rest.items;
  jobs : (front : List (Assigned _)) → AreProcesses l.fn.stock.cell.now l.fn.stock.hub.now l.fn.stock.host front l.fn.jobs.items
      → AreProcesses l.fn.stock.cell.now l.fn.stock.hub.now l.fn.stock.host (front ++ l.yielded) l.jobs.items;
  left : (n : ℕ) → IsStocked l.fn.stock.cell.now l.fn.stock.hub.now l.fn.stock.host (length l.fn.programs.items + n) l.fn.stock.seats.items
      l.fn.stock.hub_seats.items
      → IsStocked l.fn.stock.cell.now l.fn.stock.hub.now l.fn.stock.host (length l.assigned-iterator.rest.items + n) l.stock.seats.items
      l.stock.hub_seats.items;
}
