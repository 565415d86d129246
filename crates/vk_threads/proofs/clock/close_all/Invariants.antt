use Rattle.std.proofs.Common.{List, ◌≡◌, ◌≤◌, ◌+◌, ◌++◌, drop, length, map, vec_capacity, vec_len}
use Rattle.vk_rules.specs.Each.{Each}
use Rattle.vk_threads.specs.declared.end.Seats.{Seats}
use Rattle.vk_threads.specs.Ends.{ArePortsClosed, IsAt, port_host}
use Rattle.vk_threads.proofs.clock.close_all.Given as goal

abbrev pub invariant-loop-port : goal.invariant-loop-port
invariant-loop-port g l = record {
  at_hub : Each (IsAt l.fn.hub) l.port-iterator.rest.items;
  hosts : map port_host l.port-iterator.rest.items ≡ drop l.at l.fn.hosts;
  count : l.at + l.port-iterator.rest.len ≡ length l.fn.hosts;
  room : vec_len l.seats + l.port-iterator.rest.len ≤ vec_capacity l.seats;
  closed : (ss : List Seats) → ArePortsClosed l.port-iterator.rest.items ss l.left → ArePortsClosed l.fn.ports.items (l.seats.items ++ ss) l.fn.halts;
}
