use Rattle.std.proofs.Common.{◌≡◌, ◌++◌, map}
use Rattle.vk_threads.specs.Gathered.{hub_seat_in, spare_of}
use Rattle.vk_threads.proofs.gather.add_seats.Given as goal

abbrev pub invariant-loop-two : goal.invariant-loop-two
invariant-loop-two l = record {
  spares : l.spares.items ≡ l.fn.spares.items ++ map spare_of l.yielded;
  hub_seats : l.hub_seats.items ≡ l.fn.hub_seats.items ++ map hub_seat_in l.yielded;
}
