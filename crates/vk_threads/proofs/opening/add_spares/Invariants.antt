use Rattle.std.proofs.Common.{◌≡◌, ◌++◌, map}
use Rattle.vk_threads.specs.Opened.{spare_at}
use Rattle.vk_threads.proofs.opening.add_spares.Given as goal

abbrev pub invariant-loop-seat : goal.invariant-loop-seat
invariant-loop-seat l = l.spares.items ≡ l.fn.spares.items ++ map (spare_at l.host) l.yielded
