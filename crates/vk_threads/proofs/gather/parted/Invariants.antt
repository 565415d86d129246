use Rattle.std.proofs.Common.{◌≡◌, filter}
use Rattle.vk_threads.specs.Gathered.{is_elsewhere, seats_at}
use Rattle.vk_threads.proofs.gather.parted.Given as goal

abbrev pub invariant-loop-spare : goal.invariant-loop-spare
invariant-loop-spare l = record {
  own : l.own.items ≡ seats_at l.host l.yielded;
  others : l.others.items ≡ filter (is_elsewhere l.host) l.yielded;
}
