use Rattle.std.proofs.Common.{◌≡◌, ◌+◌, ◌≤◌, length, take}
use Rattle.std.specs.Prelude.{sum_by}
use Rattle.vk_cluster.specs.Piles.{IsAdding, pile_of}
use Rattle.vk_cluster.proofs.cluster.keep.Given as goal

abbrev pub invariant-loop-at : goal.invariant-loop-at
invariant-loop-at l = record {
  adding : IsAdding (pile_of l.initial.emitted) (pile_of l.emitted) (take l.at l.host.frames);
  events : l.emitted.events ≡ l.initial.emitted.events;
  for_bytes : l.emitted.frames.bytes + sum_by length (take l.at l.host.frames) ≡ l.initial.emitted.frames.bytes;
  for_frames : l.initial.emitted.frames.places ≤ l.emitted.frames.places + l.at;
}
