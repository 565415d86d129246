use Rattle.std.proofs.Common.{◌≡◌, ℕ, ◌<◌, slice_index}
use Rattle.vk_base.specs.Settings.{stations_of}
use Rattle.vk_cluster.proofs.cluster.place_of.Given as goal

abbrev pub invariant-loop-at : goal.invariant-loop-at
invariant-loop-at l = (k : ℕ) → k < l.at → slice_index (stations_of l.config.specs) k ≡ l.host → ⊥
