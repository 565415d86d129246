use Rattle.std.proofs.Common.{◌≡◌, take, true}
use Rattle.std.specs.List.{list_all}
use Rattle.vk_base.specs.Settings.{stations_of}
use Rattle.vk_text.specs.Openings.{has_usual_pool}
use Rattle.vk_text.proofs.opening.has_usual_pools.Given as goal

abbrev pub invariant-loop-place : goal.invariant-loop-place
invariant-loop-place l = list_all (has_usual_pool l.config) (take l.place (stations_of l.config.specs)) ≡ true
