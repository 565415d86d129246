use Rattle.std.proofs.Common.{◌≡◌, ◌++◌, take}
use Rattle.std.specs.List.{flat_map}
use Rattle.vk_base.specs.Settings.{stations_of}
use Rattle.vk_text.specs.Heads.{line_text}
use Rattle.vk_text.specs.Openings.{pool_lines}
use Rattle.vk_text.proofs.opening.write_pools.Given as goal

abbrev pub invariant-loop-place : goal.invariant-loop-place
invariant-loop-place l =
    l.into.items ≡ l.fn.into.items ++ flat_map line_text (flat_map (pool_lines l.config) (take l.place (stations_of l.config.specs)))
