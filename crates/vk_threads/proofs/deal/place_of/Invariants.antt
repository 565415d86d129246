use Rattle.std.proofs.Common.{◌≡◌, map, take}
use Rattle.vk_threads.specs.Dealt.{spare_host}
use Rattle.vk_threads.specs.Opened.{count_of}
use Rattle.vk_threads.proofs.deal.place_of.Given as goal

abbrev pub invariant-loop-at : goal.invariant-loop-at
invariant-loop-at l = count_of l.host (map spare_host (take l.at l.spares)) ≡ 0
