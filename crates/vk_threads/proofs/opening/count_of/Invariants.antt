use Rattle.std.proofs.Common.{◌≡◌, ◌≤◌, take}
use Rattle.vk_threads.specs.Opened.{count_of}
use Rattle.vk_threads.proofs.opening.count_of.Given as goal

abbrev pub invariant-loop-h : goal.invariant-loop-h
invariant-loop-h l = record { count : l.count ≡ count_of l.host (take l.h-index l.hosts); few : l.count ≤ l.h-index }
