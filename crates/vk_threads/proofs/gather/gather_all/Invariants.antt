use Rattle.vk_threads.specs.Gathered.{HasGathered}
use Rattle.vk_threads.proofs.gather.gather_all.Given as goal

abbrev pub invariant-loop-end : goal.invariant-loop-end
invariant-loop-end l = HasGathered l.yielded l.all
