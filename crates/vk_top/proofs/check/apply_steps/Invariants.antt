use Rattle.std.proofs.Common.{◌≡◌, ◌+◌, length}
use Rattle.vk_base.specs.Kernel.{Kernel}
use Rattle.v_machine.specs.Follows.{StandsFor}
use Rattle.vk_top.specs.Check.{without_steps}
use Rattle.vk_top.specs.Checking.{IsAsFar}
use Rattle.vk_top.proofs.check.apply_steps.Given as goal

abbrev pub invariant-loop-alloc : goal.invariant-loop-alloc
invariant-loop-alloc l = record {
  counted : l.read + length l.reader.steps ≡ l.fn.before + length l.fn.reader.steps;
  ends : without_steps l.reader ≡ without_steps l.fn.reader;
  verdict : (k : Kernel) → StandsFor l.fn.machine k →
      IsAsFar k l.fn.before l.fn.machine.noted l.fn.reader.steps l.machine l.read l.reader.steps;
}

abbrev pub decreases-loop-alloc : goal.decreases-loop-alloc
decreases-loop-alloc l = length l.reader.steps
