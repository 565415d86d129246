use Rattle.std.proofs.Common.{refl}
use Rattle.vk_base.specs.Kernel.{initial_kernel}
use Rattle.v_machine.proofs.Standing.{stands_initial}
use Rattle.vk_explain.proofs.reading.Reading.new.Goals as goal

pub returns-clause-read : goal.returns-clause-read
returns-clause-read c = record {
  config = refl;
  kernel = initial_kernel c.args.config.specs;
  come = refl;
  stands = stands_initial c.in_ok-machine.machine c.args.config.specs c.in_ok-machine.ensures.0;
  last = λ a. refl;
  steps = refl;
  answers = refl;
  noted = c.in_ok-machine.ensures.1;
  observed = c.in_ok-observed.ensures;
}
