use Rattle.std.proofs.Common.{arith, ap, length}
use Rattle.vk_threads.proofs.FewPids.{few_programs}
use Rattle.vk_udp.proofs.Dealing.{have_processes}
use Rattle.vk_udp.proofs.node.count_of.Goals as goal

pub overflow_cast-result : goal.overflow_cast-result
overflow_cast-result g c =
    let few = few_programs c.args.config.now.specs c.args.programs.now
    (have_processes c.args.config.now.specs c.args.host c.args.programs.now c.requires.processes) c.requires.apart in
    let same = ap length c.specs-processes.ensures.specs in
    let most = c.specs-processes.ensures.all in
    omega arith

pub returns-clause-few : goal.returns-clause-few
returns-clause-few g c =
    let few = few_programs c.args.config.now.specs c.args.programs.now
    (have_processes c.args.config.now.specs c.args.host c.args.programs.now c.requires.processes) c.requires.apart in
    let same = ap length c.specs-processes.ensures.specs in
    let most = c.specs-processes.ensures.all in
    omega arith
