use Rattle.std.proofs.Common.{subst}
use Rattle.std.proofs.lemmas.Result.{IfErr-weaker, IfOk-weaker}
use Rattle.vk_threads.specs.Clocks.{HaveGone}
use Rattle.vk_threads.proofs.Clocks.{rounds_watched, watched_cut}
use Rattle.vk_threads.proofs.clock.run_clock.Goals as goal

pub returns-in-Ok-true-clause-ran : goal.returns-in-Ok-true-clause-ran
returns-in-Ok-true-clause-ran g c =
    subst (HaveGone c.args.rounds c.args.ports.now c.tick_on.new.ports) c.in-Ok-true.field-0-test c.in-Ok-true.ensures.ticked

pub returns-in-Ok-false-clause-ran : goal.returns-in-Ok-false-clause-ran
returns-in-Ok-false-clause-ran g c =
    let gone = subst (HaveGone c.args.rounds c.args.ports.now c.tick_on.new.ports) c.in-Ok-false.field-0-test c.in-Ok-false.ensures.ticked in
    IfOk-weaker c.watch.result _ _
    (λ idle it. rounds_watched c.args.rounds c.args.ports.now c.tick_on.new.ports c.watch.new.ports gone idle it) c.watch.ensures.watched

pub returns-in-Ok-false-clause-cut : goal.returns-in-Ok-false-clause-cut
returns-in-Ok-false-clause-cut g c =
    let gone = subst (HaveGone c.args.rounds c.args.ports.now c.tick_on.new.ports) c.in-Ok-false.field-0-test c.in-Ok-false.ensures.ticked in
    IfErr-weaker c.watch.result _ _
    (λ why it. watched_cut c.args.rounds c.args.ports.now c.tick_on.new.ports c.watch.new.ports why gone it) c.watch.ensures.cut
