use Rattle.std.proofs.Common.{subst}
use Rattle.vk_threads.specs.Clocks.{HaveLooked, is_stop}
use Rattle.vk_threads.proofs.Clocks.{looked_cut, looked_end, looked_more, ticked_none}
use Rattle.vk_threads.proofs.clock.watch.Goals as goal

pub loop-init : goal.loop-init
loop-init g c = ticked_none c.args.ports.now

pub returns-in-Ok-Stopped-clause-watched : goal.returns-in-Ok-Stopped-clause-watched
returns-in-Ok-Stopped-clause-watched g c =
    let last = subst (λ a. HaveLooked c.loop.ports c.look.new.ports (is_stop a)) c.in-Ok-Stopped.field-0-is c.in-Ok-Stopped.ensures.looked in
    looked_end c.args.ports.now c.loop.ports c.look.new.ports c.loop.invariant last

pub loop-preserved-in-Ok-Frame : goal.loop-preserved-in-Ok-Frame
loop-preserved-in-Ok-Frame g c =
    let last = subst (λ a. HaveLooked c.loop.ports c.look.new.ports (is_stop a)) c.in-Ok-Frame.field-0-is c.in-Ok-Frame.ensures.looked in
    looked_more c.args.ports.now c.loop.ports c.look.new.ports c.loop.invariant last.0

pub returns-then-is_last-clause-watched : goal.returns-then-is_last-clause-watched
returns-then-is_last-clause-watched g c =
    let last = subst (λ a. HaveLooked c.loop.ports c.look.new.ports (is_stop a)) c.in-Ok-Nothing.field-0-is c.in-Ok-Nothing.ensures.looked in
    looked_more c.args.ports.now c.loop.ports c.look.new.ports c.loop.invariant last.0

pub loop-preserved : goal.loop-preserved
loop-preserved g c =
    let last = subst (λ a. HaveLooked c.loop.ports c.look.new.ports (is_stop a)) c.in-Ok-Nothing.field-0-is c.in-Ok-Nothing.ensures.looked in
    looked_more c.args.ports.now c.loop.ports c.look.new.ports c.loop.invariant last.0

pub returns-in-Err-clause-cut : goal.returns-in-Err-clause-cut
returns-in-Err-clause-cut g c =
    looked_cut c.args.ports.now c.loop.ports c.look.new.ports c.in-Err.why c.loop.invariant c.in-Err.ensures.cut
