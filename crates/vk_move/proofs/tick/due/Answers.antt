use Rattle.std.proofs.Common.{ap, refl, sym, ◌∙◌}
use Rattle.std.proofs.lemmas.List.{append-nil}
use Rattle.vk_move.specs.declared.tick.Ticked.TheVariants as ticks
use Rattle.vk_move.specs.Due.{ticked_in}
use Rattle.vk_move.proofs.Pieces.{none_posted}
use Rattle.vk_move.proofs.Ticking.{is_due}
use Rattle.vk_move.proofs.Ticks.{tick_goes_on}
use Rattle.vk_move.proofs.tick.due.Goals as goal

pub go_on-requires-clause-goes : goal.go_on-requires-clause-goes
go_on-requires-clause-goes c =
    tick_goes_on c.args.procs.now c.requires.fit c.args.pid c.args.times.now c.args.now c.in-Again.work c.in-Again.from
    (c.in-Again.ensures ∙ ap (ticked_in c.args.times.now c.args.now) c.seat.ensures)

pub returns-in-Nothing : goal.returns-in-Nothing
returns-in-Nothing c =
    is_due c.args.times.now c.args.now c.args.pid c.args.procs.now c.args.procs.now c.args.steps.now c.args.steps.now c.args.out.now
    c.args.out.now c.requires.fit ticks.Nothing (c.in-Nothing.ensures ∙ ap (ticked_in c.args.times.now c.args.now) c.seat.ensures) refl
    (sym (append-nil c.args.steps.now)) (none_posted c.args.out.now)

pub returns-in-Ends : goal.returns-in-Ends
returns-in-Ends c =
    is_due c.args.times.now c.args.now c.args.pid c.args.procs.now c.end.new.procs c.args.steps.now c.end.new.steps c.args.out.now
    c.args.out.now c.requires.fit ticks.Ends (c.in-Ends.ensures ∙ ap (ticked_in c.args.times.now c.args.now) c.seat.ensures)
    c.end.ensures.seats c.end.ensures.steps (none_posted c.args.out.now)

pub returns-in-Again : goal.returns-in-Again
returns-in-Again c =
    is_due c.args.times.now c.args.now c.args.pid c.args.procs.now c.go_on.new.procs c.args.steps.now c.args.steps.now c.args.out.now
    c.go_on.new.out c.requires.fit (ticks.Again c.in-Again.work c.in-Again.from)
    (c.in-Again.ensures ∙ ap (ticked_in c.args.times.now c.args.now) c.seat.ensures) c.go_on.ensures.seats
    (sym (append-nil c.args.steps.now)) c.go_on.ensures.packets
