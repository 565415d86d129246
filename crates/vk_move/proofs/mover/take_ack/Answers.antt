use Rattle.std.proofs.Common.{ap, ◌∙◌}
use Rattle.vk_move.specs.Mover.{acked_in}
use Rattle.vk_move.proofs.Going.{ack_goes_on}
use Rattle.vk_move.proofs.mover.take_ack.Goals as goal

pub go_on-requires-clause-goes : goal.go_on-requires-clause-goes
go_on-requires-clause-goes c =
    let m = c.args.subject in
    ack_goes_on c.args.procs.now c.requires.fit m.mover m.name.exchange m.name.number c.args.received
    (c.in-Restarts.ensures ∙ ap (acked_in m.name.exchange m.name.number c.args.received) c.seat.ensures)
