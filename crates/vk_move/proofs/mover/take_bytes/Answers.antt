use Rattle.std.proofs.Common.{ap, ◌∙◌}
use Rattle.vk_move.specs.Mover.{brought_in}
use Rattle.vk_move.proofs.Going.{bytes_go_on}
use Rattle.vk_move.proofs.mover.take_bytes.Goals as goal

pub go_on-requires-clause-goes : goal.go_on-requires-clause-goes
go_on-requires-clause-goes c =
    let m = c.args.subject in
    bytes_go_on c.args.procs.now c.requires.fit m.mover
    m.name.exchange m.name.number c.args.piece.total c.args.piece.offset _ c.in-Restarts.from
    (c.in-Restarts.ensures ∙ ap (brought_in m.name.exchange m.name.number c.args.piece.total c.args.piece.offset _) c.seat.ensures)
