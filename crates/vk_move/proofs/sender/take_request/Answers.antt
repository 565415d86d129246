use Rattle.std.proofs.Common.{ap, ◌∙◌}
use Rattle.vk_move.specs.Sender.{bytes_wanted, sender_by}
use Rattle.vk_move.proofs.Wanted.{readable}
use Rattle.vk_move.proofs.sender.take_request.Goals as goal

pub post_asked-requires-clause-inside : goal.post_asked-requires-clause-inside
post_asked-requires-clause-inside c =
    let m = c.args.subject in
    readable c.args.procs.now c.requires.fit m.name.exchange.sender m.mover m.name.exchange.number m.name.number c.args.asked.src
    c.args.asked.total c.in-Wanted.opens c.in-Wanted.before
    (c.in-Wanted.ensures ∙ ap (bytes_wanted m.name.number c.args.asked.src c.args.asked.total)
    (c.sender_by-sender.ensures ∙ ap (sender_by m.name.exchange.sender m.mover m.name.exchange.number) c.seat.ensures))
