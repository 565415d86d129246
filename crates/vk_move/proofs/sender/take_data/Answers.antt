use Rattle.std.proofs.Common.{◌≤◌, ◌+◌, ◌==◌, ap, length, subst, sym, ◌∙◌}
use Rattle.vk_move.specs.Sender.{data_wanted, sender_by}
use Rattle.vk_move.proofs.Wanted.{done_low, low_before}
use Rattle.vk_move.proofs.sender.take_data.Goals as goal

pub acknowledge-requires-clause-few : goal.acknowledge-requires-clause-few
acknowledge-requires-clause-few c =
    let m = c.args.subject in
    subst (λ n. n ≤ 65536) (sym c.done_after-done.ensures)
    (done_low (c.args.piece.offset == c.in-Wanted.before) (c.args.piece.offset + length c.args.piece.bytes.now) c.in-Wanted.before
    c.requires.few
    (low_before c.args.procs.now c.requires.fit m.name.exchange.sender m.mover m.name.exchange.number m.name.number c.args.dest
    c.args.piece.total c.in-Wanted.opens c.in-Wanted.before
    (c.in-Wanted.ensures ∙ ap (data_wanted m.name.number c.args.dest c.args.piece.total)
    (c.sender_by-sender.ensures ∙ ap (sender_by m.name.exchange.sender m.mover m.name.exchange.number) c.seat.ensures))))
