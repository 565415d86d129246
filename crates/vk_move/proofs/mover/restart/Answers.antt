use Rattle.std.proofs.Common.{◌∙◌, sym}
use Rattle.vk_procs.specs.Seats.{is_seat}
use Rattle.vk_move.specs.Moved.{restarted, renoted}
use Rattle.vk_move.proofs.Notes.{with_note, with_none}
use Rattle.vk_move.proofs.mover.restart.Goals as goal

pub returns-in-Some : goal.returns-in-Some
returns-in-Some c =
    c.set_note.ensures ∙ with_note (is_seat c.args.pid)
    (restarted c.args.work c.args.offset) c.in-Some.seat.now c.args.procs.now (sym c.in-Some.ensures)

pub returns-in_default : goal.returns-in_default
returns-in_default c =
    with_none (is_seat c.args.pid) (restarted c.args.work c.args.offset)
    (renoted (restarted c.args.work c.args.offset)) c.args.procs.now (sym c.in_default.ensures)
