use Rattle.std.proofs.Common.{◌∙◌, true, ap, sym}
use Rattle.vk_base.specs.Firsts.{change_first}
use Rattle.vk_procs.specs.Seats.{is_seat, noting}
use Rattle.vk_timer.specs.declared.work.Work.{Work}
use Rattle.vk_move.specs.Moved.{received, renoted}
use Rattle.vk_move.proofs.Notes.{with_note, with_none}
use Rattle.vk_move.proofs.mover.receive.Goals as goal

pub returns-in-Some : goal.returns-in-Some
returns-in-Some c =
    c.set_note.ensures
    ∙ ap (λ (w : Work). change_first (is_seat c.args.pid) (noting (record c.in-Some.seat.now.note {
      work = w;
      offset = c.args.offset;
      fresh = true;
    })) c.args.procs.now) c.answered.ensures
    ∙ with_note (is_seat c.args.pid)
    (received c.args.tick.times c.args.tick.at c.args.offset) c.in-Some.seat.now c.args.procs.now (sym c.in-Some.ensures)

pub returns-in_default : goal.returns-in_default
returns-in_default c =
    with_none (is_seat c.args.pid) (received c.args.tick.times c.args.tick.at c.args.offset)
    (renoted (received c.args.tick.times c.args.tick.at c.args.offset)) c.args.procs.now (sym c.in_default.ensures)
