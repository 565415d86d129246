use Rattle.std.proofs.Common.{◌∙◌, false, Some, ap, sym}
use Rattle.vk_base.specs.Firsts.{change_first}
use Rattle.vk_procs.specs.Seats.{is_seat, noting}
use Rattle.vk_timer.specs.declared.work.Work.{Work}
use Rattle.vk_move.specs.Begun.{begun_note}
use Rattle.vk_move.specs.Moved.{renoted}
use Rattle.vk_move.proofs.Notes.{with_note, with_none}
use Rattle.vk_move.proofs.begun.note_begun.Goals as goal

pub returns-in-Some : goal.returns-in-Some
returns-in-Some c =
    c.set_note.ensures
    ∙ ap (λ (w : Work). change_first (is_seat c.args.pid) (noting (record c.in-Some.seat.now.note {
      moving = Some c.args.name;
      work = w;
      offset = 0;
      fresh = false;
    })) c.args.procs.now) c.start.ensures
    ∙ with_note (is_seat c.args.pid)
    (begun_note c.args.tick.times c.args.tick.at c.args.name) c.in-Some.seat.now c.args.procs.now (sym c.in-Some.ensures)

pub returns-in_default : goal.returns-in_default
returns-in_default c =
    with_none (is_seat c.args.pid) (begun_note c.args.tick.times c.args.tick.at c.args.name)
    (renoted (begun_note c.args.tick.times c.args.tick.at c.args.name)) c.args.procs.now (sym c.in_default.ensures)
