use Rattle.std.proofs.Common.{◌∙◌, ap, sym}
use Rattle.vk_base.specs.Firsts.{change_first}
use Rattle.vk_procs.specs.Seats.{is_seat}
use Rattle.vk_procs.specs.Works.{working}
use Rattle.vk_timer.specs.declared.work.Work.{Work}
use Rattle.vk_move.specs.Moved.{answered, renoted}
use Rattle.vk_move.proofs.Notes.{with_none}
use Rattle.vk_move.proofs.mover.answer.Goals as goal

pub returns-in-Some : goal.returns-in-Some
returns-in-Some c =
    c.set_work.ensures ∙ ap (λ (w : Work). change_first (is_seat c.args.pid) (working w) c.args.procs.now) c.answered.ensures

pub returns-in_default : goal.returns-in_default
returns-in_default c =
    with_none (is_seat c.args.pid) (answered c.args.tick.times c.args.tick.at)
    (renoted (answered c.args.tick.times c.args.tick.at)) c.args.procs.now (sym c.in_default.ensures)
