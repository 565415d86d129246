use Rattle.std.proofs.Common.{sym, ap, ◌∙◌}
use Rattle.vk_move.specs.Moved.{place_behind}
use Rattle.vk_move.proofs.Behind.{none_behind}
use Rattle.vk_move.proofs.places.write_behind.Goals as goal

pub returns-in_default : goal.returns-in_default
returns-in_default c =
    none_behind c.args.pid c.args.start c.args.offset c.args.bytes.now c.args.procs.now
    (ap (λ o. place_behind o c.args.start c.args.offset) (sym c.seat.ensures) ∙ sym c.in_default.ensures)
