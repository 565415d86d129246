use Rattle.std.proofs.Common.{◌∙◌, ap}
use Rattle.vk_base.specs.declared.kernel.Direction.TheVariants as directions
use Rattle.vk_procs.specs.Seats.{pids}
use Rattle.vk_local.proofs.MoveRules.{move_rule}
use Rattle.vk_local.proofs.PidsStay.{pids_moved}
use Rattle.vk_local.proofs.moves.move_to.Goals as goal

pub returns-clause-rule : goal.returns-clause-rule
returns-clause-rule c =
    let p = c.make_move in
    move_rule directions.To c.args.pid c.args.partner c.args.segment c.args.procs.now p.new.procs c.args.steps.now p.new.steps
    p.result c.requires.ready c.requires.near p.ensures

pub returns-clause-pids : goal.returns-clause-pids
returns-clause-pids c =
    ap pids c.make_move.ensures.seats ∙ pids_moved directions.To c.args.procs.now c.args.pid c.args.partner c.args.segment
