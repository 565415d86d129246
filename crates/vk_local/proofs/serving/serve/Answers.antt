use Rattle.std.proofs.Common.{◌∙◌, ap}
use Rattle.vk_procs.specs.Seats.{pids}
use Rattle.vk_local.proofs.PidsStay.{pids_at}
use Rattle.vk_local.proofs.serving.serve.Goals as goal

pub returns-in-Some-clause-pids : goal.returns-in-Some-clause-pids
returns-in-Some-clause-pids c =
    ap pids c.take_slot.ensures.seats ∙ pids_at c.args.procs.now c.args.aliens.now c.args.pid c.in-Some.slot
