use Rattle.std.proofs.Common.{◌∙◌, ap, refl}
use Rattle.vk_base.specs.Firsts.{change_first}
use Rattle.vk_procs.specs.Seats.{is_seat, killed, pids}
use Rattle.vk_local.specs.Rules.{whole_tables}
use Rattle.vk_local.proofs.ExitRules.{exit_done}
use Rattle.vk_local.proofs.PidsStay.{pids_exited}
use Rattle.vk_local.proofs.exits.exit.Goals as goal

pub returns-clause-done : goal.returns-clause-done
returns-clause-done c = record {
  outcome = refl;
  seats = c.kill.ensures ∙ ap (change_first (is_seat c.args.pid) killed) c.leave.ensures;
  lists = c.empty_queue.ensures.lists;
  slots = c.leave_aliens.ensures.slots;
  names = c.forget.ensures;
  steps = c.push.ensures;
  packets = c.leave_aliens.ensures.packets;
}

pub returns-clause-rule : goal.returns-clause-rule
returns-clause-rule c =
    exit_done c.args.pid c.args.now (whole_tables c.args.procs.now c.args.queues.now.lists c.args.aliens.now c.args.names.now)
    (whole_tables c.kill.new.self c.empty_queue.new.queues.lists c.leave_aliens.new.aliens c.forget.new.self) c.args.steps.now
    c.push.new.self c.args.out.now c.leave_aliens.new.out _ c.requires.ready (returns-clause-done c)

pub returns-clause-pids : goal.returns-clause-pids
returns-clause-pids c = ap pids (returns-clause-done c).seats ∙ pids_exited c.args.procs.now c.args.pid
