use Rattle.std.proofs.Common.{sym, ap, ◌∙◌, option_map}
use Rattle.vk_base.specs.Kernel.{with_state}
use Rattle.vk_base.specs.Activities.{answer_of}
use Rattle.v_machine.specs.Kept.{kernel_in}
use Rattle.v_machine.specs.Places.{count_at}
use Rattle.v_machine.specs.Tables.{process_of}
use Rattle.v_machine.proofs.MoveSteps.{end_allowed}
use Rattle.v_machine.proofs.steps.transfers.end.Goals as goal

pub returns : goal.returns
returns c =
    let s = c.args.store.now in
    let k = kernel_in s in
    let place = c.in_ok-at.ensures.here.place in
    let there = c.proc-proc.ensures c.args.pid place in
    let p = process_of c.proc-proc.result.now (count_at s.sends.items c.in_ok-at.at) (count_at s.asked.items c.in_ok-at.at) in
    record {
      effect = end_allowed k _ c.args.pid p c.in_ok-name.name c.args.why (answer_of c.in_ok-outcome.outcome) there
          (sym c.is_moving.ensures ∙ c.if-not-is_moving.false) c.in_ok-name.was
          (sym c.move_outcome.ensures ∙ ap (option_map answer_of) c.in_ok-outcome.was)
          (c.put_activity.ensures.kernel c.args.pid p place there ∙ ap (with_state k c.args.pid p) c.ended.ensures.kernel);
      indexed = c.put_activity.ensures.indexed c.requires.indexed;
    }
