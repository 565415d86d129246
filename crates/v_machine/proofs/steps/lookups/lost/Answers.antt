use Rattle.std.proofs.Common.{◌≡◌, true, ap, arith, ◌∙◌}
use Rattle.vk_base.specs.Kernel.{with_state, is_asking}
use Rattle.vk_base.specs.Activities.{state_of}
use Rattle.v_machine.specs.Kept.{kernel_in}
use Rattle.v_machine.specs.Places.{count_at}
use Rattle.v_machine.specs.Tables.{process_of}
use Rattle.v_machine.proofs.Asking.{lost_allowed}
use Rattle.v_machine.proofs.steps.lookups.lost.Goals as goal

pub returns : goal.returns
returns c =
    let k = kernel_in c.args.store.now in
    let place = c.in_ok-at.ensures.here.place in
    let there = c.proc.ensures c.args.asker place in
    let p = process_of c.proc.result.now (count_at c.args.store.now.sends.items c.in_ok-at.at)
    (count_at c.args.store.now.asked.items c.in_ok-at.at) in
    let asks : is_asking (state_of c.proc.result.now.activity) ≡ true = grind (arith, c.is_asking.ensures) in
    record {
      effect = lost_allowed k _ c.args.asker p there asks
          (c.put_activity.ensures.kernel c.args.asker p place there ∙ ap (with_state k c.args.asker p) c.ended.ensures.kernel);
      indexed = c.put_activity.ensures.indexed c.requires.indexed;
    }
