use Rattle.std.proofs.Common.{◌≡◌, true, Some, ap, arith, ◌∙◌}
use Rattle.std.proofs.lemmas.Grind.{common_steps}
use Rattle.std.specs.List.{list_any}
use Rattle.vk_base.specs.Kernel.{with_state, is_asking}
use Rattle.vk_base.specs.Pids.{same_pid}
use Rattle.vk_base.specs.Activities.{state_of}
use Rattle.v_machine.specs.Kept.{kernel_in}
use Rattle.v_machine.specs.Places.{count_at}
use Rattle.v_machine.specs.Tables.{process_of, lookups_by}
use Rattle.v_machine.proofs.Asking.{found_allowed}
use Rattle.v_machine.proofs.steps.lookups.found.Goals as goal

pub returns : goal.returns
returns c =
    let s = c.args.store.now in
    let k = kernel_in s in
    let place = c.in_ok-at.ensures.here.place in
    let there = c.proc.ensures c.args.asker place in
    let p = process_of c.proc.result.now (count_at s.sends.items c.in_ok-at.at) (count_at s.asked.items c.in_ok-at.at) in
    let asks : is_asking (state_of c.proc.result.now.activity) ≡ true = grind (arith, c.is_asking.ensures) in
    let named = c.lookup_of.ensures c.args.asker place in
    let at : lookups_by s.places s.asked.items c.args.asker (count_at s.asked.items c.in_ok-at.at) ≡ Some c.in_ok-lookup.lookup.now =
    grind (arith, common_steps, named) in
    let among : list_any (same_pid c.args.pid) c.in_ok-lookup.lookup.now.candidates ≡ true = grind (arith, c.is_candidate.ensures) in
    record {
      effect = found_allowed k _ c.args.asker c.args.pid p c.in_ok-lookup.lookup.now there asks at among
          (c.put_activity.ensures.kernel c.args.asker p place there ∙ ap (with_state k c.args.asker p) c.ended.ensures.kernel);
      indexed = c.put_activity.ensures.indexed c.requires.indexed;
    }
