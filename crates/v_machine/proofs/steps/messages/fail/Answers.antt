use Rattle.std.proofs.Common.{sym, ap, arith, ◌∙◌}
use Rattle.std.proofs.lemmas.Grind.{common_steps}
use Rattle.vk_base.specs.Kernel.{is_live, with_state}
use Rattle.v_machine.specs.Kept.{kernel_in}
use Rattle.v_machine.specs.Places.{count_at}
use Rattle.v_machine.specs.Tables.{process_of}
use Rattle.v_machine.proofs.StepLemmas.{fail_allowed}
use Rattle.v_machine.proofs.steps.messages.fail.Goals as goal

pub returns : goal.returns
returns c =
    let k = kernel_in c.args.store.now in
    let place = c.in_ok-at.ensures.here.place in
    let there = c.proc.ensures c.args.pid place in
    let sent = c.sent_of.ensures c.args.pid place in
    let p = process_of c.proc.result.now (count_at c.args.store.now.sends.items c.in_ok-at.at)
    (count_at c.args.store.now.asked.items c.in_ok-at.at) in
    let e = c.in_ok-sent.sent.now in
    record {
      effect = fail_allowed k _ c.args.pid p c.in_ok-_send._send e c.args.why c.in_ok-why.why there (grind arith)
          (grind (arith, common_steps)) (grind (arith, common_steps))
          (sym (c.failure.ensures k e (sym (c.is_live.ensures ∙ ap (λ t. is_live (k.procs t)) c.at.ensures)))
          ∙ c.in_ok-why.was)
          (c.put_activity.ensures.kernel c.args.pid p place there ∙ ap (with_state k c.args.pid p) c.ended.ensures.kernel);
      indexed = c.put_activity.ensures.indexed c.requires.indexed;
    }
