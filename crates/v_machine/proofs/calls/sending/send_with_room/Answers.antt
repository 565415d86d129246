use Rattle.std.proofs.Common.{◌≡◌, ◌+◌, ◌<◌, not, Option, Some, sym, ap, subst, ◌∙◌, lit≤}
use Rattle.std.proofs.lemmas.Bool.{cond-true, and_right}
use Rattle.vk_types.specs.Types.{Process, Refusal}
use Rattle.vk_base.specs.declared.call.Call.TheVariants as calls
use Rattle.vk_base.specs.declared.kernel.Stage.TheVariants as stages
use Rattle.vk_base.specs.declared.kernel.State.TheVariants as states
use Rattle.vk_base.specs.Calls.{called, unseen, sent_exchange}
use Rattle.vk_base.specs.Kernel.{Kernel, with_state, is_live}
use Rattle.vk_base.specs.Pids.{same_host}
use Rattle.v_machine.specs.Kept.{kernel_in}
use Rattle.v_machine.specs.Places.{place_in}
use Rattle.v_machine.proofs.SendLemmas.{sent_is, posted_there, send_tests}
use Rattle.v_machine.proofs.calls.sending.send_with_room.Goals as goal

pub put_activity-requires : goal.put_activity-requires
put_activity-requires c = subst (λ n. c.args.caller.at < n) (sym c.post_here.ensures.procs) c.requires.here.procs

pub returns : goal.returns
returns c = λ fits p there ready.
    let s = c.args.store.now in
    let k = kernel_in s in
    let pid = c.args.caller.pid in
    let x = c.in_ok-sent.sent in
    let call = calls.Send c.args.target c.args.message.now in
    let grown : Process = record p { sends = p.sends + 1 } in
    let done = c.in_ok-post_here.ensures.ok p there ready in
    let made : x ≡ sent_exchange pid p c.args.target c.args.message.now =
    c.in_ok-sent.ensures.value pid p c.requires.here.place there (fits p there)
    ∙ (λ i. record (sent_exchange pid p c.args.target c.args.message.now)
    { stage = sym (cond-true (same_host pid c.args.target) stages.Queued stages.Posted c.requires.local) i }) in
    let place = ap (λ ps. place_in ps pid) c.post_here.ensures.places ∙ c.requires.here.place in
    let now = ap (λ (z : Kernel). z.procs pid) done.0 ∙ posted_there k pid p x in
    let kernel = c.put_activity.ensures.kernel pid grown place now ∙ ap (λ z. with_state z pid grown (states.Blocked call)) done.0
    ∙ sent_is k pid p c.args.target c.args.message.now x made in (
      record {
        effect = ap (λ (o : Option Refusal). called k pid p call o)
            (send_tests k pid p c.args.target c.args.message.now (fits p there)
            (and_right (same_host pid c.args.target) (not (is_live (k.procs c.args.target))) (ap not c.requires.live)))
            ∙ ap (λ z. Some (unseen z)) (sym kernel);
        indexed = c.put_activity.ensures.indexed done.1;
      },
      lit≤ tt,
    )
