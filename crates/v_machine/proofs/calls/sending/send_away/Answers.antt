use Rattle.std.proofs.Common.{◌≡◌, ◌+◌, [], ◌∷◌, ◌++◌, length, set, not, is_some, Option, Some, false, refl, sym, ap, ◌∙◌, arith, lit≤, length-append}
use Rattle.std.proofs.lemmas.Bool.{cond-false, and_left}
use Rattle.vk_types.specs.Types.{Exchange, Process, Refusal}
use Rattle.vk_base.specs.declared.call.Call.TheVariants as calls
use Rattle.vk_base.specs.declared.kernel.Stage.TheVariants as stages
use Rattle.vk_base.specs.declared.kernel.State.TheVariants as states
use Rattle.vk_base.specs.Calls.{called, unseen, sent_exchange}
use Rattle.vk_base.specs.Kernel.{Kernel, name_of, with_state, is_live}
use Rattle.vk_base.specs.Pids.{same_host}
use Rattle.v_machine.specs.Kept.{kernel_in}
use Rattle.v_machine.specs.Rules.{posted}
use Rattle.v_machine.proofs.Indexes.{list_at_is}
use Rattle.v_machine.proofs.KernelLemmas.{set_self, count_pushed, exchanges-pushed, kernel-pushed}
use Rattle.v_machine.proofs.SendLemmas.{stays_alike, sent_is, posted_there, send_tests, indexed_away}
use Rattle.v_machine.proofs.Stores.{is_error}
use Rattle.v_machine.proofs.calls.sending.send_away.Goals as goal

pub returns-in_err-push : goal.returns-in_err-push
returns-in_err-push c = λ fits p there ready.
    let s = c.args.store.now in
    let k = kernel_in s in
    let pid = c.args.caller.pid in
    let call = calls.Send c.args.target c.args.message.now in
    let passes = send_tests k pid p c.args.target c.args.message.now (fits p there)
    (and_left (same_host pid c.args.target) (not (is_live (k.procs c.args.target))) c.requires.away) in
    let sends = ap (set s.sends.items c.args.caller.at) c.in_err-push.ensures.err
    ∙ set_self s.sends.items c.args.caller.at c.index_mut.result.now c.index_mut.ensures.value in
    rw (is_error c.from_residual-in_err-push.result _ c.from_residual-in_err-push.ensures.1) (
      ap (λ (o : Option Refusal). is_some (called k pid p call o)) passes,
      lit≤ tt,
      stays_alike s _ refl refl sends refl refl refl refl refl (λ q h. refl) c.requires.kept.indexed,
    )

pub returns : goal.returns
returns c = λ fits p there ready.
    let s = c.args.store.now in
    let k = kernel_in s in
    let pid = c.args.caller.pid in
    let at = c.args.caller.at in
    let here = c.requires.here in
    let x = c.in_ok-sent.sent in
    let call = calls.Send c.args.target c.args.message.now in
    let grown : Process = record p { sends = p.sends + 1 } in
    let s0 = c.index_mut.result.now in
    let pushed = c.in_ok-push.ensures.ok in
    let value = c.in_ok-sent.ensures.value pid p here.place there (fits p there) in
    let target : x.target ≡ c.args.target = ap (λ (e : Exchange). e.target) value in
    let away : same_host pid x.target ≡ false = ap (same_host pid) target ∙ c.requires.away in
    let counted = count_pushed s.places s.procs.items s.sends.items s.asked.items pid at p c.in_ok-sent.sent s0 c.push.new.self here.place
    here.procs here.sends c.index_mut.ensures.value pushed there in
    let exchanges = exchanges-pushed s.places s.procs.items s.sends.items s.asked.items pid at p c.in_ok-sent.sent s0 c.push.new.self
    here.place here.procs here.sends c.index_mut.ensures.value pushed there in
    let begun =
    kernel-pushed s.places s.procs.items s.sends.items s.asked.items pid at p c.in_ok-sent.sent s0 c.push.new.self here.place here.procs
    here.sends c.index_mut.ensures.value pushed there s.names.items s.arrived s.arrived
    ∙ ap (λ a. record (posted k pid p x) { arrived = a })
    (sym (cond-false (same_host pid x.target) (s.arrived ++ name_of pid (p.sends + 1) ∷ []) s.arrived away)) in
    let length_now : length c.push.new.self ≡ p.sends + 1 = ap length pushed ∙ length-append s0 (c.in_ok-sent.sent ∷ []) ∙ sym counted in
    let mine = ap length (list_at_is s.places s.sends.items pid at s0 here.place here.sends c.index_mut.ensures.value) in
    let indexed = indexed_away s pid at p x c.requires.kept here away (ap (λ (e : Exchange). e.stage) value) there _ c.push.new.self refl
    refl refl refl length_now (omega (arith, mine, counted)) exchanges refl refl refl in
    let made : x ≡ sent_exchange pid p c.args.target c.args.message.now =
    value ∙ (λ i. record (sent_exchange pid p c.args.target c.args.message.now)
    { stage = sym (cond-false (same_host pid c.args.target) stages.Queued stages.Posted c.requires.away) i }) in
    let now = ap (λ (z : Kernel). z.procs pid) begun ∙ posted_there k pid p x in
    let kernel = c.put_activity.ensures.kernel pid grown here.place now ∙ ap (λ z. with_state z pid grown (states.Blocked call)) begun
    ∙ sent_is k pid p c.args.target c.args.message.now x made in (
      record {
        effect = ap (λ (o : Option Refusal). called k pid p call o)
            (send_tests k pid p c.args.target c.args.message.now (fits p there)
            (and_left (same_host pid c.args.target) (not (is_live (k.procs c.args.target))) c.requires.away))
            ∙ ap (λ z. Some (unseen z)) (sym kernel);
        indexed = c.put_activity.ensures.indexed indexed;
      },
      lit≤ tt,
    )
