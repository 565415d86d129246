use Rattle.std.proofs.Common.{◌≡◌, true, Option, is_some, refl, ap, ◌∙◌, lit≤}
use Rattle.vk_types.specs.Types.{Refusal}
use Rattle.vk_base.specs.declared.call.Call.TheVariants as calls
use Rattle.vk_base.specs.declared.kernel.Stage.TheVariants as stages
use Rattle.vk_base.specs.Calls.{called}
use Rattle.vk_base.specs.Kernel.{name_of, with_stage}
use Rattle.vk_base.specs.Ranges.{range_of, bytes_in}
use Rattle.v_laws.proofs.Held.{holding_is}
use Rattle.v_machine.specs.declared.calls.access.SegmentAccess.{SegmentAccess}
use Rattle.v_machine.specs.Kept.{kernel_in}
use Rattle.v_machine.proofs.Accessing.{ranges_lie}
use Rattle.v_machine.proofs.Stores.{process_at, is_error}
use Rattle.v_machine.proofs.StepLemmas.{reply_allowed, replied_is_nearer}
use Rattle.v_machine.proofs.Live.{live_held}
use Rattle.v_machine.proofs.calls.replies.reply_segment.Goals as goal

pub put_answer_with-requires-clause-low : goal.put_answer_with-requires-clause-low
put_answer_with-requires-clause-low c =
    let p = process_at c.args.store.now c.args.pid c.args.at c.requires.here in
    (c.in-Ok.ensures p.0 p.1).2.sends

pub returns-in_err-put_answer_with : goal.returns-in_err-put_answer_with
returns-in_err-put_answer_with c = λ p there ready.
    let k = kernel_in c.args.store.now in
    let r = c.args.reply in
    let number = c.in-Ok.holding.number in
    let ok = c.in-Ok.ensures p there in
    let x = holding_is k c.args.pid r.to number ok.1 in
    let call = calls.ReplySegment r.message r.to r.dest r.src r.count in
    let bytes = bytes_in (range_of r.src r.count) p.memory in
    let stage = stages.Replied r.message r.dest bytes in
    rw (is_error c.from_residual-in_err-put_answer_with.result _ c.from_residual-in_err-put_answer_with.ensures.1) (
      ap is_some (ap (λ (o : Option Refusal). called k c.args.pid p call o) ok.0
          ∙ reply_allowed k (with_stage k (name_of r.to number) x.exchange stage) c.args.pid r.to call r.message r.dest number bytes
          x.exchange ok.1 x.is refl),
      lit≤ tt,
      c.in_err-put_answer_with.ensures.err c.requires.kept.indexed,
    )

pub returns : goal.returns
returns c = λ p there ready.
    let k = kernel_in c.args.store.now in
    let r = c.args.reply in
    let h = c.in-Ok.holding in
    let ok = c.in-Ok.ensures p there in
    let x = holding_is k c.args.pid r.to h.number ok.1 in
    let call = calls.ReplySegment r.message r.to r.dest r.src r.count in
    let a : SegmentAccess =
    record { partner = r.to; limit = 512; write = true; granted = range_of r.dest r.count; own = range_of r.src r.count } in
    let lies = ranges_lie k c.args.pid p a h.number x.exchange ok.1 x.is ok.0 in
    let bytes : c.in_ok-bytes.bytes ≡ bytes_in (range_of r.src r.count) p.memory =
    c.in_ok-bytes.ensures c.args.pid p c.requires.here.place there lies.1 in (
      record {
        effect =
            ap (λ (o : Option Refusal). called k c.args.pid p call o) ok.0
            ∙ reply_allowed k _ c.args.pid r.to call r.message r.dest h.number (bytes_in (range_of r.src r.count) p.memory) x.exchange ok.1
            x.is
            (c.in_ok-put_answer_with.ensures.kernel r.to x.exchange ok.2.place x.is
            ∙ ap (λ b. with_stage k (name_of r.to h.number) x.exchange (stages.Replied r.message r.dest b)) bytes);
        indexed =
            c.in_ok-put_answer_with.ensures.indexed r.to x.exchange ok.2.place x.is (replied_is_nearer x.exchange.stage _ _ _) c.requires.kept.indexed;
      },
      lit≤ tt,
    )

pub put_answer_with-requires-clause-live : goal.put_answer_with-requires-clause-live
put_answer_with-requires-clause-live c =
    let p = process_at c.args.store.now c.args.pid c.args.at c.requires.here in
    let ok = c.in-Ok.ensures p.0 p.1 in
    live_held c.args.store.now c.args.pid c.args.reply.to c.in-Ok.holding.number c.in-Ok.holding.at ok.1 ok.2.place
