use Rattle.std.proofs.Common.{◌≡◌, Some, refl, arith, length-set}
use Rattle.std.proofs.lemmas.Grind.{common_steps}
use Rattle.vk_types.specs.Types.{Process}
use Rattle.vk_base.specs.declared.answer.Answer.TheVariants as answers
use Rattle.vk_base.specs.declared.call.Call.TheVariants as calls
use Rattle.vk_base.specs.declared.kernel.State.TheVariants as states
use Rattle.vk_base.specs.Kernel.{name_of, sending}
use Rattle.vk_base.specs.Ranges.{with_bytes}
use Rattle.vk_base.specs.Activities.{state_of}
use Rattle.v_machine.specs.Kept.{kernel_in}
use Rattle.v_machine.specs.Places.{count_at}
use Rattle.v_machine.specs.Tables.{exchanges_by, process_of}
use Rattle.v_machine.proofs.Fits.{reply_room}
use Rattle.v_machine.proofs.Indexes.{indexed_same}
use Rattle.v_machine.proofs.KernelLemmas.{kernel-process, sent_there, memory_is}
use Rattle.v_machine.proofs.StepLemmas.{finish_allowed, finish_not, replied_is}
use Rattle.v_machine.proofs.Stores.{stays}
use Rattle.v_machine.proofs.steps.messages.finish.Goals as goal

pub returns-in_err-message : goal.returns-in_err-message
returns-in_err-message c =
    let s = c.args.store.now in
    let here = c.in_ok-at.ensures.here in
    let there = c.proc.ensures c.args.pid here.place in
    let blocked : sending (state_of c.proc.result.now.activity) ≡ Some c.in_ok-send.send = grind arith in
    let named = sent_there s.places s.procs.items s.sends.items s.asked.items c.args.pid c.in_ok-at.at c.index.result.now
    (count_at s.sends.items c.in_ok-at.at) here.place here.sends c.index.ensures in
    let at : exchanges_by s.places s.sends.items (name_of c.args.pid (count_at s.sends.items c.in_ok-at.at)) ≡ Some
    (c.in_ok-sent.sent.now) = grind (arith, common_steps, named) in rw c.from_residual-in_err-message.ensures (
      finish_not (kernel_in s) c.args.pid _ c.in_ok-send.send _ there blocked at
          c.in_err-message.ensures.none,
      stays s c.requires.indexed,
    )

pub write_reply-requires : goal.write_reply-requires
write_reply-requires c =
    let s = c.args.store.now in
    let reply = c.in_ok-message in
    let x = c.index_mut-proc.result.now in
    let here = c.in_ok-at.ensures.here in
    let there = c.proc.ensures c.args.pid here.place in
    let named = sent_there s.places s.procs.items s.sends.items s.asked.items c.args.pid c.in_ok-at.at c.index.result.now
    (count_at s.sends.items c.in_ok-at.at) here.place here.sends c.index.ensures in
    let at : exchanges_by s.places s.sends.items (name_of c.args.pid (count_at s.sends.items c.in_ok-at.at)) ≡ Some
    (c.in_ok-sent.sent.now) = grind (arith, common_steps, named) in
    let same_size = memory_is s.places s.procs.items s.sends.items s.asked.items c.args.pid c.in_ok-at.at x _ here.place here.procs
    c.index_mut-proc.ensures.value there in
    let fits = reply_room c.requires.size (kernel_in s) c.args.pid _ (count_at s.sends.items c.in_ok-at.at) _ reply.message
    reply.dest reply.bytes.now c.requires.sized there at (replied_is _ _ _ _ reply.ensures.some) in omega (arith, fits, same_size)

pub returns : goal.returns
returns c =
    let s = c.args.store.now in
    let reply = c.in_ok-message in
    let replied = reply.ensures.some in
    let x = c.index_mut-proc.result.now in
    let here = c.in_ok-at.ensures.here in
    let there = c.proc.ensures c.args.pid here.place in
    let blocked : sending (state_of c.proc.result.now.activity) ≡ Some c.in_ok-send.send = grind arith in
    let named = sent_there s.places s.procs.items s.sends.items s.asked.items c.args.pid c.in_ok-at.at c.index.result.now
    (count_at s.sends.items c.in_ok-at.at) here.place here.sends c.index.ensures in
    let at : exchanges_by s.places s.sends.items (name_of c.args.pid (count_at s.sends.items c.in_ok-at.at)) ≡ Some
    (c.in_ok-sent.sent.now) = grind (arith, common_steps, named) in
    let into : Process → Process = λ q. record q {
      memory = with_bytes q.memory reply.dest reply.bytes.now;
      state = states.Done (calls.Send c.in_ok-send.send.0 c.in_ok-send.send.1) (answers.Replied reply.message);
    } in
    record {
      effect = finish_allowed (kernel_in s) _ c.args.pid _ c.in_ok-send.send _ reply.message reply.dest reply.bytes.now
          there blocked at replied
          (kernel-process s.places s.procs.items s.sends.items s.asked.items s.names.items s.arrived into c.args.pid c.in_ok-at.at x _
          _ here.place here.procs c.index_mut-proc.ensures.value there
          (λ i. record (process_of x (count_at s.sends.items c.in_ok-at.at) (count_at s.asked.items c.in_ok-at.at)) {
            memory = c.write_reply.ensures i;
            state = states.Done (calls.Send c.in_ok-send.send.0 c.in_ok-send.send.1) (answers.Replied reply.message);
          }));
      indexed = indexed_same s _ refl (length-set s.procs.items c.in_ok-at.at _) refl refl refl refl refl c.requires.indexed;
    }
