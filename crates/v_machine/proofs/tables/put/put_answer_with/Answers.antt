use Rattle.std.proofs.Common.{refl, length-set}
use Rattle.std.proofs.lemmas.Result.{on_ok_weaker, on_err_weaker}
use Rattle.vk_base.specs.declared.kernel.Stage.TheVariants as stages
use Rattle.v_machine.specs.Sends.{at_stage}
use Rattle.v_machine.proofs.Indexes.{indexed_later, put_no_nearer}
use Rattle.v_machine.proofs.KernelLemmas.{kernel-exchange, exchanges-change, sends_even}
use Rattle.v_machine.proofs.MoveLemmas.{stays_itself}
use Rattle.v_machine.proofs.Live.{live_there}
use Rattle.v_machine.proofs.tables.put.put_answer_with.Goals as goal

pub returns-clause-kernel : goal.returns-clause-kernel
returns-clause-kernel c = on_ok_weaker c.answer_with.result
    (λ put. λ pid e is there.
    kernel-exchange _ _ _ _ _ _ (at_stage (stages.Replied c.args.reply.message c.args.reply.dest c.args.reply.bytes)) pid c.args.at c.args.number
    c.index_mut.result.now c.answer_with.new.sends e is c.requires.low c.index_mut.ensures.value there put)
    c.answer_with.ensures.ok

pub returns-clause-indexed : goal.returns-clause-indexed
returns-clause-indexed c = on_ok_weaker c.answer_with.result
    (λ put. λ pid e is there less old.
    let change = at_stage (stages.Replied c.args.reply.message c.args.reply.dest c.args.reply.bytes) in
    indexed_later c.args.store.now _ refl refl (length-set c.args.store.now.sends.items c.args.at c.answer_with.new.sends) refl refl refl
    refl
    (sends_even c.args.store.now.places c.args.store.now.procs.items c.args.store.now.sends.items c.args.store.now.asked.items
    change c.args.at c.args.number c.index_mut.result.now c.answer_with.new.sends c.requires.low c.index_mut.ensures.value put)
    (put_no_nearer _ _ _ e _ there
    (exchanges-change _ c.args.store.now.procs.items _ c.args.store.now.asked.items change pid c.args.at c.args.number
    c.index_mut.result.now c.answer_with.new.sends e is c.requires.low c.index_mut.ensures.value there put)
    refl refl less)
    old)
    c.answer_with.ensures.ok

pub returns-clause-err : goal.returns-clause-err
returns-clause-err c = on_err_weaker c.answer_with.result
    (stays_itself c.args.store.now c.args.at c.index_mut.result.now c.answer_with.new.sends c.index_mut.ensures.value)
    c.answer_with.ensures.err

pub answer_with-requires : goal.answer_with-requires
answer_with-requires c = live_there c.args.store.now c.args.at c.args.number c.index_mut.result.now c.requires.low c.index_mut.ensures.value
    c.requires.live
