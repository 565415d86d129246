use Rattle.std.proofs.Common.{refl, [], length-set}
use Rattle.vk_base.specs.declared.kernel.Stage.TheVariants as stages
use Rattle.v_machine.specs.Sends.{at_stage}
use Rattle.v_machine.proofs.Indexes.{indexed_later, put_no_nearer}
use Rattle.v_machine.proofs.KernelLemmas.{kernel-exchange, exchanges-change, sends_even}
use Rattle.v_machine.proofs.Live.{live_there}
use Rattle.v_machine.proofs.tables.put.put_answer.Goals as goal

pub returns-clause-kernel : goal.returns-clause-kernel
returns-clause-kernel c = λ pid e is there.
    kernel-exchange _ _ _ _ _ _ (at_stage (stages.Replied c.args.message 0 [])) pid c.args.at c.args.number c.index_mut.result.now
    c.answer.new.sends e is c.requires.low c.index_mut.ensures.value there c.answer.ensures

pub returns-clause-indexed : goal.returns-clause-indexed
returns-clause-indexed c = λ pid e is there less old.
    let change = at_stage (stages.Replied c.args.message 0 []) in
    indexed_later c.args.store.now _ refl refl (length-set c.args.store.now.sends.items c.args.at c.answer.new.sends) refl refl refl refl
    (sends_even c.args.store.now.places c.args.store.now.procs.items c.args.store.now.sends.items c.args.store.now.asked.items
    change c.args.at c.args.number c.index_mut.result.now c.answer.new.sends c.requires.low c.index_mut.ensures.value
    c.answer.ensures)
    (put_no_nearer _ _ _ e _ there
    (exchanges-change _ c.args.store.now.procs.items _ c.args.store.now.asked.items change pid c.args.at c.args.number
    c.index_mut.result.now c.answer.new.sends e is c.requires.low c.index_mut.ensures.value there c.answer.ensures)
    refl refl less)
    old

pub answer-requires : goal.answer-requires
answer-requires c = live_there c.args.store.now c.args.at c.args.number c.index_mut.result.now c.requires.low c.index_mut.ensures.value
    c.requires.live
