use Rattle.std.proofs.Common.{◌+◌, length, ap, arith}
use Rattle.std.proofs.lemmas.Bool.{le-leb, lt-leb}
use Rattle.vk_base.specs.Ranges.{with_bytes}
use Rattle.v_machine.specs.Places.{count_at}
use Rattle.v_machine.specs.Tables.{process_of}
use Rattle.v_machine.proofs.KernelLemmas.{kernel-process, memory_is}
use Rattle.v_machine.proofs.tables.put.put_bytes.Goals as goal

pub returns-in-Ok-clause-fits : goal.returns-in-Ok-clause-fits
returns-in-Ok-clause-fits c = λ pid p is there.
    let size = memory_is _ _ _ _ pid c.args.at c.index_mut.result.now p is c.requires c.index_mut.ensures.value there in
    let fits = c.in-Ok.ensures.ok.0 in
    le-leb (c.args.start + length c.args.bytes.now) (length p.memory) (omega (arith, fits, size))

pub returns-in-Err-clause-fits : goal.returns-in-Err-clause-fits
returns-in-Err-clause-fits c = λ pid p is there.
    let size = memory_is _ _ _ _ pid c.args.at c.index_mut.result.now p is c.requires c.index_mut.ensures.value there in
    let short = c.in-Err.ensures.err.0 in
    lt-leb (c.args.start + length c.args.bytes.now) (length p.memory) (omega (arith, short, size))

pub returns-in-Ok-clause-kernel : goal.returns-in-Ok-clause-kernel
returns-in-Ok-clause-kernel c = λ pid p is there.
    kernel-process _ _ _ _ _ _ (λ q. record q { memory = with_bytes q.memory c.args.start c.args.bytes.now }) pid c.args.at
    c.index_mut.result.now _ p is c.requires c.index_mut.ensures.value there
    (ap (λ m. process_of (record c.index_mut.result.now { memory = m }) (count_at c.args.store.now.sends.items c.args.at)
    (count_at c.args.store.now.asked.items c.args.at)) c.in-Ok.ensures.ok.1)
