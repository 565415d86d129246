use Rattle.std.proofs.Common.{arith, subst}
use Rattle.std.proofs.lemmas.List.{take_all}
use Rattle.v_machine.specs.Initial.{IsInitial}
use Rattle.v_machine.proofs.InitialLemmas.{kernel_at_first, indexed_at_first}
use Rattle.v_machine.proofs.tables.initial.initial_store.Goals as goal

pub returns-clause-kernel : goal.returns-clause-kernel
returns-clause-kernel c =
    let filled : IsInitial c.args.specs.now c.loop-spec.store = subst (λ specs. IsInitial specs c.loop-spec.store)
    (take_all c.loop-spec.spec-index c.args.specs.now (omega arith)) c.loop-spec.invariant.filled in
    kernel_at_first c.loop-spec.store c.args.specs.now c.loop-spec.invariant.places filled

pub returns-clause-indexed : goal.returns-clause-indexed
returns-clause-indexed c =
    let filled : IsInitial c.args.specs.now c.loop-spec.store = subst (λ specs. IsInitial specs c.loop-spec.store)
    (take_all c.loop-spec.spec-index c.args.specs.now (omega arith)) c.loop-spec.invariant.filled in
    indexed_at_first c.loop-spec.store c.args.specs.now c.loop-spec.invariant.places filled
