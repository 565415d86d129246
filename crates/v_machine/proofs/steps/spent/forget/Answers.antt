use Rattle.std.proofs.Common.{refl}
use Rattle.v_machine.proofs.Forgetting.{shortened}
use Rattle.v_machine.proofs.steps.spent.forget.Goals as goal

pub returns : goal.returns
returns c = shortened c.args.store.now _ c.args.pid c.in-Some.at c.index_mut.result.now c.forget.new.self c.in-Some.ensures.here
    c.index_mut.ensures.value refl refl refl refl refl refl refl refl c.forget.ensures c.requires
