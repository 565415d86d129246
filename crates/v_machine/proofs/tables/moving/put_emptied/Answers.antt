use Rattle.std.proofs.Common.{refl}
use Rattle.v_machine.specs.Sends.{given_back}
use Rattle.v_machine.proofs.MoveLemmas.{puts}
use Rattle.v_machine.proofs.tables.moving.put_emptied.Goals as goal

pub returns : goal.returns
returns c = puts c.args.store.now (given_back c.args.from c.args.to) c.args.at c.args.number c.index_mut.result.now
    c.give_back.new.sends (λ e. refl) (λ e. refl) (λ e. refl) c.requires.low c.index_mut.ensures.value c.give_back.ensures
