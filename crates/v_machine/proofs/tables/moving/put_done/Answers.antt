use Rattle.std.proofs.Common.{refl}
use Rattle.v_machine.specs.Sends.{with_written}
use Rattle.v_machine.proofs.MoveLemmas.{puts}
use Rattle.v_machine.proofs.tables.moving.put_done.Goals as goal

pub returns : goal.returns
returns c = puts c.args.store.now (with_written c.args.done) c.args.at c.args.number c.index_mut.result.now c.put_done.new.sends (λ e. refl) (λ e. refl)
    (λ e. refl) c.requires c.index_mut.ensures.value c.put_done.ensures
