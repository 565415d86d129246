use Rattle.std.proofs.Common.{refl}
use Rattle.v_machine.specs.Sends.{with_opened}
use Rattle.v_machine.proofs.MoveLemmas.{puts}
use Rattle.v_machine.proofs.tables.moving.put_open.Goals as goal

pub returns : goal.returns
returns c = puts c.args.store.now (with_opened c.args.moving c.args.noted) c.args.at c.args.number c.index_mut.result.now
    c.open_move.new.sends (λ e. refl) (λ e. refl) (λ e. refl) c.requires c.index_mut.ensures.value c.open_move.ensures
