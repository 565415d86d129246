use Rattle.std.proofs.Common.{refl}
use Rattle.std.proofs.lemmas.Result.{on_ok_weaker, on_err_weaker}
use Rattle.v_machine.specs.Sends.{with_begun}
use Rattle.v_machine.proofs.MoveLemmas.{puts, stays_itself}
use Rattle.v_machine.proofs.Live.{live_there}
use Rattle.v_machine.proofs.tables.moving.push_move.Goals as goal

pub returns-clause-ok : goal.returns-clause-ok
returns-clause-ok c = on_ok_weaker c.push_move.result
    (λ is. puts c.args.store.now (with_begun c.args.begun) c.args.at c.args.number c.index_mut.result.now c.push_move.new.sends (λ e. refl) (λ e. refl)
    (λ e. refl) c.requires.low c.index_mut.ensures.value is) c.push_move.ensures.ok

pub returns-clause-err : goal.returns-clause-err
returns-clause-err c = on_err_weaker c.push_move.result
    (stays_itself c.args.store.now c.args.at c.index_mut.result.now c.push_move.new.sends c.index_mut.ensures.value) c.push_move.ensures.err

pub push_move-requires : goal.push_move-requires
push_move-requires c = live_there c.args.store.now c.args.at c.args.number c.index_mut.result.now c.requires.low c.index_mut.ensures.value
    c.requires.live
