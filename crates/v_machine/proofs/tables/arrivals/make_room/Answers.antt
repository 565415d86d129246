use Rattle.std.proofs.Common.{refl, length-set}
use Rattle.v_machine.proofs.SendLemmas.{latest-same, stays_alike}
use Rattle.v_machine.proofs.tables.arrivals.make_room.Goals as goal

pub returns-clause-stays : goal.returns-clause-stays
returns-clause-stays c =
    let s = c.args.store.now in
    stays_alike s _ refl refl refl refl refl refl refl (length-set s.latest.items c.args.at c.make_room.new.self)
    (latest-same s.places s.latest.items c.args.at c.index_mut.result.now c.make_room.new.self c.requires.low c.index_mut.ensures.value
    c.make_room.ensures.same) c.requires.indexed
