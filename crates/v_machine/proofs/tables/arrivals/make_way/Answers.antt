use Rattle.std.proofs.Common.{get_or, set, refl, ap, ◌∙◌}
use Rattle.v_machine.proofs.Forwarding.{way_stays, way_absent}
use Rattle.v_machine.proofs.tables.arrivals.make_way.Goals as goal

pub returns-clause-stays : goal.returns-clause-stays
returns-clause-stays c = λ pid indexed here idle.
    let s = c.args.store.now in
    way_stays s _ pid c.args.to c.args.name c.index_mut.result.now here c.index_mut.ensures.value refl refl refl refl refl
    refl (ap (set s.queues.items c.args.to) c.remove.ensures) refl idle indexed

pub returns-clause-way : goal.returns-clause-way
returns-clause-way c = λ ns is.
    let s = c.args.store.now in
    way_absent s.queues.items c.args.to c.args.name c.index_mut.result.now ns c.requires
    (is ∙ ap (λ q. get_or (set s.queues.items c.args.to q) c.args.to ns) c.remove.ensures)
