use Rattle.vk_cluster.proofs.Rooms.{same_items}
use Rattle.vk_cluster.proofs.emitted.room_for_event.Goals as goal

pub returns-clause-same : goal.returns-clause-same
returns-clause-same c =
    same_items c.args.events.now.items c.args.place c.index_mut.result.now c.reserve_one.new.spans c.index_mut.ensures.value
    c.reserve_one.ensures.same
