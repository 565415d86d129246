use Rattle.vk_cluster.proofs.Rooms.{pushed_items}
use Rattle.vk_cluster.proofs.emitted.push_event.Goals as goal

pub returns : goal.returns
returns c =
    pushed_items c.args.events.now.items c.args.place c.index_mut.result.now c.push_span.new.spans c.args.span c.index_mut.ensures.value
    c.requires.place c.push_span.ensures
