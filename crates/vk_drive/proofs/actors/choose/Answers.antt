use Rattle.vk_drive.proofs.Places.{next_at}
use Rattle.vk_drive.proofs.actors.choose.Goals as goal

pub returns : goal.returns
returns c hs are =
    next_at c.args.actors.now.items hs are c.args.place c.index_mut.result.now c.choose.new.self c.requires c.index_mut.ensures.value
    c.choose.new.next c.choose.ensures
