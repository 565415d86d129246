use Rattle.vk_procs.proofs.Followed.{turned_at}
use Rattle.vk_procs.proofs.deadlines.Deadlines.turn_to.Goals as goal

pub returns : goal.returns
returns c = turned_at c.args.self.now c.args.now _ _ c.noted_at-noted.ensures c.place_of-place.ensures
