use Rattle.vk_threads.proofs.Dealing.{taken_out}
use Rattle.vk_threads.proofs.deal.take_seat.Goals as goal

pub returns : goal.returns
returns c =
    taken_out c.args.spares.now.items c.remove-seat.new.self.items c.as_slice.result.now c.place_of-at.result c.args.host c.remove-seat.result
    c.as_slice.ensures.value c.place_of-at.ensures.below c.place_of-at.ensures.at c.remove-seat.ensures.value c.remove-seat.ensures.items
