use Rattle.std.proofs.Common.{ℕ, ◌+◌, ◌-◌, ◌≤◌, length, ap, arith}
use Rattle.std.proofs.Math.ListN.{length-set}
use Rattle.vk_packet.specs.Posts.{Posts}
use Rattle.vk_packet.specs.Slots.{SlotValue}
use Rattle.vk_packet.proofs.Placing.{fronts_put, made_length, made_posts, made_some, some_same}
use Rattle.vk_packet.proofs.outbox.Outbox.put_front.Goals as goal

pub invariant_of-self : goal.invariant_of-self
invariant_of-self c =
    let s = c.self.inside in
    let at = c.args.at in
    let new = c.put_front.new.self in
    let made = c.make_slots.new.slots.items in
    let more : ℕ = at + 1 - length s.slots.items in
    let room = ap (λ (o : Posts). o.room) c.self.view_is in
    let asked = c.requires in
    let fits = c.self.invariant.1 in
    let taken = c.self.invariant.2 in
    let size = made_length more s.slots.items made c.make_slots.ensures.items in
    let same = c.make_slots.ensures.capacity in
    let low = c.self.invariant.0 in (
      omega (arith, length-set made at new),
      omega (arith, length-set made at new),
      omega arith,
      c.self.invariant.3,
      some_same made s.used at c.index_mut-slot.result.now new (omega arith) c.index_mut-slot.ensures.value
          (ap (λ (t : SlotValue). t.packet) c.put_front.ensures)
          (made_some s.used more s.slots.items made c.make_slots.ensures.items low c.self.invariant.4),
    )

pub returns : goal.returns
returns c =
    let s = c.self.inside in
    let made = c.make_slots.new.slots.items in
    let more : ℕ = c.args.at + 1 - length s.slots.items in
    let room = ap (λ (o : Posts). o.room) c.self.view_is in
    let asked = c.requires in
    let fits : length s.slots.items + more ≤ s.room = let few = c.self.invariant.1 in omega arith in
    let size = made_length more s.slots.items made c.make_slots.ensures.items in
    fronts_put s.room made s.used c.args.at c.index_mut-slot.result.now c.put_front.new.self c.args.front.now c.args.self.now (omega arith)
    c.index_mut-slot.ensures.value c.put_front.ensures
    (made_posts s.room s.used more s.slots.items made c.args.self.now c.make_slots.ensures.items c.self.invariant.0 fits c.self.view_is)
