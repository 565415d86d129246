use Rattle.std.proofs.Common.{ℕ, ◌+◌, ◌-◌, ◌≤◌, length, ap, arith}
use Rattle.std.proofs.Math.ListN.{length-set}
use Rattle.vk_packet.specs.Posts.{Posts}
use Rattle.vk_packet.proofs.Placing.{made_length, made_posts, made_some, posts_more, some_more, used_count}
use Rattle.vk_packet.proofs.outbox.Outbox.post.Goals as goal

pub invariant_of-self : goal.invariant_of-self
invariant_of-self c =
    let s = c.self.inside in
    let made = c.make_slots.new.slots.items in
    let more : ℕ = s.used + 1 - length s.slots.items in
    let room = ap (λ (o : Posts). o.room) c.self.view_is in
    let count = used_count s.room s.used s.slots.items c.args.self.now c.self.invariant.0 c.self.view_is in
    let asked = c.requires.room in
    let fits = c.self.invariant.1 in
    let taken = c.self.invariant.2 in
    let size = made_length more s.slots.items made c.make_slots.ensures.items in
    let same = c.make_slots.ensures.capacity in
    let low = c.self.invariant.0 in (
      omega (arith, length-set made s.used c.fill.new.self),
      omega (arith, length-set made s.used c.fill.new.self),
      omega arith,
      c.self.invariant.3,
      some_more made s.used c.fill.new.self (omega arith) c.fill.ensures.some
          (made_some s.used more s.slots.items made c.make_slots.ensures.items low c.self.invariant.4),
    )

pub returns : goal.returns
returns c =
    let s = c.self.inside in
    let made = c.make_slots.new.slots.items in
    let more : ℕ = s.used + 1 - length s.slots.items in
    let room = ap (λ (o : Posts). o.room) c.self.view_is in
    let count = used_count s.room s.used s.slots.items c.args.self.now c.self.invariant.0 c.self.view_is in
    let asked = c.requires.room in
    let fits : length s.slots.items + more ≤ s.room = let few = c.self.invariant.1 in omega arith in
    let size = made_length more s.slots.items made c.make_slots.ensures.items in
    posts_more s.room made s.used c.index_mut-slot.result.now c.fill.new.self c.args.to _ c.args.self.now (omega arith)
    c.index_mut-slot.ensures.value c.fill.ensures.value
    (made_posts s.room s.used more s.slots.items made c.args.self.now c.make_slots.ensures.items c.self.invariant.0 fits c.self.view_is)
