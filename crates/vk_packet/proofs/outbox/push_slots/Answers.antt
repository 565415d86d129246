use Rattle.std.proofs.Common.{◌≡◌, ◌+◌, ◌-◌, ◌++◌, length, replicate, ap, ◌∙◌, arith}
use Rattle.vk_packet.specs.Slots.{empty_slot}
use Rattle.vk_packet.proofs.outbox.push_slots.Goals as goal

pub returns-clause-items : goal.returns-clause-items
returns-clause-items c =
    let before = c.args.slots.now.items in
    let most = c.loop-made.invariant.most in
    let all : c.loop-made._made - length before ≡ c.args.at + 1 - length before = omega arith in
    c.loop-made.invariant.items ∙ ap (λ n. before ++ replicate n empty_slot) all
