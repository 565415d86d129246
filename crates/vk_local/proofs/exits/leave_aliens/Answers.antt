use Rattle.std.proofs.Common.{◌≡◌, ◌∙◌, ap, arith}
use Rattle.vk_packet.specs.Posts.{Posts}
use Rattle.vk_local.proofs.Leaving.{left_all, left_first, left_more, next_slot}
use Rattle.vk_local.proofs.exits.leave_aliens.Goals as goal

pub loop-slot-init : goal.loop-slot-init
loop-slot-init c = left_first c.args.pid c.args.now c.args.aliens.now c.args.out.now

pub loop-slot-preserved : goal.loop-slot-preserved
loop-slot-preserved c =
    left_more c.args.pid c.args.now c.loop-slot.slot c.args.aliens.now c.loop-slot.aliens c.leave_slot.new.aliens
    c.args.out.now c.loop-slot.out c.leave_slot.new.out c.loop-slot.invariant c.leave_slot.ensures.slots c.leave_slot.ensures.packets

pub leave_slot-requires-clause-number : goal.leave_slot-requires-clause-number
leave_slot-requires-clause-number c = λ a at.
    c.requires.numbers c.loop-slot.slot a
    (next_slot c.args.pid c.args.now c.loop-slot.slot c.args.aliens.now c.loop-slot.aliens c.args.out.now c.loop-slot.out
    c.loop-slot.invariant ∙ at)

pub leave_slot-requires-clause-room : goal.leave_slot-requires-clause-room
leave_slot-requires-clause-room c =
    let room : c.loop-slot.out.room ≡ c.args.out.now.room = ap (λ (p : Posts). p.room) c.loop-slot.invariant.packets in
    omega (arith, room, c.loop-slot.invariant.few, c.requires.room, c.loop-slot-test.true)

pub returns : goal.returns
returns c =
    let all = left_all c.args.pid c.args.now c.loop-slot.slot c.args.aliens.now c.loop-slot.aliens c.args.out.now c.loop-slot.out
    (omega (arith, c.requires.few, c.loop-slot-test.false)) c.loop-slot.invariant in
    record { slots = all.0; packets = all.1 }
