use Rattle.std.proofs.Common.{◌≡◌, ◌≤◌, ◌+◌, ◌-◌, ◌++◌, length, replicate, vec_capacity}
use Rattle.vk_packet.specs.Slots.{empty_slot}
use Rattle.vk_packet.proofs.outbox.push_slots.Given as goal

abbrev pub invariant-loop-made : goal.invariant-loop-made
invariant-loop-made l = record {
  items : l.slots.items ≡ l.initial.slots.items ++ replicate (l._made - length l.initial.slots.items) empty_slot;
  capacity : vec_capacity l.slots ≡ vec_capacity l.initial.slots;
  most : l._made - length l.initial.slots.items ≤ l.at + 1 - length l.initial.slots.items;
}
