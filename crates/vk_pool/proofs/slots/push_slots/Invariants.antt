use Rattle.std.proofs.Common.{◌≡◌, ◌≤◌, ◌+◌, ◌-◌, ◌++◌, length, map, replicate, vec_capacity, None}
use Rattle.vk_pool.specs.Kept.{shown}
use Rattle.vk_pool.proofs.slots.push_slots.Given as goal

abbrev pub invariant-loop-made : goal.invariant-loop-made
invariant-loop-made l = record {
  items : map shown l.slots.items ≡ map shown l.initial.slots.items ++ replicate (l._made - length l.initial.slots.items) None;
  capacity : vec_capacity l.slots ≡ vec_capacity l.initial.slots;
  most : l._made - length l.initial.slots.items ≤ l.at + 1 - length l.initial.slots.items;
}
