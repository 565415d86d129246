use Rattle.std.proofs.Common.{length}
use Rattle.vk_queue.specs.Lists.{queue_at}
use Rattle.vk_local.proofs.Leaving.{IsEmptying}
use Rattle.vk_local.proofs.exits.empty.Given as goal

abbrev pub invariant-loop : goal.invariant-loop
invariant-loop l = IsEmptying l.list l.initial.queues l.queues

abbrev pub decreases-loop : goal.decreases-loop
decreases-loop l = length (queue_at l.queues.lists l.list)
