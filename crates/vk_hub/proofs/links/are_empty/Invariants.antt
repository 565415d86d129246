use Rattle.std.proofs.Common.{◌≡◌, drop}
use Rattle.vk_hub.specs.Hubs.{waits_nowhere}
use Rattle.vk_hub.proofs.links.are_empty.Given as goal

abbrev pub invariant-loop-inbox : goal.invariant-loop-inbox
invariant-loop-inbox l = waits_nowhere (drop l.inbox-index l.inboxes.items) ≡ waits_nowhere l.inboxes.items
