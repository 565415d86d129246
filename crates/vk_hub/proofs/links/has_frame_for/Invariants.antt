use Rattle.std.proofs.Common.{◌≡◌, drop}
use Rattle.vk_hub.specs.Hubs.{first_for}
use Rattle.vk_hub.proofs.links.has_frame_for.Given as goal

abbrev pub invariant-loop-inbox : goal.invariant-loop-inbox
invariant-loop-inbox l = first_for l.host (drop l.inbox-index l.inboxes.items) ≡ first_for l.host l.inboxes.items
