use Rattle.std.proofs.Common.{◌≡◌, ◌++◌, take, drop}
use Rattle.vk_hub.specs.Hubs.{first_for, without_first}
use Rattle.vk_hub.proofs.links.take_for.Given as goal

abbrev pub invariant-loop-i : goal.invariant-loop-i
invariant-loop-i l = record {
  same : l.inboxes.items ≡ l.fn.inboxes.items;
  first : first_for l.host (drop l.i l.fn.inboxes.items) ≡ first_for l.host l.fn.inboxes.items;
  rest : take l.i l.fn.inboxes.items ++ without_first l.host (drop l.i l.fn.inboxes.items) ≡ without_first l.host l.fn.inboxes.items;
}
