use Rattle.std.proofs.Common.{◌≡◌, ◌++◌, length, take, drop}
use Rattle.vk_hub.specs.Links.{posted_all}
use Rattle.vk_hub.proofs.links.post_all.Given as goal

abbrev pub invariant-loop-i : goal.invariant-loop-i
invariant-loop-i l =
    let whole = posted_all l.plan l.fn.generator l.fn.inboxes.items l.header l.frame in
    let rest = posted_all l.plan l.generator (drop l.i l.fn.inboxes.items) l.header l.frame in
    record {
      count : length l.inboxes.items ≡ length l.fn.inboxes.items;
      left : drop l.i l.inboxes.items ≡ drop l.i l.fn.inboxes.items;
      x : rest.0 ≡ whole.0;
      waiting : take l.i l.inboxes.items ++ rest.1 ≡ whole.1;
    }
