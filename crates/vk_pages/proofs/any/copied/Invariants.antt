use Rattle.std.proofs.Common.{◌≡◌, take}
use Rattle.vk_pages.proofs.any.copied.Given as goal

abbrev pub invariant-loop-call : goal.invariant-loop-call
invariant-loop-call l = l.copies ≡ take l.call-index l.calls
