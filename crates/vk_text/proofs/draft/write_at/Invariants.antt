use Rattle.std.proofs.Common.{◌≡◌, ◌+◌, ◌++◌, length, take}
use Rattle.vk_text.proofs.draft.write_at.Given as goal

abbrev pub invariant-loop-at : goal.invariant-loop-at
invariant-loop-at l = record {
  written : take (l.place + l.at) l.text ≡ take l.place l.fn.text ++ take l.at l.bytes;
  same : length l.text ≡ length l.fn.text;
}
