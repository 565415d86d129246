use Rattle.std.proofs.Common.{◌≡◌, ◌++◌, take}
use Rattle.vkpair.proofs.wire.Wire.take.Given as goal

abbrev pub invariant-loop-at : goal.invariant-loop-at
invariant-loop-at l = l.self.frames ≡ l.initial.self.frames ++ take l.at l.host.frames
