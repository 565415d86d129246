use Rattle.std.specs.Prelude.{◌≡◌}
use Rattle.std.specs.Io.KnownBytes.{Keeps}
use Rattle.vk_io.specs.Tallies.{after_interruptions}
use Rattle.vk_io.proofs.retrying.read_retrying.Given as goal

abbrev pub invariant-loop-try : goal.invariant-loop-try
invariant-loop-try g l = record {
  kept : Keeps (g.T.Reader.left l.fn.reader) (g.T.Reader.left l.reader);
  interrupted : g.T.Reader.answered l.reader ≡ after_interruptions (g.T.Reader.answered l.fn.reader) l._try;
}
