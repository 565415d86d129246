use Rattle.std.specs.Prelude.{◌≡◌}
use Rattle.std.specs.Io.KnownBytes.{Keeps}
use Rattle.vk_io.specs.Tallies.{after_interruptions}
use Rattle.vk_io.proofs.retrying.write_retrying.Given as goal

abbrev pub invariant-loop-try : goal.invariant-loop-try
invariant-loop-try g l = record {
  kept : Keeps (g.T.Writer.written l.fn.writer) (g.T.Writer.written l.writer);
  interrupted : g.T.Writer.answered l.writer ≡ after_interruptions (g.T.Writer.answered l.fn.writer) l._try;
}
