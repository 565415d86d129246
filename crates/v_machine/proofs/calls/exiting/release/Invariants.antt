use Rattle.std.proofs.Common.{◌≡◌, length}
use Rattle.v_machine.specs.Leaving.{Leaves}
use Rattle.v_machine.specs.Lists.{Each, Until}
use Rattle.v_machine.proofs.calls.exiting.release.Given as goal

abbrev pub invariant-loop-at : goal.invariant-loop-at
invariant-loop-at l = record {
  each : Each (Until l.at (Leaves l.fn.gone l.fn.places l.fn.sends)) l.fn.procs l.procs;
  count : length l.procs ≡ length l.fn.procs;
}
