use Rattle.std.proofs.Common.{◌≡◌, length}
use Rattle.v_machine.specs.Leaving.{Drops}
use Rattle.v_machine.specs.Lists.{Each, Until}
use Rattle.v_machine.proofs.calls.exiting.drop_at_target.Given as goal

abbrev pub invariant-loop-at : goal.invariant-loop-at
invariant-loop-at l = record {
  each : Each (Until l.at (Drops l.fn.gone l.fn.latest)) l.fn.sends l.sends;
  count : length l.sends ≡ length l.fn.sends;
}
