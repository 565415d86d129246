use Rattle.std.proofs.Common.{◌≡◌, length}
use Rattle.v_trace.specs.Remaining.{behind}
use Rattle.v_trace.proofs.trace.collect.Given as goal

-- the steps that were given, and what is left
abbrev pub invariant-loop-step : goal.invariant-loop-step
invariant-loop-step l = l.fn.reader ≡ behind l.steps l.reader

abbrev pub decreases-loop-step : goal.decreases-loop-step
decreases-loop-step l = length l.reader.steps
