-- The processes so far, and behind them those of the fields that are left.
use Rattle.std.proofs.Common.{◌≡◌, drop}
use Rattle.vk_fields.specs.Processes.{specs_behind, specs_in}
use Rattle.vk_fields.proofs.process.specs_of.Given as goal

abbrev pub invariant-loop-process : goal.invariant-loop-process
invariant-loop-process l = specs_in l.processes ≡ specs_behind l.specs.items (drop l.process-index l.processes)
