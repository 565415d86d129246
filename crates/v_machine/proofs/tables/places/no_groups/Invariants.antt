use Rattle.std.proofs.Common.{◌≡◌, [], replicate}
use Rattle.v_machine.proofs.tables.places.no_groups.Given as goal

abbrev pub invariant-loop-group : goal.invariant-loop-group
invariant-loop-group l = l.groups.items ≡ replicate l._group []
