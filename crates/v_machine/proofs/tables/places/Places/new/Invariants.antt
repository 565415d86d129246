use Rattle.std.proofs.Common.{◌≡◌, length, map, take}
use Rattle.v_machine.specs.Places.{pid_of, AreGrouped}
use Rattle.v_machine.proofs.tables.places.Places.new.Given as goal

abbrev pub invariant-loop-spec : goal.invariant-loop-spec
invariant-loop-spec l = record {
  pids : l.pids.items ≡ map pid_of (take l.spec-index l.specs);
  count : length l.groups.items ≡ 1024;
  grouped : AreGrouped l.pids.items l.groups.items;
}
