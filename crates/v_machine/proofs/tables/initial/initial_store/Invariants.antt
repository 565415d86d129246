use Rattle.std.proofs.Common.{◌≡◌, map, take}
use Rattle.v_machine.specs.Initial.{IsInitial}
use Rattle.v_machine.specs.Places.{pid_of}
use Rattle.v_machine.proofs.tables.initial.initial_store.Given as goal

abbrev pub invariant-loop-spec : goal.invariant-loop-spec
invariant-loop-spec l = record {
  places : l.store.places ≡ map pid_of l.specs;
  filled : IsInitial (take l.spec-index l.specs) l.store;
}
