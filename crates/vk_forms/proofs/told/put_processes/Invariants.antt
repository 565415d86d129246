use Rattle.std.proofs.Common.{◌≡◌, ◌++◌, take}
use Rattle.std.specs.List.{flat_map}
use Rattle.vk_forms.specs.Faults.{process_words}
use Rattle.vk_forms.proofs.told.put_processes.Given as goal

abbrev pub invariant-loop-spec : goal.invariant-loop-spec
invariant-loop-spec l = l.into.items ≡ l.fn.into.items ++ flat_map process_words (take l.spec-index l.specs)
