use Rattle.std.proofs.Common.{◌≡◌, ◌++◌, ◌-◌, ◌≤◌, replicate}
use Rattle.vk_forms.proofs.fault.put_spaces.Given as goal

abbrev pub invariant-spaces : goal.invariant-spaces
invariant-spaces l = record {
  within : l.done ≤ l.count;
  spaces : l.into.items ≡ l.fn.into.items ++ replicate l.done 32;
}

abbrev pub decreases-spaces : goal.decreases-spaces
decreases-spaces l = l.count - l.done
