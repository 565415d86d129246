use Rattle.std.proofs.Common.{sym, subst, arith}
use Rattle.std.specs.List.{IsDistinct}
use Rattle.vk_names.specs.Kept.{same_id}
use Rattle.vk_names.proofs.Entries.{none_apart}
use Rattle.vk_names.proofs.names.Names.new.Goals as goal

pub invariant_of-result : goal.invariant_of-result
invariant_of-result c =
    (omega (arith, c.in_ok-with_capacity.ensures.capacity), subst (IsDistinct same_id) (sym c.in_ok-with_capacity.ensures.items) none_apart)
