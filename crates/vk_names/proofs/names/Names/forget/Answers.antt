use Rattle.std.proofs.Common.{not, sym, subst, arith}
use Rattle.std.specs.List.{IsDistinct}
use Rattle.vk_types.specs.Types.{Registration}
use Rattle.vk_base.specs.Pids.{same_pid}
use Rattle.vk_names.specs.Kept.{same_id}
use Rattle.vk_names.proofs.Entries.{kept_apart}
use Rattle.vk_names.proofs.names.Names.forget.Goals as goal

pub invariant_of-self : goal.invariant_of-self
invariant_of-self c = (
  omega (arith, c.self.invariant.0),
  subst (IsDistinct same_id) (sym c.take_out.ensures.items)
      (kept_apart (λ (r : Registration). not (same_pid r.pid c.args.pid)) c.self.inside.entries.items c.self.invariant.1),
)
