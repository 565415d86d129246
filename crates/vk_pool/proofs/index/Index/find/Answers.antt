use Rattle.std.proofs.Common.{◌∙◌, List, Option, ℕ, length, map, subst, sym}
use Rattle.vk_pool.specs.Indexed.{IsIndex, homes_of}
use Rattle.vk_pool.specs.Kept.{shown}
use Rattle.vk_pool.proofs.Pooled.{made_index}
use Rattle.vk_pool.proofs.index.Index.find.Goals as goal

pub least-requires : goal.least-requires
least-requires c =
    let slots = c.args.slots.now in
    subst (λ (ps : List (Option ℕ)). IsIndex ps (homes_of (map shown slots))) (sym c.deref.ensures.value)
    (made_index _ _ (length c.args.self.now) slots c.self.invariant (c.self.view_is ∙ c.requires))
