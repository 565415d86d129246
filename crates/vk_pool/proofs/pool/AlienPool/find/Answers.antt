use Rattle.std.proofs.Common.{◌∙◌, ap, map, refl}
use Rattle.std.specs.List.{position}
use Rattle.vk_pool.specs.Aliens.{is_alien_from}
use Rattle.vk_pool.specs.Kept.{shown}
use Rattle.vk_pool.proofs.Pooled.{position_more}
use Rattle.vk_pool.proofs.pool.AlienPool.find.Goals as goal

pub returns-else-is_first-clause-slot : goal.returns-else-is_first-clause-slot
returns-else-is_first-clause-slot c =
    let test = is_alien_from c.args.sender in
    c.find.ensures ∙ ap (λ slots. position test (map shown slots)) c.deref-else-is_first.ensures.value
    ∙ position_more test refl (map shown c.self.inside.slots.items) _ ∙ ap (position test) c.self.view_is
