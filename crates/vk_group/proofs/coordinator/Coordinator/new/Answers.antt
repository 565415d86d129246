use Rattle.std.proofs.Common.{ap, ◌∙◌}
use Rattle.vk_group.specs.declared.group.Group.{Group}
use Rattle.vk_group.specs.Members.{pairs_of}
use Rattle.vk_group.proofs.Constant.{pairs_new}
use Rattle.vk_group.proofs.Following.{after_new, few_pairs}
use Rattle.vk_group.proofs.coordinator.Coordinator.new.Goals as goal

pub returns-then-are_pairs-clause-pairs : goal.returns-then-are_pairs-clause-pairs
returns-then-are_pairs-clause-pairs c =
    ap (λ (g : Group). pairs_of g.members) c.new-group.ensures ∙ pairs_new c.args.pairs.now

pub returns-then-are_pairs-clause-after : goal.returns-then-are_pairs-clause-after
returns-then-are_pairs-clause-after c =
    after_new c.args.pairs.now c.args.requests c.new-group.result c.new-group.ensures
    (few_pairs c.args.pairs.now c.are_pairs.result c.are_pairs.ensures c.if-are_pairs.true)
