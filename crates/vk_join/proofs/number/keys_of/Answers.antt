use Rattle.std.proofs.Common.{subst, arith}
use Rattle.std.proofs.lemmas.List.{take_all}
use Rattle.vk_join.specs.Keys.{AreKeys}
use Rattle.vk_join.proofs.number.keys_of.Goals as goal

pub returns : goal.returns
returns c =
    subst (λ ls. AreKeys c.args.logs.now ls c.loop-at.keys.items) (take_all c.loop-at.at c.args.logs.now (omega arith)) c.loop-at.invariant
