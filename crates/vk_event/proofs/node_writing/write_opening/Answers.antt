use Rattle.std.proofs.Common.{List, ℕ, ◌≡◌, ◌++◌, subst}
use Rattle.std.specs.Prelude.{OnOk}
use Rattle.vk_event.proofs.NodeOpenings.{always_timed}
use Rattle.vk_event.proofs.node_writing.write_opening.Goals as goal

pub returns : goal.returns
returns c =
    subst (λ (t : List ℕ). OnOk c.put_opening.result (c.put_opening.new.into.items ≡ c.args.into.now.items ++ t))
    (always_timed c.args.config.now) c.put_opening.ensures.ok
