use Rattle.std.proofs.Common.{sym, ap, ◌∙◌}
use Rattle.v_machine.specs.Latest.{latest_in}
use Rattle.v_machine.proofs.Indexes.{list_at_is}
use Rattle.v_machine.proofs.calls.held.latest_of.Goals as goal

pub returns : goal.returns
returns c = λ sender is. c.get.ensures ∙ ap (λ ls. latest_in ls c.args.host)
    (sym
    (list_at_is c.args.store.now.places c.args.store.now.latest.items sender c.args.at c.index.result.now is c.requires c.index.ensures))
