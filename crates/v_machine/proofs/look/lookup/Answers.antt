use Rattle.std.proofs.Common.{sym, ◌∙◌}
use Rattle.v_machine.proofs.Asking.{lookups_nowhere}
use Rattle.v_machine.proofs.PlaceLemmas.{nowhere}
use Rattle.v_machine.proofs.look.lookup.Goals as goal

pub returns-in_default : goal.returns-in_default
returns-in_default c =
    let s = c.args.store.now in
    lookups_nowhere s.places s.asked.items c.args.asker c.args.number
    (nowhere s.places s.asked.items c.args.asker (sym c.find.ensures.place ∙ c.in_default.is))
