use Rattle.std.proofs.Common.{get_or, ap, ◌∙◌}
use Rattle.v_machine.proofs.LatestLemmas.{latest-there}
use Rattle.v_machine.proofs.tables.latest.Latests.number.Goals as goal

pub returns-in-Some : goal.returns-in-Some
returns-in-Some c = λ host place.
    let latest = c.in-Some.latest.now in
    latest-there c.args.self.now c.args.at latest host place
    (c.in-Some.ensures.lookup.1 ∙ ap (λ ls. get_or ls c.args.at latest) (c.deref.ensures.value ∙ c.self.view_is))
