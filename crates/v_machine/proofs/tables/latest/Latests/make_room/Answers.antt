use Rattle.std.proofs.Common.{Some, length, sym, ap, ◌∙◌}
use Rattle.std.specs.List.{position}
use Rattle.v_machine.specs.Latest.{is_for}
use Rattle.v_machine.proofs.CallSteps.{none_if}
use Rattle.v_machine.proofs.LatestLemmas.{latest-room, place-new}
use Rattle.v_machine.proofs.tables.latest.Latests.make_room.Goals as goal

pub returns-clause-same : goal.returns-clause-same
returns-clause-same c = λ h. rw (c.in_ok-push.ensures.items, ← c.self.view_is) (latest-room _ c.args.host h)

pub returns-clause-room : goal.returns-clause-room
returns-clause-room c =
    let none = none_if c.place_of.result c.in_default.not-Some in
    rw (c.in_ok-push.ensures.items) (place-new c.self.inside.items.items c.args.host 0
    (ap (position (is_for c.args.host)) (sym c.deref.ensures.value) ∙ sym c.place_of.ensures ∙ none)
    ∙ ap Some (ap length (sym c.deref.ensures.value) ∙ c.deref.ensures.len ∙ sym c.len-at.ensures))
