use Rattle.std.proofs.Common.{◌≡◌, ◌<◌, eqb, eq-eqb, get_or, length, set, true, sym, ap, ◌∙◌, arith}
use Rattle.vk_hub.specs.Links.{rest_of}
use Rattle.vk_hub.proofs.Waits.{taken_at}
use Rattle.vk_hub.proofs.links.take_for.Goals as goal

pub returns-then-station-host-clause-rest : goal.returns-then-station-host-clause-rest
returns-then-station-host-clause-rest c =
    let same = c.loop-i.invariant.same in
    let w = c.index_mut-inbox.result.now in
    let here : eqb w.station c.args.host ≡ true = eq-eqb w.station c.args.host (sym c.station.ensures ∙ c.if-station-host.true) in
    let inside : c.loop-i.i < length c.args.inboxes.now.items = grind arith in
    let is : w ≡ get_or c.args.inboxes.now.items c.loop-i.i w = c.index_mut-inbox.ensures.value ∙ ap (λ l. get_or l c.loop-i.i w) same in
    ap (λ v. set c.loop-i.inboxes.items c.loop-i.i v) c.take.ensures.rest
    ∙ (ap (λ l. set l c.loop-i.i (rest_of w.station w.ring w.held)) same
    ∙ (sym (taken_at c.args.host c.args.inboxes.now.items c.loop-i.i w inside is here) ∙ c.loop-i.invariant.rest))
