use Rattle.std.proofs.lemmas.Result.{IfOk-weaker}
use Rattle.vk_hub.specs.Hubs.{fetched_as}
use Rattle.vk_port.proofs.Turning.{fetched_some}
use Rattle.vk_port.proofs.access.StationAccess.fetch.Goals as goal

pub returns-clause-fetched : goal.returns-clause-fetched
returns-clause-fetched g c =
    let p = c.self.inside in
    let turn = c.fetch_by in
    rw (← c.self.view_is)
    (IfOk-weaker turn.result _ _
    (λ a h some. fetched_some p.request p.station.now p.hub.now p.ticks p.seat p.hub_seat turn.new.seat (fetched_as a turn.new.out.delivery)
    turn.ensures.same turn.ensures.complete (h some))
    turn.ensures.fetched)
