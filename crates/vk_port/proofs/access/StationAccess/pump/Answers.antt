use Rattle.std.proofs.Common.{[], ap, subst}
use Rattle.vk_hub.specs.Hubs.{fetched_as}
use Rattle.vk_port.specs.Ports.{IsCutEvent, IsRefused}
use Rattle.vk_port.proofs.Turning.{got_frame, undelivered}
use Rattle.vk_port.proofs.access.StationAccess.pump.Goals as goal

pub returns-in-Err-enter-clause-err : goal.returns-in-Err-enter-clause-err
returns-in-Err-enter-clause-err g c =
    let p = c.args.self.now in
    let q = c.fetch.new.self in
    let frame = c.fetch.new.heard.delivery in
    let got = got_frame p q (fetched_as c.in-Ok-Frame.field-0 frame) frame (ap (λ a. fetched_as a frame) c.in-Ok-Frame.field-0-is)
    c.in-Ok-Frame.ensures.fetched in
    let why = c.in-Err-enter.why in
    undelivered p q frame got c.enter.new.self why
    (subst (λ e. IsRefused q c.enter.new.self why [] (IsCutEvent q.station.origin e)) c.event.ensures c.in-Err-enter.ensures.err)
