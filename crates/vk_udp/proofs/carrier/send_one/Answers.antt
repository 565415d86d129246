use Rattle.std.proofs.Common.{ap, subst}
use Rattle.vk_hub.specs.declared.event.Fetched.TheVariants as fetched
use Rattle.vk_hub.specs.Hubs.{fetched_as as given_as}
use Rattle.vk_udp.specs.Asked.{sending}
use Rattle.vk_udp.specs.Wires.{IsMore}
use Rattle.vk_udp.proofs.Asking.{more_none}
use Rattle.vk_udp.proofs.Fetching.{fetched_as, fetched_nothing, fetched_refused, frame_some, stopped_some}
use Rattle.vk_udp.proofs.carrier.send_one.Goals as goal

pub returns-in-Ok-Frame-clause-fetched : goal.returns-in-Ok-Frame-clause-fetched
returns-in-Ok-Frame-clause-fetched g c =
    let sent = g.L.Link.sent in
    let frame = c.fetch_in_place.new.out.delivery in
    fetched_as c.args.route.now.hub.now.origin c.args.there c.args.hub_seat.now c.fetch_in_place.new.seat (sent c.args.link.now) (sent c.send.new.self) _
    (fetched.Frame frame) (ap (λ a. given_as a frame) c.in-Ok-Frame.field-0-is) (frame_some frame) c.fetch_in_place.ensures.same
    c.fetch_in_place.ensures.complete c.in-Ok-Frame.ensures.fetched c.in-Ok-Frame.ensures.posted
    (subst (λ f. IsMore (sent c.args.link.now) (sent c.send.new.self) (sending c.args.there (fetched.Frame f))) c.frame.ensures c.send.ensures.sent)

pub returns-in-Ok-Stopped-clause-fetched : goal.returns-in-Ok-Stopped-clause-fetched
returns-in-Ok-Stopped-clause-fetched g c =
    let sent = g.L.Link.sent in
    let frame = c.fetch_in_place.new.out.delivery in
    fetched_as c.args.route.now.hub.now.origin c.args.there c.args.hub_seat.now c.fetch_in_place.new.seat (sent c.args.link.now) (sent c.args.link.now) _
    fetched.Stopped (ap (λ a. given_as a frame) c.in-Ok-Stopped.field-0-is) stopped_some c.fetch_in_place.ensures.same c.fetch_in_place.ensures.complete
    c.in-Ok-Stopped.ensures.fetched c.in-Ok-Stopped.ensures.posted (more_none (sent c.args.link.now))

pub returns-in-Ok-Nothing-clause-fetched : goal.returns-in-Ok-Nothing-clause-fetched
returns-in-Ok-Nothing-clause-fetched g c =
    let sent = g.L.Link.sent in
    let frame = c.fetch_in_place.new.out.delivery in
    let nothing = c.in-Ok-Nothing.ensures.nothing (ap (λ a. given_as a frame) c.in-Ok-Nothing.field-0-is) in
    fetched_nothing c.args.route.now.hub.now.origin c.args.there c.args.hub_seat.now c.fetch_in_place.new.seat (sent c.args.link.now) (sent c.args.link.now)
    c.fetch_in_place.ensures.same c.fetch_in_place.ensures.complete nothing.0 nothing.1 (more_none (sent c.args.link.now))

pub returns-in-Err-clause-fetched : goal.returns-in-Err-clause-fetched
returns-in-Err-clause-fetched g c =
    let sent = g.L.Link.sent in
    fetched_refused c.args.route.now.hub.now.origin c.args.hub_seat.now c.fetch_in_place.new.seat (sent c.args.link.now) (sent c.args.link.now)
    c.fetch_in_place.ensures.same c.in-Err.ensures.err.0 (more_none (sent c.args.link.now))
