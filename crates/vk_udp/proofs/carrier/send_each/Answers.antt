use Rattle.std.proofs.Common.{◌∙◌, arith, cond, false, refl}
use Rattle.vk_udp.proofs.Asking.{more_none}
use Rattle.vk_udp.proofs.Fetching.{going_on, round_ended, round_more, round_none, round_refused, round_whole, seat_of}
use Rattle.vk_udp.proofs.carrier.send_each.Goals as goal

pub loop-there-init : goal.loop-there-init
loop-there-init g c = record {
  fetched = round_none c.args.route.now.hub.now.origin c.args.route.now.ports.now c.args.hub_seat.now (g.L.Link.sent c.args.link.now) (more_none (g.L.Link.sent c.args.link.now));
  handed = refl;
  faults = refl;
}

pub send_one-requires : goal.send_one-requires
send_one-requires g c = seat_of c.args.route.now.hub.now c.args.hub_seat.now c.loop-there.hub_seat c.requires c.loop-there.invariant.fetched.same

pub loop-there-preserved : goal.loop-there-preserved
loop-there-preserved g c =
    let was = c.loop-there.invariant in
    record {
      fetched = round_more c.args.route.now.hub.now.origin c.args.route.now.ports.now c.loop-there.there-index _ c.args.hub_seat.now c.loop-there.hub_seat
          c.send_one.new.hub_seat (g.L.Link.sent c.args.link.now) (g.L.Link.sent c.loop-there.link) (g.L.Link.sent c.send_one.new.link) (cond c.in-Ok.sent.ended 1 0) c.loop-there-test.true was.fetched
          c.in-Ok.ensures.fetched (going_on c.in-Ok.sent.ended c.if-sent.false);
      handed = c.in-Ok.ensures.handed ∙ was.handed;
      faults = c.in-Ok.ensures.faults ∙ was.faults;
    }

pub returns-then-sent-clause-fetched : goal.returns-then-sent-clause-fetched
returns-then-sent-clause-fetched g c =
    round_ended c.args.route.now.hub.now.origin c.args.route.now.ports.now c.loop-there.there-index _ c.args.hub_seat.now c.loop-there.hub_seat
    c.send_one.new.hub_seat (g.L.Link.sent c.args.link.now) (g.L.Link.sent c.loop-there.link) (g.L.Link.sent c.send_one.new.link) c.in-Ok.sent c.loop-there-test.true c.if-sent.true
    c.loop-there.invariant.fetched c.in-Ok.ensures.fetched

pub returns-in-Err-clause-fetched : goal.returns-in-Err-clause-fetched
returns-in-Err-clause-fetched g c =
    round_refused c.args.route.now.hub.now.origin c.args.route.now.ports.now c.loop-there.there-index c.args.hub_seat.now c.loop-there.hub_seat
    c.send_one.new.hub_seat (g.L.Link.sent c.args.link.now) (g.L.Link.sent c.loop-there.link) (g.L.Link.sent c.send_one.new.link) c.in-Err.why c.loop-there.invariant.fetched c.in-Err.ensures.fetched

pub returns-clause-fetched : goal.returns-clause-fetched
returns-clause-fetched g c =
    round_whole c.args.route.now.hub.now.origin c.args.route.now.ports.now c.loop-there.there-index c.args.hub_seat.now c.loop-there.hub_seat (g.L.Link.sent c.args.link.now)
    (g.L.Link.sent c.loop-there.link) (record { more = c.loop-there.more; ended = false }) (omega arith) refl c.loop-there.invariant.fetched
