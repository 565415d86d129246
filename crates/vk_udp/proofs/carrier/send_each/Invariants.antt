use Rattle.std.proofs.Common.{◌≡◌, take}
use Rattle.vk_udp.specs.Carried.{HasFetchedFor}
use Rattle.vk_udp.proofs.carrier.send_each.Given as goal

abbrev pub invariant-loop-there : goal.invariant-loop-there
invariant-loop-there g l = record {
  fetched : HasFetchedFor l.route.hub.now.origin (take l.there-index l.route.ports.now) l.fn.hub_seat l.hub_seat (g.L.Link.sent l.fn.link) (g.L.Link.sent l.link) 0;
  handed : g.L.Link.handed l.link ≡ g.L.Link.handed l.fn.link;
  faults : g.L.Link.fault_count l.link ≡ g.L.Link.fault_count l.fn.link;
}
