use Rattle.std.proofs.Common.{◌∙◌, ◌++◌, ◌∷◌, [], ap, subst}
use Rattle.vk_udp.specs.declared.work.Carried.{Carried}
use Rattle.vk_udp.specs.Jobs.{EndsCarried}
use Rattle.vk_threads.specs.declared.end.Seats.{Seats}
use Rattle.vk_udp.proofs.Ending.{carried_since}
use Rattle.vk_udp.proofs.carrier.carrier_end.Goals as goal

pub returns : goal.returns
returns g c =
    let l = g.L.Link in
    let t = c.take-host.result in
    let s : Seats = record { host = t.host; seat = c.end-seat.result.0; hub_seat = c.end-seat.result.1 } in
    let e : Carried _ = record {
      end = record { seats = c.push_reserved.new.self; met = c.met_by.result };
      hub_seat = t.hub_seat;
      link = t.link;
    } in
    subst (λ v. EndsCarried l.handed l.sent l.fault_count v e) c.work.view_is
    (carried_since l.handed l.sent l.fault_count g.S.Start.duty e t.port s t.stop c.take-host.ensures c.met_by.ensures
    (c.push_reserved.ensures.items ∙ ap (λ xs. xs ++ s ∷ []) c.work.invariant.0) c.end-seat.ensures.seat c.end-seat.ensures.hub_seat)
