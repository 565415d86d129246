use Rattle.std.proofs.Common.{None, Some, subst}
use Rattle.vk_threads.specs.Duties.{ClockDuty}
use Rattle.vk_threads.specs.Ends.{MayEnd, ticking}
use Rattle.vk_threads.proofs.Ticking.{closing_at, closing_cut, closing_done, closing_hosts}
use Rattle.vk_threads.proofs.clock.clock_end.Goals as goal

pub close_all-requires-clause-at_hub : goal.close_all-requires-clause-at_hub
close_all-requires-clause-at_hub g c =
    let w = c.work.inside in
    let it = c.in-Ok.ensures.ran.ticked in
    closing_at w.ports.items c.as_mut_slice.result.now c.run_clock.new.ports w.ports.len c.as_mut_slice.ensures.value w.ports.ok.0 c.run_clock.auto.ports
    w.hub.now it.acts it.does c.work.invariant.0

pub close_all-requires-clause-at_hosts : goal.close_all-requires-clause-at_hosts
close_all-requires-clause-at_hosts g c =
    let w = c.work.inside in
    let it = c.in-Ok.ensures.ran.ticked in
    closing_hosts w.ports.items c.as_mut_slice.result.now c.run_clock.new.ports w.ports.len c.as_mut_slice.ensures.value w.ports.ok.0 c.run_clock.auto.ports
    w.hosts.items c.deref.result.now it.acts it.does c.work.invariant.1 c.deref.ensures.value

pub returns-in-Ok : goal.returns-in-Ok
returns-in-Ok g c =
    let w = c.work.inside in
    let seats = c.close_all.new.seats.items in
    subst (λ (v : ClockDuty). MayEnd v.ports (ticking v.ports) v.rounds seats None) c.work.view_is
    (closing_done w.ports.items c.as_mut_slice.result.now c.run_clock.new.ports w.ports.len c.as_mut_slice.ensures.value w.ports.ok.0 c.run_clock.auto.ports
    w.rounds seats c.in-Ok.halts c.in-Ok.ensures.ran c.close_all.ensures)

pub close_all-requires-in-Err-clause-at_hub : goal.close_all-requires-in-Err-clause-at_hub
close_all-requires-in-Err-clause-at_hub g c =
    let w = c.work.inside in
    let it = c.in-Err.ensures.cut.ticked in
    closing_at w.ports.items c.as_mut_slice.result.now c.run_clock.new.ports w.ports.len c.as_mut_slice.ensures.value w.ports.ok.0 c.run_clock.auto.ports
    w.hub.now it.acts it.does c.work.invariant.0

pub close_all-requires-in-Err-clause-at_hosts : goal.close_all-requires-in-Err-clause-at_hosts
close_all-requires-in-Err-clause-at_hosts g c =
    let w = c.work.inside in
    let it = c.in-Err.ensures.cut.ticked in
    closing_hosts w.ports.items c.as_mut_slice.result.now c.run_clock.new.ports w.ports.len c.as_mut_slice.ensures.value w.ports.ok.0 c.run_clock.auto.ports
    w.hosts.items c.deref-in-Err.result.now it.acts it.does c.work.invariant.1 c.deref-in-Err.ensures.value

pub returns : goal.returns
returns g c =
    let w = c.work.inside in
    let seats = c.close_all-in-Err.new.seats.items in
    subst (λ (v : ClockDuty). MayEnd v.ports (ticking v.ports) v.rounds seats (Some c.in-Err.why)) c.work.view_is
    (closing_cut w.ports.items c.as_mut_slice.result.now c.run_clock.new.ports w.ports.len c.as_mut_slice.ensures.value w.ports.ok.0 c.run_clock.auto.ports
    w.rounds seats c.in-Err.why c.in-Err.ensures.cut c.close_all-in-Err.ensures)
