use denote.Param.Send.{sendable}
use Rattle.std.proofs.Common.{◌∙◌, ◌+◌, arith, ap, length, map}
use Rattle.std.proofs.Crossing.{crosses}
use Rattle.vk_port.proofs.Crossing.{station_send}
use Rattle.vk_port.specs.Stations.{StationHistory}
use Rattle.v_run.specs.Passages.{fresh_station}
use Rattle.v_node.specs.Seats.{hub_stand_of}
use Rattle.vk_threads.specs.Assigned.{program_task}
use Rattle.vk_udp.proofs.Dealing.{new_seat}
use Rattle.vk_udp.proofs.Opened.{all_new, crew_refused, fault_as, own_processes, ran_as, sent_as, two_taken}
use Rattle.vk_udp.proofs.WholeNode.{have_ended}
use Rattle.vk_udp.proofs.node.run_node.Goals as goal

pub new-requires-2-send-S : goal.new-requires-2-send-S
new-requires-2-send-S g c κs = search (sendable, crosses, station_send) depth 20

pub run_jobs-requires-clause-halt : goal.run_jobs-requires-clause-halt
run_jobs-requires-clause-halt g c κs within =
    let taken = two_taken c.in-Ok-new-3.hub (c.count_of-count.result + 4) (c.count_of-count.result + 2) c.in-Ok-new-3.hub_seats.items
    c.take_hub_seat-halt.new.seats.items c.take_hub_seat-fetches.new.seats.items c.take_hub_seat-halt.result c.take_hub_seat-fetches.result
    (omega arith) (omega (arith, c.in-Ok-new-3.hub_seats.ok.0, c.in-Ok-new-3.ensures.count)) c.in-Ok-new-3.ensures.each c.take_hub_seat-halt.ensures
    c.take_hub_seat-fetches.ensures in
    new_seat c.in-Ok-new-3.hub c.take_hub_seat-halt.result taken.halt_new

pub run_jobs-requires-clause-unhalted : goal.run_jobs-requires-clause-unhalted
run_jobs-requires-clause-unhalted g c κs within =
    let taken = two_taken c.in-Ok-new-3.hub (c.count_of-count.result + 4) (c.count_of-count.result + 2) c.in-Ok-new-3.hub_seats.items
    c.take_hub_seat-halt.new.seats.items c.take_hub_seat-fetches.new.seats.items c.take_hub_seat-halt.result c.take_hub_seat-fetches.result
    (omega arith) (omega (arith, c.in-Ok-new-3.hub_seats.ok.0, c.in-Ok-new-3.ensures.count)) c.in-Ok-new-3.ensures.each c.take_hub_seat-halt.ensures
    c.take_hub_seat-fetches.ensures in
    ap (λ s. s.mine) taken.halt_new.1

pub run_jobs-requires-clause-stock : goal.run_jobs-requires-clause-stock
run_jobs-requires-clause-stock g c κs within =
    let counted = c.count_of-count.ensures.count ∙ ap length c.deref.ensures.value in
    let taken = two_taken c.in-Ok-new-3.hub (c.count_of-count.result + 4) (c.count_of-count.result + 2) c.in-Ok-new-3.hub_seats.items
    c.take_hub_seat-halt.new.seats.items c.take_hub_seat-fetches.new.seats.items c.take_hub_seat-halt.result c.take_hub_seat-fetches.result
    (omega arith) (omega (arith, c.in-Ok-new-3.hub_seats.ok.0, c.in-Ok-new-3.ensures.count)) c.in-Ok-new-3.ensures.each c.take_hub_seat-halt.ensures
    c.take_hub_seat-fetches.ensures in
    let left = taken.left_count in
    record {
      at = ap (λ (o : StationHistory). o.host) c.in-Ok-new-2.ensures.cell.0 ∙ c.in-Ok-new.ensures.host;
      each = all_new c.in-Ok-new-2.cell (c.count_of-count.result + 2) c.in-Ok-new-2.seats.items
          (omega (arith, c.in-Ok-new-2.seats.ok.0, c.in-Ok-new-2.ensures.count)) c.in-Ok-new-2.ensures.each;
      all = omega (arith, c.in-Ok-new-2.seats.ok.0, c.in-Ok-new-2.ensures.count, counted);
      at_hub = taken.left_new;
      all_at_hub = omega (arith, left, counted);
    }

pub run_jobs-requires-clause-processes : goal.run_jobs-requires-clause-processes
run_jobs-requires-clause-processes g c κs within =
    own_processes c.args.config c.args.host c.in-Ok-new-2.cell.origin c.args.programs.items
    (c.in-Ok-new-2.ensures.cell.0 ∙ ap (λ x. fresh_station x c.in-Ok-new.station.host) c.in-Ok-new.ensures.config
    ∙ ap (fresh_station c.args.config) c.in-Ok-new.ensures.host) c.requires.processes

pub run_jobs-requires-clause-seat : goal.run_jobs-requires-clause-seat
run_jobs-requires-clause-seat g c κs within =
    let taken = two_taken c.in-Ok-new-3.hub (c.count_of-count.result + 4) (c.count_of-count.result + 2) c.in-Ok-new-3.hub_seats.items
    c.take_hub_seat-halt.new.seats.items c.take_hub_seat-fetches.new.seats.items c.take_hub_seat-halt.result c.take_hub_seat-fetches.result
    (omega arith) (omega (arith, c.in-Ok-new-3.hub_seats.ok.0, c.in-Ok-new-3.ensures.count)) c.in-Ok-new-3.ensures.each c.take_hub_seat-halt.ensures
    c.take_hub_seat-fetches.ensures in
    new_seat c.in-Ok-new-3.hub c.take_hub_seat-fetches.result taken.fetches_new

pub record_of-requires-clause-ended : goal.record_of-requires-clause-ended
record_of-requires-clause-ended g c κs within =
    let programs = c.args.programs.items in
    let counted = c.count_of-count.ensures.count ∙ ap length c.deref.ensures.value in
    let taken = two_taken c.in-Ok-new-3.hub (c.count_of-count.result + 4) (c.count_of-count.result + 2) c.in-Ok-new-3.hub_seats.items
    c.take_hub_seat-halt.new.seats.items c.take_hub_seat-fetches.new.seats.items c.take_hub_seat-halt.result c.take_hub_seat-fetches.result
    (omega arith) (omega (arith, c.in-Ok-new-3.hub_seats.ok.0, c.in-Ok-new-3.ensures.count)) c.in-Ok-new-3.ensures.each c.take_hub_seat-halt.ensures
    c.take_hub_seat-fetches.ensures in
    let origin = c.in-Ok-new-2.ensures.cell.0 ∙ ap (λ x. fresh_station x c.in-Ok-new.station.host) c.in-Ok-new.ensures.config
    ∙ ap (fresh_station c.args.config) c.in-Ok-new.ensures.host in (
      c.args.rounds,
      c.args.ports.now,
      map (program_task g.G.Program.task) programs,
      c.in-Ok.link,
      have_ended c.args.config c.args.host c.in-Ok-new-2.cell c.in-Ok-new-3.hub origin g.W.L.Link.handed g.W.L.Link.sent g.W.L.Link.fault_count g.G.Program.task programs
          c.args.rounds c.args.ports.now c.take_hub_seat-fetches.result c.in-Ok.link c.in-Ok-run_jobs.ends.items c.in-Ok-run_jobs.halt
          (omega (arith, c.in-Ok-new-2.ensures.cell.1, counted)) (omega (arith, c.in-Ok-new-3.ensures.seats, counted))
          (omega (arith, c.in-Ok-new-3.ensures.programs, counted)) (omega (arith, counted, c.count_of-count.ensures.few)) c.requires.apart
          (new_seat c.in-Ok-new-3.hub c.take_hub_seat-fetches.result taken.fetches_new) (ap hub_stand_of taken.fetches_new.1) c.requires.ports.stations
          c.in-Ok-run_jobs.ensures.ended,
    )

pub returns-in-Ok-run_jobs-clause-ran : goal.returns-in-Ok-run_jobs-clause-ran
returns-in-Ok-run_jobs-clause-ran g c =
    let programs = c.args.programs.items in
    let counted = c.count_of-count.ensures.count ∙ ap length c.deref.ensures.value in
    let taken = two_taken c.in-Ok-new-3.hub (c.count_of-count.result + 4) (c.count_of-count.result + 2) c.in-Ok-new-3.hub_seats.items
    c.take_hub_seat-halt.new.seats.items c.take_hub_seat-fetches.new.seats.items c.take_hub_seat-halt.result c.take_hub_seat-fetches.result
    (omega arith) (omega (arith, c.in-Ok-new-3.hub_seats.ok.0, c.in-Ok-new-3.ensures.count)) c.in-Ok-new-3.ensures.each c.take_hub_seat-halt.ensures
    c.take_hub_seat-fetches.ensures in
    let origin = c.in-Ok-new-2.ensures.cell.0 ∙ ap (λ x. fresh_station x c.in-Ok-new.station.host) c.in-Ok-new.ensures.config
    ∙ ap (fresh_station c.args.config) c.in-Ok-new.ensures.host in
    let it = have_ended c.args.config c.args.host c.in-Ok-new-2.cell c.in-Ok-new-3.hub origin g.W.L.Link.handed g.W.L.Link.sent g.W.L.Link.fault_count g.G.Program.task
    programs c.args.rounds c.args.ports.now c.take_hub_seat-fetches.result c.in-Ok.link c.in-Ok-run_jobs.ends.items c.in-Ok-run_jobs.halt
    (omega (arith, c.in-Ok-new-2.ensures.cell.1, counted)) (omega (arith, c.in-Ok-new-3.ensures.seats, counted))
    (omega (arith, c.in-Ok-new-3.ensures.programs, counted)) (omega (arith, counted, c.count_of-count.ensures.few)) c.requires.apart
    (new_seat c.in-Ok-new-3.hub c.take_hub_seat-fetches.result taken.fetches_new) (ap hub_stand_of taken.fetches_new.1) c.requires.ports.stations
    c.in-Ok-run_jobs.ensures.ended in
    ran_as g.W.L.Link.handed g.W.L.Link.sent g.W.L.Link.fault_count c.args.config c.args.host c.in-Ok-new-2.cell c.in-Ok-new-3.hub c.args.rounds
    c.args.ports.now (map (program_task g.G.Program.task) programs) c.in-Ok.link c.in-Ok-run_jobs.ends.items c.in-Ok-run_jobs.halt (g.W.Wire.handed c.args.wire.now)
    (g.W.Wire.handed c.open.new.self) (g.W.Wire.handed c.record_of.new.wire) c.record_of.result c.in-Ok.ensures.handed c.in-Ok.ensures.link it
    c.record_of.ensures.ran

pub returns-in-Ok-run_jobs-clause-sent : goal.returns-in-Ok-run_jobs-clause-sent
returns-in-Ok-run_jobs-clause-sent g c =
    let programs = c.args.programs.items in
    let counted = c.count_of-count.ensures.count ∙ ap length c.deref.ensures.value in
    let taken = two_taken c.in-Ok-new-3.hub (c.count_of-count.result + 4) (c.count_of-count.result + 2) c.in-Ok-new-3.hub_seats.items
    c.take_hub_seat-halt.new.seats.items c.take_hub_seat-fetches.new.seats.items c.take_hub_seat-halt.result c.take_hub_seat-fetches.result
    (omega arith) (omega (arith, c.in-Ok-new-3.hub_seats.ok.0, c.in-Ok-new-3.ensures.count)) c.in-Ok-new-3.ensures.each c.take_hub_seat-halt.ensures
    c.take_hub_seat-fetches.ensures in
    let origin = c.in-Ok-new-2.ensures.cell.0 ∙ ap (λ x. fresh_station x c.in-Ok-new.station.host) c.in-Ok-new.ensures.config
    ∙ ap (fresh_station c.args.config) c.in-Ok-new.ensures.host in
    let it = have_ended c.args.config c.args.host c.in-Ok-new-2.cell c.in-Ok-new-3.hub origin g.W.L.Link.handed g.W.L.Link.sent g.W.L.Link.fault_count g.G.Program.task
    programs c.args.rounds c.args.ports.now c.take_hub_seat-fetches.result c.in-Ok.link c.in-Ok-run_jobs.ends.items c.in-Ok-run_jobs.halt
    (omega (arith, c.in-Ok-new-2.ensures.cell.1, counted)) (omega (arith, c.in-Ok-new-3.ensures.seats, counted))
    (omega (arith, c.in-Ok-new-3.ensures.programs, counted)) (omega (arith, counted, c.count_of-count.ensures.few)) c.requires.apart
    (new_seat c.in-Ok-new-3.hub c.take_hub_seat-fetches.result taken.fetches_new) (ap hub_stand_of taken.fetches_new.1) c.requires.ports.stations
    c.in-Ok-run_jobs.ensures.ended in
    sent_as g.W.L.Link.handed g.W.L.Link.sent g.W.L.Link.fault_count c.args.config c.args.host c.in-Ok-new-2.cell c.in-Ok-new-3.hub c.args.rounds
    c.args.ports.now (map (program_task g.G.Program.task) programs) c.in-Ok.link c.in-Ok-run_jobs.ends.items c.in-Ok-run_jobs.halt c.args.plan
    (g.W.Wire.sent c.args.wire.now) (g.W.Wire.sent c.open.new.self) (g.W.Wire.sent c.record_of.new.wire) c.record_of.result c.in-Ok.ensures.sent
    c.in-Ok.ensures.unsent it c.in-Ok-new-3.ensures.stations c.in-Ok-new-3.ensures.plan c.record_of.ensures.sent

pub returns-in-Ok-run_jobs-clause-fault : goal.returns-in-Ok-run_jobs-clause-fault
returns-in-Ok-run_jobs-clause-fault g c =
    fault_as (g.W.Wire.fault_count c.args.wire.now) (g.W.Wire.fault_count c.open.new.self) (g.W.Wire.fault_count c.record_of.new.wire)
    (g.C.Crew.fault_count c.args.crew.now) (g.C.Crew.fault_count c.run_jobs.new.crew) c.record_of.result c.in-Ok.ensures.cause.kept
    c.in-Ok-run_jobs.ensures.crew.0 c.record_of.ensures.fault

pub returns-clause-fault : goal.returns-clause-fault
returns-clause-fault g c =
    crew_refused (Unit {0}) (Unit {0}) (g.W.Wire.fault_count c.args.wire.now) (g.W.Wire.fault_count c.open.new.self) (g.C.Crew.fault_count c.args.crew.now)
    (g.C.Crew.fault_count c.run_jobs.new.crew) (g.C.Crew.job_count c.args.crew.now) 0
    (g.C.Crew.job_count c.run_jobs.new.crew) c.in-Err.why c.in-Ok.ensures.cause.kept c.in-Err.ensures.crew
