use Rattle.std.proofs.Common.{arith, ap, length, map, ◌∙◌, ◌+◌, sym, subst}
use Rattle.turn_cell.specs.Seats.{Sitting}
use Rattle.vk_hub.specs.declared.event.HubEvent.{HubEvent}
use Rattle.vk_hub.specs.Hubs.{HubLog}
use Rattle.vk_threads.specs.Assigned.{program_task}
use Rattle.vk_threads.specs.Dealt.{IsStocked, hosts_for}
use Rattle.vk_threads.specs.Opened.{AreOpened}
use Rattle.vk_threads.proofs.Dealing.{new_seat}
use Rattle.vk_threads.proofs.WholeRun.{are_sites, have_ended_as, hosts_as, hub_counts, hub_seats_new, opened_as, own_programs, ran_as, some_as, stations_as, stocked}
use Rattle.vk_threads.proofs.run.run_programs.Goals as goal

pub open_all-requires-clause-stations : goal.open_all-requires-clause-stations
open_all-requires-clause-stations g c =
    stations_as c.args.config c.in-Ok.stations.items c.deref-4.result.now c.in-Ok.ensures.stations c.deref-4.ensures.value

pub open_all-requires-clause-some : goal.open_all-requires-clause-some
open_all-requires-clause-some g c =
    some_as c.args.programs.items c.in-Ok.stations.items c.deref-4.result.now c.deref-5.result.now
    (c.deref-5.ensures.value ∙ c.in-Ok-hosts_of.ensures ∙ hosts_as c.args.programs.items c.deref-2.result.now c.in-Ok.stations.items c.deref-3.result.now
    c.deref-2.ensures.value c.deref-3.ensures.value) c.deref-4.ensures.value

pub run_jobs-requires-clause-halt : goal.run_jobs-requires-clause-halt
run_jobs-requires-clause-halt g c κs within =
    new_seat c.in-Ok-open_all.sites.items c.in-Ok-new.hub c.take_hub_seat-halt.result
    (hub_seats_new c.in-Ok-new.hub (c.len.result + 1) c.in-Ok-new.hub_seats.items c.take_hub_seat-halt.new.seats.items c.take_hub_seat-halt.result
    (omega (arith, c.in-Ok-new.hub_seats.ok.0, c.in-Ok-new.ensures.count)) c.in-Ok-new.ensures.each c.take_hub_seat-halt.ensures).1

pub run_jobs-requires-clause-unhalted : goal.run_jobs-requires-clause-unhalted
run_jobs-requires-clause-unhalted g c κs within =
    ap (λ (s : Sitting HubLog HubEvent). s.mine)
    (hub_seats_new c.in-Ok-new.hub (c.len.result + 1) c.in-Ok-new.hub_seats.items c.take_hub_seat-halt.new.seats.items c.take_hub_seat-halt.result
    (omega (arith, c.in-Ok-new.hub_seats.ok.0, c.in-Ok-new.ensures.count)) c.in-Ok-new.ensures.each c.take_hub_seat-halt.ensures).1.1

pub run_jobs-requires-clause-stock : goal.run_jobs-requires-clause-stock
run_jobs-requires-clause-stock g c κs within =
    let programs = c.args.programs.items in
    let stations = c.in-Ok.stations.items in
    let hosts = hosts_as programs c.deref-2.result.now stations c.deref-3.result.now c.deref-2.ensures.value c.deref-3.ensures.value in
    let opened = opened_as c.args.config (hosts_for programs stations) c.deref-5.result.now stations c.deref-4.result.now c.in-Ok-open_all.sites.items
    c.in-Ok-open_all.spares.items (c.deref-5.ensures.value ∙ c.in-Ok-hosts_of.ensures ∙ hosts) c.deref-4.ensures.value c.in-Ok-open_all.ensures in
    let new = hub_seats_new c.in-Ok-new.hub (c.len.result + 1) c.in-Ok-new.hub_seats.items c.take_hub_seat-halt.new.seats.items c.take_hub_seat-halt.result
    (omega (arith, c.in-Ok-new.hub_seats.ok.0, c.in-Ok-new.ensures.count)) c.in-Ok-new.ensures.each c.take_hub_seat-halt.ensures in
    let size = ap length (c.in-Ok-hosts_of.ensures ∙ hosts) in
    subst (λ l. IsStocked l c.in-Ok-new.hub c.in-Ok-open_all.spares.items c.take_hub_seat-halt.new.seats.items (hosts_for programs stations))
    (sym c.deref-6.ensures.value)
    (stocked c.args.config c.in-Ok-open_all.sites.items c.in-Ok-new.hub programs stations c.in-Ok-open_all.spares.items
    c.take_hub_seat-halt.new.seats.items c.in-Ok.ensures.stations opened c.requires.processes new.0
    (hub_counts c.take_hub_seat-halt.new.seats.items c.in-Ok-new.hub_seats.items c.take_hub_seat-halt.result (length (hosts_for programs stations))
    (omega (arith, c.in-Ok-new.hub_seats.ok.0, c.in-Ok-new.ensures.count, c.len.ensures, c.in-Ok-hosts_of.hosts.ok.0, size)) c.take_hub_seat-halt.ensures))

pub run_jobs-requires-clause-processes : goal.run_jobs-requires-clause-processes
run_jobs-requires-clause-processes g c κs within =
    let programs = c.args.programs.items in
    let stations = c.in-Ok.stations.items in
    let hosts = hosts_as programs c.deref-2.result.now stations c.deref-3.result.now c.deref-2.ensures.value c.deref-3.ensures.value in
    let opened = opened_as c.args.config (hosts_for programs stations) c.deref-5.result.now stations c.deref-4.result.now c.in-Ok-open_all.sites.items
    c.in-Ok-open_all.spares.items (c.deref-5.ensures.value ∙ c.in-Ok-hosts_of.ensures ∙ hosts) c.deref-4.ensures.value c.in-Ok-open_all.ensures in
    own_programs c.args.config c.deref-6.result.now programs programs stations c.in-Ok-open_all.spares.items
    (subst (λ l. AreOpened c.args.config (hosts_for programs stations) stations l c.in-Ok-open_all.spares.items) (sym c.deref-6.ensures.value) opened)
    c.requires.processes

pub record_of-requires-clause-sites : goal.record_of-requires-clause-sites
record_of-requires-clause-sites g c =
    let programs = c.args.programs.items in
    let stations = c.in-Ok.stations.items in
    let hosts = hosts_as programs c.deref-2.result.now stations c.deref-3.result.now c.deref-2.ensures.value c.deref-3.ensures.value in
    let opened = opened_as c.args.config (hosts_for programs stations) c.deref-5.result.now stations c.deref-4.result.now c.in-Ok-open_all.sites.items
    c.in-Ok-open_all.spares.items (c.deref-5.ensures.value ∙ c.in-Ok-hosts_of.ensures ∙ hosts) c.deref-4.ensures.value c.in-Ok-open_all.ensures in
    are_sites c.args.config c.in-Ok-open_all.sites.items programs stations c.in-Ok-open_all.spares.items c.in-Ok.ensures.stations opened

pub record_of-requires-clause-ended : goal.record_of-requires-clause-ended
record_of-requires-clause-ended g c =
    let programs = c.args.programs.items in
    let stations = c.in-Ok.stations.items in
    let hosts = hosts_as programs c.deref-2.result.now stations c.deref-3.result.now c.deref-2.ensures.value c.deref-3.ensures.value in
    let opened = opened_as c.args.config (hosts_for programs stations) c.deref-5.result.now stations c.deref-4.result.now c.in-Ok-open_all.sites.items
    c.in-Ok-open_all.spares.items (c.deref-5.ensures.value ∙ c.in-Ok-hosts_of.ensures ∙ hosts) c.deref-4.ensures.value c.in-Ok-open_all.ensures in
    let counted = c.count_of-count.ensures.count ∙ ap length c.deref.ensures.value in
    let size = ap length (c.in-Ok-hosts_of.ensures ∙ hosts) in
    let ended = have_ended_as g.G.Program.task c.args.config c.in-Ok-open_all.sites.items c.deref-6.result.now c.in-Ok-new.hub programs stations
    c.args.rounds c.in-Ok-run_jobs.ends.items c.in-Ok-run_jobs.halt c.in-Ok-open_all.spares.items c.in-Ok.ensures.stations opened
    (c.in-Ok-new.ensures.programs ∙ counted) (omega (arith, c.in-Ok-new.ensures.seats, c.len.ensures, c.in-Ok-hosts_of.hosts.ok.0, size))
    (omega (arith, counted, c.count_of-count.ensures.few)) c.in-Ok.ensures.few c.requires.apart c.deref-6.ensures.value c.in-Ok-run_jobs.ensures.ended in
    (map (program_task g.G.Program.task) programs, ended)

pub returns-in-Ok-run_jobs-clause-ran : goal.returns-in-Ok-run_jobs-clause-ran
returns-in-Ok-run_jobs-clause-ran g c =
    let programs = c.args.programs.items in
    let stations = c.in-Ok.stations.items in
    let hosts = hosts_as programs c.deref-2.result.now stations c.deref-3.result.now c.deref-2.ensures.value c.deref-3.ensures.value in
    let opened = opened_as c.args.config (hosts_for programs stations) c.deref-5.result.now stations c.deref-4.result.now c.in-Ok-open_all.sites.items
    c.in-Ok-open_all.spares.items (c.deref-5.ensures.value ∙ c.in-Ok-hosts_of.ensures ∙ hosts) c.deref-4.ensures.value c.in-Ok-open_all.ensures in
    let counted = c.count_of-count.ensures.count ∙ ap length c.deref.ensures.value in
    let size = ap length (c.in-Ok-hosts_of.ensures ∙ hosts) in
    let ended = have_ended_as g.G.Program.task c.args.config c.in-Ok-open_all.sites.items c.deref-6.result.now c.in-Ok-new.hub programs stations
    c.args.rounds c.in-Ok-run_jobs.ends.items c.in-Ok-run_jobs.halt c.in-Ok-open_all.spares.items c.in-Ok.ensures.stations opened
    (c.in-Ok-new.ensures.programs ∙ counted) (omega (arith, c.in-Ok-new.ensures.seats, c.len.ensures, c.in-Ok-hosts_of.hosts.ok.0, size))
    (omega (arith, counted, c.count_of-count.ensures.few)) c.in-Ok.ensures.few c.requires.apart c.deref-6.ensures.value c.in-Ok-run_jobs.ensures.ended in
    ran_as c.record_of.result c.args.config c.in-Ok-open_all.sites.items c.in-Ok-new.hub c.args.plan c.args.rounds (map (program_task g.G.Program.task) programs)
    c.in-Ok-run_jobs.ends.items c.in-Ok-run_jobs.halt c.in-Ok-new.ensures.plan ended c.record_of.ensures.ran
