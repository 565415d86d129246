use Rattle.std.proofs.Common.{arith}
use Rattle.std.proofs.lemmas.List.{length-map, length-set}
use Rattle.vk_rules.specs.Laws.{station_of}
use Rattle.vk_host.specs.Responses.{answer_of}
use Rattle.vk_cluster.specs.Clusters.{cluster_of}
use Rattle.vk_cluster.specs.Events.{input_with}
use Rattle.vk_cluster.specs.Piles.{items_of}
use Rattle.vk_cluster.proofs.Arms.{event_happens, event_input, events_low, few_at, fit_at, found_here, host_is, missing_step, none_happens, of_process, own_event, place_low, station_step}
use Rattle.vk_cluster.proofs.Logs.{get_set_same}
use Rattle.vk_cluster.proofs.cluster.ClusterParts.play.Goals as goal

pub frame_with-requires : goal.frame_with-requires
frame_with-requires c = record { kept = c.requires.somewhere.2.stands.kept; actors = c.requires.actors }

pub index_mut-requires : goal.index_mut-requires
index_mut-requires c =
    let low = place_low (cluster_of c.args.self.now) c.requires.somewhere c.args.place (station_of c.args.event.now) c.requires.place in
    omega (arith, c.args.self.now.hosts.ok.0)

pub respond-requires : goal.respond-requires
respond-requires c =
    let v = cluster_of c.args.self.now in
    let some = c.requires.somewhere in
    let e = c.args.event.now in
    let s = c.index_mut.result.now in
    let found = found_here v some c.args.place (station_of e) c.requires.place s c.index_mut.ensures.value in
    record {
      few = few_at v some c.args.place (station_of e) c.requires.place s found;
      own = own_event v some c.args.place e c.requires.place s found c.requires.actors;
    }

pub finish-requires : goal.finish-requires
finish-requires c =
    let v = cluster_of c.args.self.now in
    let some = c.requires.somewhere in
    let e = c.args.event.now in
    let s = c.index_mut.result.now in
    let found = found_here v some c.args.place (station_of e) c.requires.place s c.index_mut.ensures.value in
    let t = c.respond.new.host in
    let host = host_is v some c.args.place (station_of e) c.requires.place s found in
    let frame = c.in-Some.frame.now in
    let input = event_input c.frames_unseal_again.ensures v some e frame c.in-Some.ensures s.host host in
    let fit =
    fit_at v some c.args.place (station_of e) c.requires.place s t (input_with frame e) (answer_of t c.respond.new.into) found input
    c.respond.ensures in
    record {
      count = c.requires.few;
      place =
          let low = place_low v some c.args.place (station_of e) c.requires.place in
          omega (arith, length-set v.hosts c.args.place t);
      events =
          let low = events_low v some c.args.place (station_of e) c.requires.place in
          omega (arith, length-map c.args.self.now.emitted.events.items items_of);
      kept = some.2.stands.kept;
      room = c.requires.room;
      few = fit.few;
      bytes = fit.bytes;
    }

pub returns-in-Some : goal.returns-in-Some
returns-in-Some c =
    let v = cluster_of c.args.self.now in
    let some = c.requires.somewhere in
    let e = c.args.event.now in
    let s = c.index_mut.result.now in
    let found = found_here v some c.args.place (station_of e) c.requires.place s c.index_mut.ensures.value in
    let t = c.respond.new.host in
    let host = host_is v some c.args.place (station_of e) c.requires.place s found in
    let frame = c.in-Some.frame.now in
    let input = event_input c.frames_unseal_again.ensures v some e frame c.in-Some.ensures s.host host in
    station_step v (cluster_of c.finish.new.self) c.args.place s t (input_with frame e) c.respond.new.into e found
    c.respond.ensures input c.requires.few (of_process v.config.specs e c.requires.actors)
    (event_happens c.frames_unseal_again.ensures v e frame c.in-Some.ensures s.host host)
    (c.finish.ensures t (get_set_same v.hosts c.args.place t s found))

pub returns-in-None : goal.returns-in-None
returns-in-None c =
    let v = cluster_of c.args.self.now in
    let e = c.args.event.now in
    missing_step v (cluster_of c.missing.new.self) e c.requires.few (of_process v.config.specs e c.requires.actors)
    (λ d es st. none_happens c.frames_unseal_again.ensures v e c.in-None.ensures d es st) c.missing.ensures
