use Rattle.std.proofs.Common.{List, rules, subst}
use Rattle.vk_types.specs.Types.{ProcessSpec}
use Rattle.vk_threads.specs.Gathered.{HaveClosed}
use Rattle.vk_threads.proofs.Recorded.{all_ready, asked, hub_all, hub_count, none_refused, ran}
use Rattle.vk_threads.proofs.record.record_of.Goals as goal

pub close_run-requires-clause-ready : goal.close_run-requires-clause-ready
close_run-requires-clause-ready g c =
    let t = c.requires.ended in
    all_ready c.args.config c.args.sites.items c.args.hub c.args.rounds t.0 c.args.ends.items c.args.halt c.requires.sites t.1

pub close_run-requires-clause-seats : goal.close_run-requires-clause-seats
close_run-requires-clause-seats g c =
    let t = c.requires.ended in
    hub_all c.args.config c.args.sites.items c.args.hub c.args.rounds t.0 c.args.ends.items c.args.halt c.requires.sites t.1

pub close_run-requires-clause-all : goal.close_run-requires-clause-all
close_run-requires-clause-all g c =
    let t = c.requires.ended in
    hub_count c.args.config c.args.sites.items c.args.hub c.args.rounds t.0 c.args.ends.items c.args.halt c.requires.sites t.1

pub merge_stations-requires-clause-asked : goal.merge_stations-requires-clause-asked
merge_stations-requires-clause-asked g c =
    let t = c.requires.ended in
    asked c.args.config c.args.sites.items c.args.hub c.args.rounds t.0 c.args.ends.items c.args.halt c.requires.sites t.1
    c.in-Ok.closed
    (subst (λ (l : List ProcessSpec). HaveClosed l c.args.rounds c.args.sites.items c.args.hub c.args.ends.items c.args.halt c.in-Ok.closed)
    c.specs.ensures.specs c.in-Ok.ensures) c.closed_runs_are_joined.ensures.asked c.times-lawful.ensures.lawful

pub merge_stations-requires-clause-none : goal.merge_stations-requires-clause-none
merge_stations-requires-clause-none g c =
    let t = c.requires.ended in
    none_refused c.args.config c.args.sites.items c.args.hub c.args.rounds t.0 c.args.ends.items c.args.halt c.requires.sites t.1
    c.in-Ok.closed
    (subst (λ (l : List ProcessSpec). HaveClosed l c.args.rounds c.args.sites.items c.args.hub c.args.ends.items c.args.halt c.in-Ok.closed)
    c.specs.ensures.specs c.in-Ok.ensures) c.closed_runs_are_joined.ensures.joined

pub returns-in-Ok-merge_stations : goal.returns-in-Ok-merge_stations
returns-in-Ok-merge_stations g c = record {
  ran = λ tasks ended.
      ran c.args.config c.args.sites.items c.args.hub c.args.rounds tasks c.args.ends.items c.args.halt c.requires.sites ended
      c.in-Ok.closed
      (subst (λ (l : List ProcessSpec). HaveClosed l c.args.rounds c.args.sites.items c.args.hub c.args.ends.items c.args.halt c.in-Ok.closed)
      c.specs.ensures.specs c.in-Ok.ensures) (search rules) c.joined_runs_are_runs.ensures c.merge_stations.ensures.given
      c.in-Ok-merge_stations.schedule c.in-Ok-merge_stations.ensures.joined c.end_of-end.result (search rules) (search rules) (search rules);
  refused = tt;
}
