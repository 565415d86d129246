-- The record of a node, from what was closed.
use Rattle.std.proofs.Common.{◌≡◌, ◌≤◌, ◌==◌, ◌&&◌, ℕ, Bool, true, false, List, [], ◌∷◌, length, map, refl, sym, ap, ◌∙◌, subst, arith}
use Rattle.std.specs.List.{AllByRecursion, list_all, list_any}
use Rattle.std.proofs.lemmas.Bool.{and_from, and_parts}
use Rattle.std.proofs.lemmas.List.{length-map}
use Rattle.std.proofs.Math.Nat.{div-le_self}
use Rattle.vk_types.specs.Types.{Pid, ProcessSpec, StationEvent}
use Rattle.turn_cell.specs.Seats.{Cell, Sitting}
use Rattle.vk_base.specs.declared.event.StationEvent.TheVariants as events
use Rattle.vk_base.specs.declared.limits.TheConstants.{EVENTS}
use Rattle.vk_base.specs.Pids.{IsPid}
use Rattle.vk_base.specs.Settings.{AreLawful, Settings, has_process, has_station, stations_of}
use Rattle.vk_event.specs.NodeLaws.{IsReadableOwn}
use Rattle.vk_event.specs.Nodes.{is_own as is_own_at}
use Rattle.vk_hub.specs.Hubs.{HubLog}
use Rattle.vk_hub.specs.declared.event.HubEvent.{HubEvent}
use Rattle.vk_hub.specs.Links.{Frame}
use Rattle.vk_join.specs.Logs.{IsReadableEvent}
use Rattle.vk_port.specs.Stations.{StationHistory, entries_after, event_of, is_own}
use Rattle.vk_rules.specs.Each.{Each}
use Rattle.vk_schedule.specs.declared.log.StationLog.{StationLog}
use Rattle.v_node.specs.Jobs.{NodeEnd as AllEnds}
use Rattle.v_node.specs.Laws.{ClosedNodesAreRuns, IsHeld}
use Rattle.v_node.specs.Links.{delivered_in}
use Rattle.v_node.specs.Outcomes.{IsNodeRun}
use Rattle.v_node.specs.Sent.{AreOwnFrames, NodesSendTheirOwn}
use Rattle.v_run.specs.Outcomes.{Assignment}
use Rattle.v_run.specs.Passages.{fresh_station}
use Rattle.vk_threads.specs.declared.end.End.{End}
use Rattle.vk_threads.specs.Gathered.{met_full, met_no_memory}
use Rattle.vk_udp.specs.Ended.{HaveNodeEnded}
use Rattle.vk_udp.specs.Gathered.{Fits, HasClosedNode}
use Rattle.vk_udp.specs.Node.{IsRecordOf}
use Rattle.vk_udp.proofs.Closed.{events as events_are, history, is_closed, lawful, log_host, none_met, some_met}

-- each field is in its range, as the texts of stations ask
ranges : (es : List StationEvent) → Each IsReadableEvent es → Each Fits es → Each (λ (f : Frame). 33 ≤ length f) (delivered_in es)
    → AllByRecursion IsReadableOwn es
ranges [] read fit long = tt
ranges (events.Call pid call ∷ es) read fit long = (read.0, ranges es read.1 fit.1 long)
ranges (events.Collect pid ∷ es) read fit long = (read.0, ranges es read.1 fit.1 long)
ranges (events.Tick ∷ es) read fit long = (tt, ranges es read.1 fit.1 long)
ranges (events.Deliver frame ∷ es) read fit long =
    let more : 33 ≤ length frame = long.0 in
    (record { more = omega (arith, more); most = fit.0; bytes = read.0 }, ranges es read.1 fit.1 long.1)

-- and who acts is a process of the station
own_pid : (specs : List ProcessSpec) (host : ℕ) (pid : Pid) → (has_process specs pid && (pid.host == host)) ≡ true
    → (pid.host == host && has_process specs pid) ≡ true
own_pid specs host pid own =
    let parts = and_parts (has_process specs pid) (pid.host == host) own in
    and_from (pid.host == host) (has_process specs pid) parts.1 parts.0

own_event : (c : Settings) (host : ℕ) (e : StationEvent) → is_own (fresh_station c host) e ≡ true → is_own_at c.specs host e ≡ true
own_event c host (events.Call pid call) own = own_pid c.specs host pid own
own_event c host (events.Collect pid) own = own_pid c.specs host pid own
own_event c host events.Tick own = refl
own_event c host (events.Deliver frame) own = refl

own_events : (c : Settings) (host : ℕ) (es : List StationEvent) → Each (λ (e : StationEvent). is_own (fresh_station c host) e ≡ true) es
    → list_all (is_own_at c.specs host) es ≡ true
own_events c host [] own = refl
own_events c host (e ∷ es) own =
    and_from (is_own_at c.specs host e) (list_all (is_own_at c.specs host) es) (own_event c host e own.0) (own_events c host es own.1)

module _ (c : Settings) (host : ℕ) (cell : Cell StationHistory) (hub : Cell HubLog) (rounds : ℕ) (tasks : List Assignment) (n : AllEnds)
    (ends : List End) (fetches halt : Sitting HubLog HubEvent) (origin : cell.origin ≡ fresh_station c host)
    (ended : HaveNodeEnded c host cell hub rounds tasks n ends fetches halt) (log : StationLog)
    (closed : HasClosedNode host cell hub ends fetches halt log) where
  abbrev past : List (ℕ × StationEvent)
  past = history c host cell hub rounds tasks n ends fetches halt origin ended log closed

  abbrev same : log.events ≡ map event_of past
  same = events_are c host cell hub rounds tasks n ends fetches halt origin ended log closed

  pub recorded : ClosedNodesAreRuns → AreLawful c → Each (λ (s : ProcessSpec). IsPid s.pid) c.specs → Each IsReadableEvent log.events
      → Each Fits log.events → (was_limited : Bool) → list_any met_no_memory ends ≡ false → list_any met_full ends ≡ was_limited
      → n.link.failed ≡ false → IsRecordOf c host rounds tasks n.link.handed was_limited log
  recorded law are_lawful pids read fit was_limited wanting full failed =
      let sound = lawful c host cell hub rounds tasks n ends fetches halt origin ended log closed in
      let at = log_host c host cell hub rounds tasks n ends fetches halt origin ended log closed in
      let held : IsHeld c (map event_of past) = record { lawful = are_lawful; pids = pids; readable = subst (Each IsReadableEvent) same read } in
      let was = law c host hub.origin rounds past closed.heard n was_limited
      (is_closed c host cell hub rounds tasks n ends fetches halt origin ended log closed) ended.are_jobs sound held failed
      (λ none. none_met c host cell hub rounds tasks n ends fetches halt origin ended log closed wanting (full ∙ none))
      (λ is. some_met c host cell hub rounds tasks n ends fetches halt origin ended log closed (full ∙ is)) in
      let ran : IsNodeRun c host rounds tasks was_limited n.link.handed log.events =
      subst (λ (es : List StationEvent). IsNodeRun c host rounds tasks was_limited n.link.handed es) (sym same)
      (subst (λ (l : List Assignment). IsNodeRun c host rounds l was_limited n.link.handed (map event_of past)) ended.are_tasks was) in
      let few = sound.entries in
      let share = div-le_self EVENTS (length (stations_of c.specs)) in
      let size = ap length same ∙ length-map past event_of in
      record {
        at = at;
        ran = ran;
        lawful = record {
          station = ap (has_station c.specs) at ∙ sound.station;
          ranges = ranges log.events read fit ran.long;
          own = subst (λ (h : ℕ). list_all (is_own_at c.specs h) log.events ≡ true) (sym at) (own_events c host log.events ran.own);
        };
        few = omega (arith, few, share, size);
      }

  pub sends_own : NodesSendTheirOwn → AreLawful c → Each (λ (s : ProcessSpec). IsPid s.pid) c.specs → Each IsReadableEvent log.events
      → AreOwnFrames hub.origin.plan host n.link.errands (entries_after c host log.events)
  sends_own law are_lawful pids read =
      let held : IsHeld c (map event_of past) = record { lawful = are_lawful; pids = pids; readable = subst (Each IsReadableEvent) same read } in
      subst (λ (es : List StationEvent). AreOwnFrames hub.origin.plan host n.link.errands (entries_after c host es)) (sym same)
      (law c host hub.origin rounds past closed.heard n (is_closed c host cell hub rounds tasks n ends fetches halt origin ended log closed)
      ended.are_jobs (lawful c host cell hub rounds tasks n ends fetches halt origin ended log closed) held)
