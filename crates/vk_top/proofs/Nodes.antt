-- The answer to a scenario for one station.
use Rattle.std.proofs.Common.{◌≡◌, ℕ, ◌+◌, ◌<◌, ◌≤◌, ◌==◌, min, IfOk, OnOk, ◌||◌, Bool, true, false, List, [], ◌∷◌, length, Result, Ok, Err, ◌⊎◌, inl, inr, ap, subst, sym, arith, refl}
use Rattle.std.proofs.lemmas.Bool.{and_parts, eqb-true}
use Rattle.vk_types.specs.Types.{ProcessSpec}
use Rattle.vk_base.specs.Settings.{has_process, has_station}
use Rattle.vk_event.specs.declared.port.StationPort.{StationPort}
use Rattle.vk_event.specs.declared.scenario.Scenario.{Scenario}
use Rattle.vk_event.specs.NodeLaws.{node_text, one_log}
use Rattle.vk_event.specs.Nodes.{nodes_of}
use Rattle.vk_event.specs.Ports.{ArePortsAbove, has_all_ports, has_port, have_ports}
use Rattle.vk_event.specs.Scenario.{HasScenarioProcess, scenario_of}
use Rattle.vk_event.specs.ScenarioLaws.{IsLawfulScenario}
use Rattle.vk_program.specs.declared.assigned.Assigned.{Assigned}
use Rattle.vk_rules.specs.Each.{Each}
use Rattle.vk_rules.proofs.Lists.{each_both}
use Rattle.vk_schedule.specs.declared.schedule.TextRefusal.{TextRefusal}
use Rattle.vk_schedule.specs.declared.schedule.TextRefusal.TheVariants as texts
use Rattle.vk_schedule.specs.declared.log.StationLog.{StationLog}
use Rattle.vk_event.proofs.ScenarioRefusals.{no_limit, no_want}
use Rattle.vk_top.proofs.Runs.{some_process}
use Rattle.vk_top.proofs.Stations.{station_have, station_own}
use Rattle.vk_top.specs.declared.program.TopProgram.{TopProgram}
use Rattle.vk_top.specs.declared.status.Status.{Status}
use Rattle.vk_top.specs.declared.status.Status.TheVariants as status
use Rattle.vk_top.specs.declared.top.TextOutput.{TextOutput}
use Rattle.v_run.specs.declared.run_end.RunEnd.TheVariants as ends
use Rattle.vk_top.specs.Nodes.{IsNodeFailure, Passed, TellsNode, for_station, jobs_at, node_asked, node_end, node_scenario}
use Rattle.vk_top.specs.Programs.{AreTopPrograms, assignments_at, tasks_at}
use Rattle.vk_top.specs.Statuses.{refused, refused_node}
use Rattle.vk_top.specs.Threaded.{IsTextRefusal, IsThreadedRefusal, IsThreadedWork, counted, ended, scenario_status}
use Rattle.vk_edge.proofs.Answers.{tells_none}
use Rattle.vk_edge.specs.Answers.{TellsFaults}
use Rattle.vk_udp.specs.Node.{HavePort, IsNodeRecord, IsProcessAt, TellsNodeFault, TellsNodeJobs}
use Rattle.vk_udp.specs.declared.record.NodeRefusal.{NodeRefusal}
use Rattle.vk_udp.specs.declared.record.NodeRefusal.TheVariants as nodes

-- Which scenario is one for the station.

pub node_refused : (host : ℕ) (text : List ℕ) (e : TextRefusal) →
    ((e ≡ texts.NoMemory) × HasScenarioProcess text) ⊎ (scenario_of text ≡ Err e) →
    IsTextRefusal (node_asked host) text (refused e)
node_refused host text (texts.BadInput line) (inl wanted) = absurd (grind (arith, wanted))
node_refused host text (texts.BadInput line) (inr bad) = ap (scenario_status ends.Done) (ap (for_station host text) bad)
node_refused host text texts.Limit (inl wanted) = absurd (grind (arith, wanted))
node_refused host text texts.Limit (inr bad) = absurd (no_limit text bad)
node_refused host text texts.NoMemory (inl wanted) = some_process text wanted.1
node_refused host text texts.NoMemory (inr bad) = absurd (no_want text bad)

-- Where the run of the station came to no end.

module _ (wire wire_now crew crew_now : ℕ) where
  pub node_tells_crew : (e : NodeRefusal) → TellsNodeFault {T = Unit {0}} wire wire_now crew crew_now (Err e) →
      TellsFaults status.CrewFault (refused_node e) crew crew_now
  node_tells_crew nodes.LinkFault told = tells_none status.CrewFault status.LinkFault crew crew_now (λ is. grind (arith, is)) told.1
  node_tells_crew nodes.CrewFault told = record { answered = λ is. told.1; told = λ more. refl }
  node_tells_crew nodes.NoMemory told = tells_none status.CrewFault status.NoMemory crew crew_now (λ is. grind (arith, is)) told.1

  pub node_tells_link : (e : NodeRefusal) → TellsNodeFault {T = Unit {0}} wire wire_now crew crew_now (Err e) →
      TellsFaults status.LinkFault (refused_node e) wire wire_now
  node_tells_link nodes.LinkFault told = record { answered = λ is. told.0; told = λ more. refl }
  node_tells_link nodes.CrewFault told = tells_none status.LinkFault status.CrewFault wire wire_now (λ is. grind (arith, is)) told.0
  node_tells_link nodes.NoMemory told = tells_none status.LinkFault status.NoMemory wire wire_now (λ is. grind (arith, is)) told.0

module _ (host : ℕ) (text : List ℕ) (s : Scenario) (before now : ℕ) (small : length text ≤ 16777216) (is : node_scenario host text ≡ Ok s) where
  pub node_grown : now ≡ counted before (jobs_at host s) → IsNodeFailure host before now status.NoMemory text
  node_grown grown = inr (jobs_at host s, record { small = small; scenario = s; text = is; count = refl }, grown)

  node_left : (e : NodeRefusal) → TellsNodeJobs {T = Unit {0}} before (counted before (jobs_at host s)) now (Err e) →
      IsNodeFailure host before now (refused_node e) text
  node_left nodes.LinkFault left = (tt, (jobs_at host s, record { small = small; scenario = s; text = is; count = refl }, left))
  node_left nodes.CrewFault left = (jobs_at host s, record { small = small; scenario = s; text = is; count = refl }, left)
  node_left nodes.NoMemory (inl left) = inl left
  node_left nodes.NoMemory (inr grown) = node_grown grown

  pub node_failed : (Unasked : Type 0) (e : NodeRefusal) → 0 < length text →
      TellsNodeJobs {T = Unit {0}} before (counted before (jobs_at host s)) now (Err e) →
      IsThreadedRefusal (node_asked host) (IsNodeFailure host before now) Unasked text (refused_node e)
  node_failed Unasked nodes.LinkFault some left = node_left nodes.LinkFault left
  node_failed Unasked nodes.CrewFault some left = node_left nodes.CrewFault left
  node_failed Unasked nodes.NoMemory some left = (some, node_left nodes.NoMemory left)

-- What the run of the station asks for.

pub station_processes : (s : Scenario) (host : ℕ) (programs : List (Assigned TopProgram)) → IsLawfulScenario s →
    AreTopPrograms (tasks_at host s.tasks) programs → Each (IsProcessAt s.config.specs host) programs
station_processes s host programs lawful are =
    each_both (λ (a : Assigned TopProgram). has_process s.config.specs a.pid ≡ true) (λ (a : Assigned TopProgram). a.pid.host ≡ host)
    programs (station_have s host programs lawful are) (station_own s host programs lawful are)

ports_above : (specs : List ProcessSpec) (last : ℕ) (ports : List StationPort) → ArePortsAbove specs last ports →
    Each (λ (p : StationPort). has_station specs p.host ≡ true) ports
ports_above specs last [] are = tt
ports_above specs last (p ∷ ps) are = ((and_parts (has_station specs p.host) _ are.1).0, ports_above specs p.host ps are.2)

own_or : (ports : List StationPort) (host h : ℕ) (b rest : Bool) → (h == host) ≡ b → (b || rest) ≡ true → has_port ports h ≡ true →
    (rest ≡ true → has_port ports host ≡ true) → has_port ports host ≡ true
own_or ports host h true rest is either own others = subst (λ x. has_port ports x ≡ true) (eqb-true h host is) own
own_or ports host h false rest is either own others = others either

own_port : (ports : List StationPort) (host : ℕ) (specs : List ProcessSpec) → has_station specs host ≡ true →
    have_ports specs ports ≡ true → has_port ports host ≡ true
own_port ports host [] there have = absurd (cc)
own_port ports host (p ∷ specs) there have =
    let parts = and_parts (has_port ports p.pid.host) (have_ports specs ports) have in
    own_or ports host p.pid.host (p.pid.host == host) (has_station specs host) refl there parts.0
    (λ is. own_port ports host specs is parts.1)

pub station_ports : (s : Scenario) (host : ℕ) → IsLawfulScenario s → has_all_ports s.config.specs s.ports host ≡ true →
    HavePort s.config.specs host s.ports
station_ports s host lawful has =
    let parts = and_parts (has_station s.config.specs host) (have_ports s.config.specs s.ports) has in
    record {
      stations = ports_above s.config.specs 0 s.ports lawful.ports;
      own = own_port s.ports host s.config.specs parts.0 parts.1;
    }

-- What is written of a node.

pub node_told : (host : ℕ) (before now : Passed) (text : List ℕ) (s : Scenario) (limited : Bool) (log : StationLog) (r : Result TextOutput Status) →
    length text ≤ 16777216 → node_scenario host text ≡ Ok s →
    IsNodeRecord s.config host s.rounds (assignments_at host s.tasks) before.handed now.handed limited log →
    now.jobs ≡ min (before.jobs + jobs_at host s) 18446744073709551615 →
    OnOk r (nodes_of (node_text s.config host log.events) ≡ Ok (one_log s.config host log.events)) →
    IfOk r (λ w. (w.text.items ≡ node_text s.config host log.events) × (w.status ≡ ended (node_end limited))) →
    IfOk r (IsThreadedWork (TellsNode host before now) (node_asked host) text)
node_told host before now text s limited log (Err e) small is record_is jobs read work = tt
node_told host before now text s limited log (Ok w) small is record_is jobs read work = record {
  end = node_end limited;
  tells = record {
    limited = limited;
    ends_so = refl;
    scenario = s;
    events = log.events;
    ran = record {
      small = small;
      text = is;
      handed = record_is.handed;
      told = record_is.told;
      ran = record_is.is.ran;
      jobs = jobs;
      read = read;
    };
    lines = work.0;
  };
  status = work.1;
  asked_for = ap (scenario_status (node_end limited)) (sym is);
}
