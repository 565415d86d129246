-- What has come back once all jobs of a node have ended.
use Rattle.std.specs.Prelude.{ℕ, ◌≡◌, ◌+◌, ◌++◌, true, false, Option, List, [], ◌∷◌, length, map, option_map}
use mathlib.Core.List.{IsPrefix}
use Rattle.vk_types.specs.Types.{Answer, Call}
use Rattle.turn_cell.specs.Seats.{Cell, IsSeatOf, Sitting}
use Rattle.vk_base.specs.Settings.{Settings}
use Rattle.vk_event.specs.declared.port.StationPort.{StationPort}
use Rattle.vk_hub.specs.declared.event.HubEvent.{HubEvent}
use Rattle.vk_hub.specs.Hubs.{HubLog}
use Rattle.vk_hub.specs.Links.{Frame}
use Rattle.vk_io.specs.Causes.{Rose}
use Rattle.vk_port.specs.Ports.{PortValue}
use Rattle.vk_port.specs.Stations.{StationHistory}
use Rattle.vk_program.specs.declared.assigned.Assigned.{Assigned}
use Rattle.vk_rules.specs.Each.{Each}
use Rattle.v_node.specs.Closed.{IsLinkWay}
use Rattle.v_node.specs.Jobs.{AreNodeJobs, ClockEnd, LinkEnd, passages_in}
use Rattle.v_node.specs.Jobs.{NodeEnd as AllEnds}
use Rattle.v_node.specs.Links.{nothing_heard}
use Rattle.v_run.specs.Jobs.{JobEnd}
use Rattle.v_run.specs.Outcomes.{Assignment}
use Rattle.v_run.specs.Passages.{IsPassage, Passage, Pumps, host_of}
use Rattle.v_run.specs.Runs.{passages_of, tasks_of}
use Rattle.vk_threads.specs.declared.end.End.{End}
use Rattle.vk_threads.specs.Ended.{AreEndsOf}
use Rattle.vk_threads.specs.Ends.{EndsProcess}
use Rattle.vk_udp.specs.declared.work.Carried.{Carried}
use Rattle.vk_udp.specs.declared.work.NodeEnd.{NodeEnd}
use Rattle.vk_udp.specs.declared.work.NodeEnd.TheVariants as ends
use Rattle.vk_udp.specs.Asked.{HasCarried}
use Rattle.vk_udp.specs.Dealt.{IsNodePort}
use Rattle.vk_udp.specs.Docked.{duty_of}
use Rattle.vk_udp.specs.Gathered.{own_end, site_of}
use Rattle.vk_udp.specs.Jobs.{EndsCarrier, EndsClock}
use Rattle.vk_udp.specs.Values.{CarrierDuty, ClockDuty}
use Rattle.vk_udp.specs.Wires.{Datagram}

-- A program's job, which had a port of the station, may end so.
pub record EndsProgram {G : Type 0} (task : G → List Answer → Option Call) (cell : Cell StationHistory) (hub : Cell HubLog) (host : ℕ)
    (a : Assigned G) (e : End) : Type 0 where
  pub port : PortValue
  pub at : IsNodePort cell hub host false port
  pub ended : EndsProcess port a.pid (task a.program) e.seats.items e.met

-- The ends of all jobs: those of the programs, the clock's with this duty, and that of what carried frames.
abbrev pub AreNodeEnds : {G L : Type 0} → (G → List Answer → Option Call) → (L → Option (List Frame)) → (L → Option (List Datagram))
    → (L → ℕ) → Cell StationHistory → Cell HubLog → ℕ → ClockDuty → CarrierDuty → List (Assigned G) → List (NodeEnd L) → Type 0
AreNodeEnds task handed sent faults cell hub host clock duty [] (ends.Own e ∷ ends.Carried x ∷ []) =
    EndsClock clock.port clock.rounds e.seats.items e.met × EndsCarrier handed sent faults duty x
AreNodeEnds task handed sent faults cell hub host clock duty (a ∷ programs) (ends.Own e ∷ all) =
    EndsProgram task cell hub host a e × AreNodeEnds task handed sent faults cell hub host clock duty programs all
AreNodeEnds task handed sent faults cell hub host clock duty programs all = ⊥

-- All jobs of a node were run, where what carries frames had this duty, and ended so; the seat of the halt is as it was.
pub record HasRunDocked {G L : Type 0} (task : G → List Answer → Option Call) (handed : L → Option (List Frame))
    (sent : L → Option (List Datagram)) (faults : L → ℕ) (cell : Cell StationHistory) (hub : Cell HubLog) (host : ℕ)
    (programs : List (Assigned G)) (rounds : ℕ) (duty : CarrierDuty) (all : List (NodeEnd L)) (halt : Sitting HubLog HubEvent)
    : Type 0 where
  pub clock : ClockDuty
  pub clock_port : IsNodePort cell hub host true clock.port
  pub so_many : clock.rounds ≡ rounds
  pub each_end : AreNodeEnds task handed sent faults cell hub host clock duty programs all
  pub seat : IsSeatOf hub halt
  pub unhalted : halt.mine ≡ []

-- and carried frames to these ports over this link, by a port of the station
pub record HasRunNodeJobs {G L : Type 0} (task : G → List Answer → Option Call) (handed : L → Option (List Frame))
    (sent : L → Option (List Datagram)) (faults : L → ℕ) (cell : Cell StationHistory) (hub : Cell HubLog) (host : ℕ)
    (programs : List (Assigned G)) (rounds : ℕ) (ports : List StationPort) (fetches : Sitting HubLog HubEvent) (link : L)
    (all : List (NodeEnd L)) (halt : Sitting HubLog HubEvent) : Type 0 where
  pub port : PortValue
  pub at : IsNodePort cell hub host false port
  pub ran : HasRunDocked task handed sent faults cell hub host programs rounds (duty_of handed sent faults port fetches ports link) all halt

-- The clock's job and the link's, as other jobs are: what the link's port did, as a passage.
abbrev pub clock_job : ClockEnd → JobEnd
clock_job k = record { passages = k.passage ∷ []; met = k.met }

abbrev pub link_passage : LinkEnd → Passage
link_passage l = record { berth = l.berth; actions = l.actions; left = l.left; role = Pumps; last = l.last }

abbrev pub link_job : LinkEnd → JobEnd
link_job l = record { passages = link_passage l ∷ []; met = l.met }

abbrev pub all_jobs : AllEnds → List JobEnd
all_jobs n = n.programs ++ clock_job n.clock ∷ link_job n.link ∷ []

-- The seat that fetched came back so from the link's job.
pub record HasFetched (hub : Cell HubLog) (l : LinkEnd) (seat : Sitting HubLog HubEvent) : Type 0 where
  pub of : IsSeatOf hub seat
  pub number : seat.number ≡ l.carrier
  pub reached : IsPrefix l.reached.heard seat.seen
  pub carried : seat.mine ≡ l.reached.sent ++ l.rest

-- ALL JOBS OF A NODE HAVE ENDED, of these tasks and so many rounds: what they did are jobs of a node, all seats of the station and of the
-- hub have come back, and the halt's has entered nothing.
pub record HaveNodeEnded (c : Settings) (host : ℕ) (cell : Cell StationHistory) (hub : Cell HubLog) (rounds : ℕ) (tasks : List Assignment)
    (n : AllEnds) (all : List End) (fetches halt : Sitting HubLog HubEvent) : Type 0 where
  pub each_end : AreEndsOf (site_of host cell ∷ []) hub all (all_jobs n)
  pub fetched : HasFetched hub n.link fetches
  pub passages : Each (IsPassage c hub.origin) (passages_in n)
  pub here : Each (λ (g : Passage). host_of g ≡ host) (passages_in n)
  pub way : IsLinkWay c host hub.origin n.link
  pub are_jobs : AreNodeJobs c host hub.origin rounds n
  pub are_tasks : tasks_of (passages_of n.programs) ≡ tasks
  pub seats : length (passages_in n) + 1 ≡ cell.seats
  pub hub_seats : length (passages_in n) + 3 ≡ hub.seats
  pub halt_seat : IsSeatOf hub halt
  pub unhalted : halt.mine ≡ []

-- and these are their ends, of which the last one's link was `start`, and carried frames to these ports
pub record HasNodeEnds {L : Type 0} (handed : L → Option (List Frame)) (sent : L → Option (List Datagram)) (faults : L → ℕ) (c : Settings)
    (host : ℕ) (cell : Cell StationHistory) (hub : Cell HubLog) (rounds : ℕ) (ports : List StationPort) (tasks : List Assignment)
    (start : L) (all : List (NodeEnd L)) (halt : Sitting HubLog HubEvent) : Type 0 where
  pub n : AllEnds
  pub front : List (NodeEnd L)
  pub last : Carried L
  pub are : all ≡ front ++ ends.Carried last ∷ []
  pub ended : HaveNodeEnded c host cell hub rounds tasks n (map own_end front ++ last.end ∷ []) last.hub_seat halt
  pub told : handed last.link ≡ option_map (λ all. all ++ n.link.handed) (handed start)
  pub carried : HasCarried n.link.carrier hub.origin nothing_heard ports n.link.reached n.link.errands (sent start) (sent last.link)
  pub failed : n.link.failed ≡ true → Rose (faults start) (faults last.link)
