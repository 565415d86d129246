-- What comes back from the jobs of a node, and what is closed with it.
use Rattle.std.specs.Prelude.{ℕ, ◌≤◌, false, List, [], ◌∷◌, ◌++◌, length}
use Rattle.vk_types.specs.Types.{StationEvent}
use Rattle.turn_cell.specs.Seats.{Cell, Sitting}
use Rattle.vk_base.specs.declared.event.StationEvent.TheVariants as events
use Rattle.vk_base.specs.declared.limits.TheConstants.{FRAME_BYTES}
use Rattle.vk_hub.specs.declared.event.HubEvent.{HubEvent}
use Rattle.vk_hub.specs.Hubs.{HubLog}
use Rattle.vk_port.specs.Stations.{StationHistory}
use Rattle.vk_schedule.specs.declared.log.StationLog.{StationLog}
use Rattle.vk_threads.specs.declared.end.End.{End}
use Rattle.vk_threads.specs.declared.opening.Site.{Site}
use Rattle.vk_threads.specs.Gathered.{AreShut, HaveComeBack, all_hub_seats, all_spares}
use Rattle.vk_udp.specs.declared.work.NodeEnd.{NodeEnd}
use Rattle.vk_udp.specs.declared.work.NodeEnd.TheVariants as ends

-- what a job gave back, as all jobs do
abbrev pub own_end : {L : Type 0} → NodeEnd L → End
own_end (ends.Own e) = e
own_end (ends.Carried e) = e.end

-- the seats at the hub: those of all jobs, then the one that fetched, and the one of the halt
abbrev pub hub_seats_of : List End → Sitting HubLog HubEvent → Sitting HubLog HubEvent → List (Sitting HubLog HubEvent)
hub_seats_of all fetches halt = all_hub_seats all ++ fetches ∷ halt ∷ []

abbrev pub site_of : ℕ → Cell StationHistory → Site
site_of host cell = record { host = host; cell = cell }

-- Once all seats have come back, the hub has this history, and the station this log.
pub record HasClosedNode (host : ℕ) (cell : Cell StationHistory) (hub : Cell HubLog) (all : List End)
    (fetches halt : Sitting HubLog HubEvent)
    (log : StationLog) : Type 0 where
  pub heard : List (ℕ × HubEvent)
  pub back : HaveComeBack hub.seats (hub_seats_of all fetches halt) heard
  pub shut : AreShut [] 0 false (site_of host cell ∷ []) (all_spares all) (log ∷ [])

-- a frame has at most 1,152 bytes
abbrev pub Fits : StationEvent → Type 0
Fits (events.Deliver frame) = length frame ≤ FRAME_BYTES
Fits e = Unit {0}
