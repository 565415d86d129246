-- What has come back once all jobs have ended: the seats of all ports, as their passages left them.
use Rattle.std.specs.Prelude.{ℕ, ◌≡◌, ◌+◌, ◌==◌, Option, Some, None, List, [], ◌∷◌, ◌++◌, length, map, if◌then◌else◌}
use mathlib.Core.List.{IsPrefix}
use Rattle.turn_cell.specs.Seats.{Cell, IsSeatOf, Sitting}
use Rattle.vk_base.specs.Settings.{Settings, stations_of}
use Rattle.vk_hub.specs.declared.event.HubEvent.{HubEvent}
use Rattle.vk_hub.specs.Hubs.{HubLog}
use Rattle.vk_port.specs.Stations.{StationHistory}
use Rattle.vk_rules.specs.Each.{Each}
use Rattle.v_run.specs.Closed.{numbers_at}
use Rattle.v_run.specs.Jobs.{JobEnd}
use Rattle.v_run.specs.Outcomes.{Assignment}
use Rattle.v_run.specs.Passages.{IsPassage, Passage, fresh_station, host_of, hub_number_of, number_of}
use Rattle.v_run.specs.Runs.{AreJobs, passages_of, tasks_of}
use Rattle.vk_threads.specs.declared.end.End.{End}
use Rattle.vk_threads.specs.declared.end.Seats.{Seats}
use Rattle.vk_threads.specs.declared.opening.Site.{Site}

-- These seats, of this station and of the hub, were left so by the passage.
pub record AreLeft (station : Cell StationHistory) (hub : Cell HubLog) (s : Seats) (g : Passage) : Type 0 where
  pub host : s.host ≡ host_of g
  pub seat : IsSeatOf station s.seat
  pub number : s.seat.number ≡ number_of g
  pub seen : s.seat.seen ≡ g.left.seen
  pub mine : s.seat.mine ≡ g.left.mine
  pub hub_seat : IsSeatOf hub s.hub_seat
  pub hub_number : s.hub_seat.number ≡ hub_number_of g
  pub heard : IsPrefix g.left.heard s.hub_seat.seen
  pub sent : s.hub_seat.mine ≡ g.left.sent ++ g.last

-- the cell of the station, among these
abbrev pub cell_at : List Site → ℕ → Option (Cell StationHistory)
cell_at [] h = None
cell_at (s ∷ ss) h = if s.host == h then Some s.cell else cell_at ss h

-- each passage left its two seats, which are of its station's cell and of the hub
abbrev pub AllLeft : List Site → Cell HubLog → List Seats → List Passage → Type 0
AllLeft sites hub [] [] = Unit {0}
AllLeft sites hub (s ∷ ss) (g ∷ gs) =
    ((cell : Cell StationHistory) × (cell_at sites (host_of g) ≡ Some cell) × AreLeft cell hub s g) × AllLeft sites hub ss gs
AllLeft sites hub ss gs = ⊥

-- a job came to this end
abbrev pub IsEndOf : List Site → Cell HubLog → End → JobEnd → Type 0
IsEndOf sites hub e j = AllLeft sites hub e.seats.items j.passages × (e.met ≡ j.met)

abbrev pub AreEndsOf : List Site → Cell HubLog → List End → List JobEnd → Type 0
AreEndsOf sites hub [] [] = Unit {0}
AreEndsOf sites hub (e ∷ es) (j ∷ js) = IsEndOf sites hub e j × AreEndsOf sites hub es js
AreEndsOf sites hub es js = ⊥

-- the cells are those of the configuration's stations, in their order
pub record AreSites (c : Settings) (sites : List Site) : Type 0 where
  pub hosts : map (λ (s : Site). s.host) sites ≡ stations_of c.specs
  pub cells : Each (λ (s : Site). s.cell.origin ≡ fresh_station c s.host) sites

-- ALL JOBS HAVE ENDED, of these tasks and so many rounds: what they did are jobs of a run, all seats of all cells have come back, and
-- so has the seat of the halt, which entered nothing.
pub record HaveEnded (c : Settings) (sites : List Site) (hub : Cell HubLog) (rounds : ℕ) (tasks : List Assignment) (ends : List End)
    (halt : Sitting HubLog HubEvent) : Type 0 where
  pub jobs : List JobEnd
  pub each_end : AreEndsOf sites hub ends jobs
  pub passages : Each (IsPassage c hub.origin) (passages_of jobs)
  pub are_jobs : AreJobs c hub.origin rounds jobs
  pub are_tasks : tasks_of (passages_of jobs) ≡ tasks
  pub seats : (h : ℕ) (cell : Cell StationHistory) → cell_at sites h ≡ Some cell → length (numbers_at h (passages_of jobs)) ≡ cell.seats
  pub hub_seats : length (passages_of jobs) + 1 ≡ hub.seats
  pub halt_seat : IsSeatOf hub halt
  pub unhalted : halt.mine ≡ []
