-- What a hub's history makes of its links, and what it answers.
use Rattle.std.specs.Prelude.{ℕ, ◌+◌, ◌==◌, ◌&&◌, ◌||◌, not, Bool, true, false, Option, Some, None, List, [], ◌∷◌, map, is_some, nat_le, if◌then◌else◌, cond}
use Rattle.vk_hub.specs.Links.{Frame, Waiting, first_of, header_of, posted_all, rest_of}
use Rattle.vk_schedule.specs.declared.plan.LinkPlan.{LinkPlan}
use Rattle.vk_hub.specs.declared.event.HubEvent.{HubEvent}
use Rattle.vk_hub.specs.declared.event.HubEvent.TheVariants as event
use Rattle.vk_hub.specs.declared.event.Fetched.{Fetched}
use Rattle.vk_hub.specs.declared.event.Fetched.TheVariants as fetched
use Rattle.vk_hub.specs.declared.event.Arrival.{Arrival}
use Rattle.vk_hub.specs.declared.event.Arrival.TheVariants as arrivals
use Rattle.vk_hub.specs.declared.out.HubOut.{HubOut}

-- A hub's state, as callers see it: its link plan, its stations, how many programs there are, and its history
pub record HubLog : Type 0 where
  pub plan : LinkPlan
  pub stations : List ℕ
  pub programs : ℕ
  pub history : List (ℕ × HubEvent)

-- what its history began with
abbrev pub origin_of : HubLog → HubLog
origin_of h = record h { history = [] }

-- what is under way: the generator's state, what waits for each station, how many programs have finished, and whether the hub is halted
pub record Traffic : Type 0 where
  pub x : ℕ
  pub waiting : List Waiting
  pub finished : ℕ
  pub halted : Bool

abbrev pub nothing_for : ℕ → Waiting
nothing_for station = record { station = station; ring = []; held = None }

abbrev pub first_traffic : LinkPlan → List ℕ → Traffic
first_traffic plan stations = record { x = plan.seed; waiting = map nothing_for stations; finished = 0; halted = false }

-- it is halted, or at least so many programs have finished; it stays so
abbrev pub is_stopped : ℕ → Traffic → Bool
is_stopped programs t = t.halted || nat_le programs t.finished

-- the frame that a fetch of the station would give
abbrev pub first_for : ℕ → List Waiting → Option Frame
first_for host [] = None
first_for host (w ∷ ws) = if w.station == host then first_of w.ring w.held else first_for host ws

abbrev pub without_first : ℕ → List Waiting → List Waiting
without_first host [] = []
without_first host (w ∷ ws) = if w.station == host then rest_of w.station w.ring w.held ∷ ws else w ∷ without_first host ws

-- what an event makes of the traffic; of a stopped hub nothing is fetched
abbrev pub changed : LinkPlan → ℕ → Traffic → HubEvent → Traffic
changed plan programs t (event.Post frame) =
    let p = posted_all plan t.x t.waiting (header_of frame) frame in record t { x = p.0; waiting = p.1 }
changed plan programs t (event.Fetch host) =
    record t { waiting = (if is_stopped programs t then t.waiting else without_first host t.waiting) }
changed plan programs t event.Finished = record t { finished = t.finished + 1 }
changed plan programs t event.Halt = record t { halted = true }

abbrev pub traffic_after : LinkPlan → ℕ → Traffic → List (ℕ × HubEvent) → Traffic
traffic_after plan programs t [] = t
traffic_after plan programs t (x ∷ xs) = traffic_after plan programs (changed plan programs t x.1) xs

-- the traffic after a history of this hub
abbrev pub traffic_of : HubLog → List (ℕ × HubEvent) → Traffic
traffic_of o history = traffic_after o.plan o.programs (first_traffic o.plan o.stations) history

-- no frame waits for any station, and none is held back
abbrev pub waits_nowhere : List Waiting → Bool
waits_nowhere [] = true
waits_nowhere (w ∷ ws) = not (is_some (first_of w.ring w.held)) && waits_nowhere ws

-- whether as many programs have finished as are to, and whether no frame is on its way
abbrev pub have_finished : HubLog → Bool
have_finished h = nat_le h.programs (traffic_of (origin_of h) h.history).finished

abbrev pub is_idle : HubLog → Bool
is_idle h = waits_nowhere (traffic_of (origin_of h) h.history).waiting

abbrev pub found : Option Frame → Fetched
found (Some frame) = fetched.Frame frame
found None = fetched.Nothing

-- what a fetch of the station is answered
abbrev pub fetched_from : ℕ → Traffic → ℕ → Fetched
fetched_from programs t host = if is_stopped programs t then fetched.Stopped else found (first_for host t.waiting)

abbrev pub answered : ℕ → Traffic → HubEvent → Option Fetched
answered programs t (event.Fetch host) = Some (fetched_from programs t host)
answered programs t e = None

-- what a fetch gave that was answered so, where this frame stands in the place for one
abbrev pub fetched_as : Arrival → Frame → Fetched
fetched_as arrivals.Frame frame = fetched.Frame frame
fetched_as arrivals.Stopped frame = fetched.Stopped
fetched_as arrivals.Nothing frame = fetched.Nothing

abbrev pub fetched_by : Option Arrival → Frame → Option Fetched
fetched_by (Some arrival) frame = Some (fetched_as arrival frame)
fetched_by None frame = None

-- what stands in a place for what an event gives
abbrev pub fetched_in : HubOut → Option Fetched
fetched_in out = fetched_by out.arrival out.delivery

-- a fetch waits for a frame or the stop, a halt is entered once, and all else may come at any time
abbrev pub is_ready : ℕ → Traffic → HubEvent → Bool
is_ready programs t (event.Fetch host) = is_stopped programs t || is_some (first_for host t.waiting)
is_ready programs t event.Halt = not t.halted
is_ready programs t e = true

abbrev pub is_halt : HubEvent → Bool
is_halt event.Halt = true
is_halt e = false

abbrev pub has_halt : List (ℕ × HubEvent) → Bool
has_halt [] = false
has_halt (x ∷ xs) = is_halt x.1 || has_halt xs

-- the entries that are no halt
abbrev pub others : List (ℕ × HubEvent) → ℕ
others [] = 0
others (x ∷ xs) = cond (is_halt x.1) (others xs) (others xs + 1)

-- a history has at most one halt, and beside it at most 200,000 entries
abbrev pub is_at_limit : List (ℕ × HubEvent) → HubEvent → Bool
is_at_limit history e = cond (is_halt e) (has_halt history) (nat_le 200000 (others history))
