-- What the end of a job may be.
use Rattle.std.specs.Prelude.{ℕ, ◌≡◌, ◌+◌, ◌⊎◌, Bool, true, false, List, [], ◌∷◌, ◌++◌, Option, None, is_some, length, map}
use mathlib.Core.List.{IsPrefix}
use Rattle.vk_types.specs.Types.{Answer, Call, Pid}
use Rattle.turn_cell.specs.Seats.{Cell, IsSameSeat}
use Rattle.vk_hub.specs.declared.event.HubEvent.TheVariants as hub_events
use Rattle.vk_hub.specs.Hubs.{HubLog, has_halt}
use Rattle.turn_cell.specs.declared.replay.Room.{Room}
use Rattle.vk_base.specs.Settings.{Settings}
use Rattle.vk_port.specs.Ports.{IsLog, PortValue, berth_of, stand_of}
use Rattle.vk_port.specs.Stations.{StationHistory}
use Rattle.vk_rules.specs.Each.{Each}
use Rattle.v_run.specs.Jobs.{IsJobEnd, KeepsTime, OneOf}
use Rattle.v_run.specs.Passages.{HasHeard, IsLast, IsRole, Passage, Role, Runs, Ticks, answers_by, calls_by, fresh_station, tick_count}
use Rattle.vk_threads.specs.declared.end.Seats.{Seats}
use Rattle.vk_threads.specs.Works.{HasClosed}

-- This passage was through this port, and these are its seats.
pub record IsThrough (p : PortValue) (s : Seats) (g : Passage) : Type 0 where
  pub host : s.host ≡ p.host
  pub berth : g.berth ≡ berth_of p
  pub log : IsLog (berth_of p) (stand_of p) g.actions g.left
  pub role : IsRole g.role p.station.origin g.actions
  pub last : IsLast g.last
  pub seat : IsSameSeat p.seat s.seat
  pub seen : s.seat.seen ≡ g.left.seen
  pub mine : s.seat.mine ≡ g.left.mine
  pub hub_seat : IsSameSeat p.hub_seat s.hub_seat
  pub heard : IsPrefix g.left.heard s.hub_seat.seen
  pub sent : s.hub_seat.mine ≡ g.left.sent ++ g.last

-- one passage through each port, with its seats
abbrev pub AreThrough : List PortValue → List Seats → List Passage → Type 0
AreThrough [] [] [] = Unit {0}
AreThrough (p ∷ ps) (s ∷ ss) (g ∷ gs) = IsThrough p s g × AreThrough ps ss gs
AreThrough ps ss gs = ⊥

abbrev pub role_of : Passage → Role
role_of g = g.role

-- the port is one of a station of this configuration
abbrev pub IsOf : Settings → PortValue → Type 0
IsOf c p = p.station.origin ≡ fresh_station c p.host

-- The clock went all its rounds at each station, or heard that the hub had ended.
abbrev pub TicksAll : ℕ → Passage → Role → Type 0
TicksAll rounds g Ticks = tick_count g.actions ≡ rounds
TicksAll rounds g role = Unit {0}

abbrev pub GoesAllRounds : ℕ → List Passage → Type 0
GoesAllRounds rounds gs = Each (λ (g : Passage). TicksAll rounds g g.role) gs ⊎ OneOf (λ (g : Passage). HasHeard g.actions) gs

-- the first of these seats has seen the hub halted
abbrev pub FirstSeesHalt : List Seats → Type 0
FirstSeesHalt [] = Unit {0}
FirstSeesHalt (s ∷ ss) = has_halt s.hub_seat.seen ≡ true

-- A job with these ports, in these roles, may hand back these seats with this Room. Where it met one, the hub is halted.
pub record MayEnd (ports : List PortValue) (roles : List Role) (rounds : ℕ) (seats : List Seats) (met : Option Room) : Type 0 where
  pub passages : List Passage
  pub through : AreThrough ports seats passages
  pub each : map role_of passages ≡ roles
  pub done : ℕ
  pub time : Each (λ (g : Passage). KeepsTime done rounds g g.role) passages
  pub whole : met ≡ None → GoesAllRounds rounds passages
  pub halted : is_some met ≡ true → FirstSeesHalt seats
  pub job : (c : Settings) → Each (IsOf c) ports → IsJobEnd c (record { passages = passages; met = met })

-- The process of a passage finished, or its last call is not answered.
abbrev pub FinishesOrWaits : StationHistory → Passage → Type 0
FinishesOrWaits o g =
    (g.last ≡ hub_events.Finished ∷ []) ⊎ (length (calls_by g.actions) ≡ length (answers_by o g.actions) + 1)

-- A process's job with this port and task may hand back these seats with this Room.
pub record EndsProcess (p : PortValue) (pid : Pid) (task : List Answer → Option Call) (seats : List Seats)
    (met : Option Room) : Type 0 where
  pub may : MayEnd (p ∷ []) (Runs pid task ∷ []) 0 seats met
  pub waits : met ≡ None → Each (FinishesOrWaits p.station.origin) may.passages

-- the clock's roles: one for each station
abbrev pub ticking : List PortValue → List Role
ticking [] = []
ticking (p ∷ ps) = Ticks ∷ ticking ps

-- the port is one at this hub
abbrev pub IsAt : Cell HubLog → PortValue → Type 0
IsAt hub p = p.hub ≡ hub

abbrev pub port_host : PortValue → ℕ
port_host p = p.host

-- Each port was closed; the first halted the hub where it was to be halted.
abbrev pub ArePortsClosed : List PortValue → List Seats → Bool → Type 0
ArePortsClosed [] [] halts = Unit {0}
ArePortsClosed (p ∷ ps) (s ∷ ss) halts = (s.host ≡ p.host) × HasClosed p s.seat s.hub_seat halts × ArePortsClosed ps ss false
ArePortsClosed ps ss halts = ⊥
