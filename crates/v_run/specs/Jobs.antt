-- What a job of a run comes to.
use Rattle.std.specs.Prelude.{ℕ, ◌≡◌, ◌≢◌, ◌≤◌, ◌+◌, ◌==◌, cond, ◌⊎◌, Bool, true, false, Option, Some, None, List, [], ◌∷◌, length}
use Rattle.vk_types.specs.Types.{Pid}
use Rattle.turn_cell.specs.declared.replay.Room.{Room}
use Rattle.turn_cell.specs.declared.replay.Room.TheVariants as rooms
use Rattle.vk_base.specs.declared.event.StationEvent.TheVariants as events
use Rattle.vk_base.specs.Pids.{same_pid}
use Rattle.vk_base.specs.Settings.{Settings}
use Rattle.vk_hub.specs.declared.event.HubEvent.TheVariants as hub_events
use Rattle.vk_hub.specs.Hubs.{others}
use Rattle.vk_port.specs.Ports.{Action, Stand}
use Rattle.vk_port.specs.Stations.{StationHistory, brings_last_number, is_used_up}
use Rattle.vk_rules.specs.Each.{Each}
use Rattle.v_run.specs.Passages.{HasDropped, HasHeard, IsAtEnd, Passage, Pumps, Runs, Role, Ticks, answers_by, calls_by, fresh_station, host_of, lost_count, tick_count}

-- the ports that it had, and the Room that it met, if it met one
pub record JobEnd : Type 0 where
  pub passages : List Passage
  pub met : Option Room

-- in all passages together
abbrev pub losses : List Passage → ℕ
losses [] = 0
losses (g ∷ gs) = lost_count g.actions + losses gs

abbrev pub last_entries : List Passage → ℕ
last_entries [] = 0
last_entries (g ∷ gs) = length g.last + last_entries gs

-- What the seats have seen, which stand so after these actions, has no room: the history of their station is used up; or the station
-- refused a frame with the last Lamport number; or the hub's history is at its limit.
abbrev pub SeesFull : StationHistory → Stand → List Action → Type 0
SeesFull o s acts =
    (is_used_up o s.seen ≡ true)
    ⊎ ((f : List ℕ) × HasDropped f acts × (brings_last_number (events.Deliver f) ≡ true))
    ⊎ (200000 ≤ others s.heard)

abbrev pub MetFull : Settings → Passage → Type 0
MetFull c g = SeesFull (fresh_station c (host_of g)) g.left g.actions

abbrev pub OneOf : {A : Type 0} → (A → Type 0) → List A → Type 0
OneOf P [] = ⊥
OneOf P (x ∷ xs) = P x ⊎ OneOf P xs

-- A passage that ran a process: where the process finished, its task was at its end.
abbrev pub EndsRole : Settings → Passage → Role → Type 0
EndsRole c g (Runs r task) =
    g.last ≡ hub_events.Finished ∷ [] → IsAtEnd task (calls_by g.actions) (answers_by (fresh_station c (host_of g)) g.actions)
EndsRole c g role = g.last ≢ hub_events.Finished ∷ []

-- Where its job met no Room, a process finished, or heard that the hub had ended, and then its last call was begun and is not answered;
-- what delivers heard that.
abbrev pub GoesOn : Settings → Passage → Role → Type 0
GoesOn c g (Runs r task) =
    (g.last ≡ hub_events.Finished ∷ [])
    ⊎ (HasHeard g.actions × (length (calls_by g.actions) ≡ length (answers_by (fresh_station c (host_of g)) g.actions) + 1))
GoesOn c g Pumps = HasHeard g.actions
GoesOn c g Ticks = Unit {0}

-- and none but the clock halted the hub
abbrev pub HaltsNot : Passage → Role → Type 0
HaltsNot g Ticks = Unit {0}
HaltsNot g role = g.last ≢ hub_events.Halt ∷ []

pub record IsJobEnd (c : Settings) (j : JobEnd) : Type 0 where
  pub losses : losses j.passages ≤ 2
  pub last_entries : last_entries j.passages ≤ 1
  pub roles : Each (λ g. EndsRole c g g.role) j.passages
  pub halts : j.met ≡ None → Each (λ g. HaltsNot g g.role) j.passages
  pub goes_on : j.met ≡ None → Each (λ g. GoesOn c g g.role) j.passages
  pub full : j.met ≡ Some rooms.Full → OneOf (MetFull c) j.passages

-- The clock ticks all stations alike: n times, and some of them once more, and none more often than there are rounds.
abbrev pub is_clock : Role → ℕ
is_clock (Runs r task) = 0
is_clock Pumps = 0
is_clock Ticks = 1

abbrev pub KeepsTime : ℕ → ℕ → Passage → Role → Type 0
KeepsTime n rounds g Ticks = (n ≤ tick_count g.actions) × (tick_count g.actions ≤ n + 1) × (tick_count g.actions ≤ rounds)
KeepsTime n rounds g role = Unit {0}

-- how many passages of the clock there are at this station
abbrev pub clocks_at : ℕ → List Passage → ℕ
clocks_at h [] = 0
clocks_at h (g ∷ gs) = cond (host_of g == h) (is_clock g.role) 0 + clocks_at h gs

-- whether it runs this process
abbrev pub runs_pid : Pid → Role → Bool
runs_pid r (Runs q task) = same_pid q r
runs_pid r Pumps = false
runs_pid r Ticks = false
