-- The tables of a station as plain values, and what they tell by themselves.
use Rattle.std.specs.Prelude.{ℕ, ◌-◌, Bool, false, not, nat_lt, List, [], map, replicate, slice_get, Option, None, option_map, if◌then◌else◌}
use Rattle.vk_types.specs.Types.{Exchange, Message, Name, Pid, Registration, Stage, Waiting}
use Rattle.vk_base.specs.declared.kernel.Stage.TheVariants as stages
use Rattle.vk_base.specs.declared.limits.TheConstants.{STATION_PROCESSES}
use Rattle.vk_base.specs.declared.activity.Waiting.TheVariants as waitings
use Rattle.vk_base.specs.Kernel.{name_of}
use Rattle.vk_base.specs.Packets.{Packet, Reply, Pending, Negative}
use Rattle.vk_base.specs.Pids.{same_host}
use Rattle.vk_pool.specs.declared.alien.Alien.{Alien}
use Rattle.vk_pool.specs.declared.alien.AlienStage.{AlienStage}
use Rattle.vk_pool.specs.declared.alien.AlienStage.TheVariants as alien_stages
use Rattle.vk_pool.specs.Aliens.{alien_at, closed_in}
use Rattle.vk_base.specs.Settings.{Settings, pool_of}
use Rattle.vk_procs.specs.declared.seat.Seat.{Seat}
use Rattle.vk_procs.specs.Seats.{initial_seats}
use Rattle.vk_queue.specs.Lists.{queue_at}
use Rattle.vk_rules.specs.Aliens as readings

pub record Tables : Type 0 where
  -- the processes, in the configuration's order
  pub seats : List Seat
  -- for each process the slots of the messages that wait at it, first come first
  pub lists : List (List ℕ)
  -- the aliens
  pub slots : List (Option Alien)
  -- the station's names
  pub names : List Registration

-- Slots of queues below 32 are the station's own processes as senders, those from 32 its aliens.
abbrev pub seat_name : Seat → Name
seat_name s = name_of s.pid s.note.sends

abbrev pub alien_name : Alien → Name
alien_name a = name_of a.sender a.number

abbrev pub slot_name : List Seat → List (Option Alien) → ℕ → Option Name
slot_name seats slots slot =
    if nat_lt slot STATION_PROCESSES then option_map seat_name (slice_get seats slot)
    else option_map alien_name (alien_at slots (slot - STATION_PROCESSES))

-- the names of the Sends whose messages wait at the process in this place
abbrev pub names_at : Tables → ℕ → List (Option Name)
names_at t at = map (slot_name t.seats t.slots) (queue_at t.lists at)

-- what the station's entries say of an alien
abbrev pub read_alien : Alien → readings.Alien
read_alien a = record { name = alien_name a; newest = a.newest; closed = closed_in a.stage }

-- how far the kernel has its exchange
abbrev pub stage_by : AlienStage → List ℕ → Stage
stage_by alien_stages.Queued bytes = stages.Queued
stage_by alien_stages.Taken bytes = stages.Taken
stage_by (alien_stages.Replied m dest closed) bytes = stages.Replied m dest bytes
stage_by (alien_stages.Refused closed) bytes = stages.Dropped

abbrev pub stage_of : Alien → Stage
stage_of a = stage_by a.stage a.bytes

-- Where the message of a Send is, and what is shown there: its target and its message, until a Forward.
pub record Spot : Type 0 where
  pub at : Pid
  pub shown : Message

abbrev pub spot_of : Exchange → Spot
spot_of e = record { at = e.at; shown = e.shown }

abbrev pub seat_spot : Seat → Spot
seat_spot s = record { at = s.at; shown = s.shown }

abbrev pub alien_spot : Alien → Spot
alien_spot a = record { at = a.at; shown = a.shown }

-- what its sender is told, always in the name of the Send's target
abbrev pub told_by : Alien → AlienStage → Packet
told_by a alien_stages.Queued = Pending a.target a.sender a.number
told_by a alien_stages.Taken = Pending a.target a.sender a.number
told_by a (alien_stages.Replied m dest closed) = Reply a.target a.sender a.number m dest a.bytes
told_by a (alien_stages.Refused closed) = Negative a.target a.sender a.number

abbrev pub told : Alien → Packet
told a = told_by a a.stage

-- what a process waits in is a work: it concerns another station
abbrev pub is_work : Pid → Waiting → Bool
is_work pid (waitings.Send target m) = not (same_host pid target)
is_work pid waitings.Receive = false
is_work pid (waitings.ReceiveSegment start count) = false
is_work pid (waitings.MoveTo partner dest src count) = not (same_host pid partner)
is_work pid (waitings.MoveFrom partner dest src count) = not (same_host pid partner)
is_work pid (waitings.GetPid logical scope) = not false

-- The tables of a new station: nothing waits, and nothing is registered.
abbrev pub new_tables : Settings → ℕ → Tables
new_tables c host = record {
  seats = initial_seats host c.specs;
  lists = replicate STATION_PROCESSES [];
  slots = replicate (pool_of c host) None;
  names = [];
}
