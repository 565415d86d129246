-- Whom a process holds, by the tables: a sender of which it has taken a message, and has neither replied to it nor handed it on.
use Rattle.std.specs.Prelude.{ℕ, Bool, ◌&&◌, List, Option, Some, None, if◌then◌else◌}
use Rattle.vk_types.specs.Types.{Message, Pid}
use Rattle.vk_base.specs.Activities.{state_of}
use Rattle.vk_base.specs.Kernel.{◌>>=◌, is_taken, sending}
use Rattle.vk_base.specs.Pids.{same_pid}
use Rattle.vk_pool.specs.declared.alien.Alien.{Alien}
use Rattle.vk_pool.specs.Aliens.{alien_from}
use Rattle.vk_procs.specs.declared.seat.Seat.{Seat}
use Rattle.vk_procs.specs.Seats.{seat_in}
use Rattle.vk_stands.specs.Tables.{stage_of}

-- the number of the Send that is held, and its message, whatever message the holder is shown
pub record Holding : Type 0 where
  pub number : ℕ
  pub message : Message

-- of a process of the station, by the Send in which it waits
abbrev pub holding_by : Pid → Seat → Option (Pid × Message) → Option Holding
holding_by holder s None = None
holding_by holder s (Some m) =
    if s.note.taken && same_pid s.at holder then Some (record { number = s.note.sends; message = m.1 }) else None

abbrev pub seat_holding : Pid → Seat → Option Holding
seat_holding holder s = holding_by holder s (sending (state_of s.doing))

abbrev pub local_holding : List Seat → Pid → Pid → Option Holding
local_holding seats holder sender = seat_in seats sender >>= seat_holding holder

-- of an alien
abbrev pub is_held : Pid → Alien → Bool
is_held holder a = is_taken (stage_of a) && same_pid a.at holder

abbrev pub alien_holding : Pid → Alien → Option Holding
alien_holding holder a = if is_held holder a then Some (record { number = a.number; message = a.message }) else None

abbrev pub remote_holding : List (Option Alien) → Pid → Pid → Option Holding
remote_holding slots holder sender = alien_from slots sender >>= alien_holding holder
