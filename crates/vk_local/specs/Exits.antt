-- What an exit comes to, by the tables.
use Rattle.std.specs.Prelude.{ℕ, Bool, ◌&&◌, not, List, [], ◌∷◌, filter, flat_map, map, slice_set, Option, Some, None, option_map, if◌then◌else◌}
use Rattle.std.specs.List.{position}
use Rattle.vk_types.specs.Types.{Pid, Registration}
use Rattle.vk_base.specs.Firsts.{change_first}
use Rattle.vk_base.specs.Kernel.{◌>>=◌, is_at_target}
use Rattle.vk_base.specs.Packets.{Packet, Negative}
use Rattle.vk_base.specs.Pids.{same_pid}
use Rattle.vk_pool.specs.declared.alien.Alien.{Alien}
use Rattle.vk_pool.specs.Aliens.{changed_at, refused}
use Rattle.vk_procs.specs.declared.seat.Seat.{Seat}
use Rattle.vk_procs.specs.Seats.{bereft, is_seat, killed}
use Rattle.vk_local.specs.declared.exits.Left.{Left}
use Rattle.vk_stands.specs.Tables.{Tables, stage_of}

-- an alien whose message waits at the process that exits, or was taken by it
abbrev pub is_left : Pid → Alien → Bool
is_left pid a = same_pid a.at pid && is_at_target (stage_of a)

abbrev pub sent_by : Alien → Left
sent_by a = record { target = a.target; sender = a.sender; number = a.number }

abbrev pub left_in : Pid → Alien → Option Left
left_in pid a = if is_left pid a then Some (sent_by a) else None

abbrev pub left_of : Pid → Option Alien → Option Left
left_of pid slot = slot >>= left_in pid

-- one slot, and what its sender is told, in the name of its target
abbrev pub slots_left : List (Option Alien) → ℕ → ℕ → Option Left → List (Option Alien)
slots_left slots slot now None = slots
slots_left slots slot now (Some left) = changed_at slot (refused now) slots

abbrev pub told_left : Option Left → List Packet
told_left None = []
told_left (Some left) = Negative left.target left.sender left.number ∷ []

-- all slots, in order
abbrev pub after_left : Pid → ℕ → Alien → Alien
after_left pid now a = if is_left pid a then refused now a else a

abbrev pub left_slots : Pid → ℕ → List (Option Alien) → List (Option Alien)
left_slots pid now slots = map (option_map (after_left pid now)) slots

abbrev pub told_slot : Pid → Option Alien → List Packet
told_slot pid slot = told_left (left_of pid slot)

abbrev pub negatives : Pid → List (Option Alien) → List Packet
negatives pid slots = flat_map (told_slot pid) slots

-- the process is dead, and those of its station that wait for its reply are told so
abbrev pub exited_seats : List Seat → Pid → List Seat
exited_seats seats pid = change_first (is_seat pid) killed (map (bereft pid) seats)

abbrev pub emptied : List (List ℕ) → Option ℕ → List (List ℕ)
emptied lists None = lists
emptied lists (Some list) = slice_set lists list []

abbrev pub is_other : Pid → Registration → Bool
is_other pid r = not (same_pid r.pid pid)

abbrev pub exited : Tables → Pid → ℕ → Tables
exited t pid now = record {
  seats = exited_seats t.seats pid;
  lists = emptied t.lists (position (is_seat pid) t.seats);
  slots = left_slots pid now t.slots;
  names = filter (is_other pid) t.names;
}
