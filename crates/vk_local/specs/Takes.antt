-- What a Take comes to, by the tables.
use Rattle.std.specs.Prelude.{ℕ, ◌-◌, nat_lt, List, [], ◌∷◌, drop, slice_get, slice_set, Option, Some, None, if◌then◌else◌}
use Rattle.std.specs.List.{position}
use Rattle.vk_types.specs.Types.{Pid, Step, Waiting}
use Rattle.vk_base.specs.declared.limits.TheConstants.{STATION_PROCESSES}
use Rattle.vk_base.specs.declared.step.Step.TheVariants as steps
use Rattle.vk_base.specs.Firsts.{change_first}
use Rattle.vk_pool.specs.declared.alien.Alien.{Alien}
use Rattle.vk_pool.specs.Aliens.{alien_at, changed_at, taken}
use Rattle.vk_procs.specs.declared.seat.Passed.TheVariants as gifts
use Rattle.vk_procs.specs.declared.seat.Seat.{Seat}
use Rattle.vk_procs.specs.Seats.{is_seat, marked_taken, passed, reached, receive_of, seat_in}
use Rattle.vk_queue.specs.Lists.{queue_at}
use Rattle.vk_stands.specs.Tables.{Tables}

-- The message of a process of the station is taken, as it is shown there.
abbrev pub local_taken : List Seat → Pid → Option Seat → List Seat
local_taken seats pid None = seats
local_taken seats pid (Some s) = passed s.pid pid (gifts.Message s.shown) (change_first (is_seat s.pid) marked_taken seats)

-- The message of an alien is taken.
abbrev pub alien_taken : List Seat → Pid → Option Alien → List Seat
alien_taken seats pid None = seats
alien_taken seats pid (Some a) = change_first (is_seat pid) (reached a.sender a.shown a.part) seats

-- What stands at a slot of the queues is taken.
abbrev pub seats_at : List Seat → List (Option Alien) → Pid → ℕ → List Seat
seats_at seats slots pid slot =
    if nat_lt slot STATION_PROCESSES then local_taken seats pid (slice_get seats slot)
    else alien_taken seats pid (alien_at slots (slot - STATION_PROCESSES))

abbrev pub slots_at : List (Option Alien) → ℕ → List (Option Alien)
slots_at slots slot = if nat_lt slot STATION_PROCESSES then slots else changed_at (slot - STATION_PROCESSES) taken slots

-- the first slot that waits at a process which waits for a message
abbrev pub front_at : List (List ℕ) → Option ℕ → Option ℕ
front_at lists None = None
front_at lists (Some at) = slice_get (queue_at lists at) 0

abbrev pub front_by : List Seat → List (List ℕ) → Pid → Option Waiting → Option ℕ
front_by seats lists pid None = None
front_by seats lists pid (Some w) = front_at lists (position (is_seat pid) seats)

abbrev pub front_of : List Seat → List (List ℕ) → Pid → Option ℕ
front_of seats lists pid = front_by seats lists pid (receive_of (seat_in seats pid))

-- it is out of its list then
abbrev pub without_first : List (List ℕ) → Option ℕ → List (List ℕ)
without_first lists None = lists
without_first lists (Some at) = slice_set lists at (drop 1 (queue_at lists at))

abbrev pub served_seats : List Seat → List (Option Alien) → Pid → Option ℕ → List Seat
served_seats seats slots pid None = seats
served_seats seats slots pid (Some slot) = seats_at seats slots pid slot

abbrev pub served_lists : List Seat → List (List ℕ) → Pid → Option ℕ → List (List ℕ)
served_lists seats lists pid None = lists
served_lists seats lists pid (Some slot) = without_first lists (position (is_seat pid) seats)

abbrev pub served_slots : List (Option Alien) → Option ℕ → List (Option Alien)
served_slots slots None = slots
served_slots slots (Some slot) = slots_at slots slot

abbrev pub served_steps : Pid → Option ℕ → List Step
served_steps pid None = []
served_steps pid (Some slot) = steps.Take pid ∷ []

-- The tables after a process has taken the first message that waits at it, if it waits for one.
abbrev pub served_by : Tables → Pid → Option ℕ → Tables
served_by t pid front = record t {
  seats = served_seats t.seats t.slots pid front;
  lists = served_lists t.seats t.lists pid front;
  slots = served_slots t.slots front;
}

abbrev pub served : Tables → Pid → Tables
served t pid = served_by t pid (front_of t.seats t.lists pid)
