-- Whom a tick may be for.
use Rattle.std.specs.Prelude.{ℕ, Bool, true, false, List, map, Option, Some, None, if◌then◌else◌}
use Rattle.vk_types.specs.Types.{Activity}
use Rattle.vk_base.specs.declared.activity.Activity.TheVariants as activities
use Rattle.vk_procs.specs.declared.seat.Seat.{Seat}
use Rattle.vk_timer.specs.Sets.{set_of}
use Rattle.vk_timer.specs.Wheels.{is_due}

abbrev pub is_blocked : Activity → Bool
is_blocked (activities.Blocked w) = true
is_blocked d = false

-- the tick that a process waits for, if it waits
abbrev pub awaited : Seat → Option ℕ
awaited s = if is_blocked s.doing then Some s.note.work.deadline else None

abbrev pub is_awaited : ℕ → Seat → Bool
is_awaited now s = is_due now (awaited s)

-- the places of the processes that wait for this tick, a bit for each
abbrev pub due_places : ℕ → List Seat → ℕ
due_places now seats = set_of (map (is_awaited now) seats)
