-- The work that a process waits in: a remote Send, a remote move or a lookup.
use Rattle.std.specs.Prelude.{ℕ, List}
use Rattle.std.specs.Option.{option_map_or}
use Rattle.vk_types.specs.Types.{Pid, Times}
use Rattle.vk_procs.specs.declared.seat.Seat.{Seat}
use Rattle.vk_procs.specs.Seats.{seat_in}
use Rattle.vk_timer.specs.declared.work.Due.{Due}
use Rattle.vk_timer.specs.declared.work.Due.TheVariants as dues
use Rattle.vk_timer.specs.declared.work.Work.{Work}
use Rattle.vk_timer.specs.Works.{due_at, work_at}

-- the process with another work
abbrev pub working : Work → Seat → Seat
working w s = record s { note = record s.note { work = w } }

-- what a tick finds of it, and the process after it
abbrev pub due_in : Times → ℕ → List Seat → Pid → Due
due_in times now seats pid = option_map_or (λ (s : Seat). due_at times now s.note.work) (seat_in seats pid) dues.NotDue

abbrev pub counted : Times → ℕ → Seat → Seat
counted times now s = working (work_at times now s.note.work) s
