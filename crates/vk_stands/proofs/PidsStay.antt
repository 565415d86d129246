-- A tick keeps whose processes a station has, in their order.
use Rattle.std.proofs.Common.{◌≡◌, ℕ}
use Rattle.vk_types.specs.Types.{Times}
use Rattle.vk_procs.specs.Seats.{pids}
use Rattle.vk_procs.proofs.PidsStay.{pids_mapped}
use Rattle.vk_stands.specs.Tables.{Tables}
use Rattle.vk_stands.specs.Ticks.{tick_tables, ticked_seat}
use Rattle.vk_stands.proofs.TicksAll.{seat_ticked}

pub pids_ticked : (times : Times) (now : ℕ) (t : Tables) → pids (tick_tables times now t).seats ≡ pids t.seats
pids_ticked times now t = pids_mapped (ticked_seat times now) (λ s. (seat_ticked times now s).pid) t.seats
