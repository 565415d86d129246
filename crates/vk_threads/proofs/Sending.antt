-- A job may go to a thread, and its end may come back, since all that they are made of may. One search through all of it is too long.
use denote.RattleType.{RattleType}
use denote.Ref.{NamedLft}
use denote.Param.Send.{IsSend, sendable}
use Rattle.std.proofs.Crossing.{crosses}
use Rattle.turn_cell.proofs.cell.TurnCell.TheSendSync.{the_sync as cell_sync}
use Rattle.turn_cell.proofs.seat.TurnSeat.TheSendSync.{the_send as seat_send}
use Rattle.vk_hub.proofs.Crossing.{delivery_send, hub_state_send, hub_sync}
use Rattle.vk_port.proofs.station_out.StationOut.TheSendSync.{the_send as station_out_send}
use Rattle.vk_port.proofs.Crossing.{station_send}
use Rattle.vk_port.specs.contracts.port.Port as port_row
use Rattle.vk_program.specs.declared.program.Program.{Ghosts}
use Rattle.vk_threads.specs.contracts.end.Seats as seats_row
use Rattle.vk_threads.specs.contracts.end.End as end_row
use Rattle.vk_threads.specs.contracts.process.ProcessWork as process_row
use Rattle.vk_threads.specs.contracts.pump.PumpWork as pump_row
use Rattle.vk_threads.specs.contracts.clock.ClockWork as clock_row
use Rattle.vk_threads.specs.contracts.work.RunJob as work_row

pub port_send : (κ : NamedLft) → IsSend (port_row.the_row κ)
port_send κ =
    search (sendable, crosses, cell_sync, seat_send, hub_sync, hub_state_send, delivery_send, station_out_send, station_send) depth 40 fits 20000

seats_send : IsSend seats_row.the_row
seats_send = search (sendable, crosses, seat_send, hub_state_send, station_send) depth 40 fits 20000

pub end_send : IsSend end_row.the_row
end_send = search (sendable, crosses, seats_send) depth 40 fits 20000

pub process_send : (κ : NamedLft) (G W : RattleType) (g : Ghosts G.Denot) → IsSend G → IsSend W → IsSend (process_row.the_row κ G W g)
process_send κ G W g s t = search (sendable, crosses, hub_sync, port_send, seats_send) depth 40 fits 20000

pump_send : (κ : NamedLft) → IsSend (pump_row.the_row κ)
pump_send κ = search (sendable, crosses, hub_sync, port_send, seats_send) depth 40 fits 20000

clock_send : (κ π : NamedLft) (P : RattleType) → IsSend P → IsSend (clock_row.the_row κ π P)
clock_send κ π P s = search (sendable, crosses, hub_sync, port_send, seats_send) depth 40 fits 20000

pub work_send : (κ π : NamedLft) (G P : RattleType) (g : Ghosts G.Denot) → IsSend G → IsSend P → IsSend (work_row.the_row κ π G P g)
work_send κ π G P g s t = search (sendable, crosses, process_send, pump_send, clock_send) depth 40 fits 20000
