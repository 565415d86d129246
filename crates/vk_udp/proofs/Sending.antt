-- A job of a node may go to a thread, and its end may come back, since all that they are made of may. One search through all of it is too long.
use denote.RattleType.{RattleType}
use denote.Ref.{NamedLft}
use denote.Param.Send.{IsSend, IsSync, sendable}
use denote.Param.SendFields.{variants_send}
use Rattle.std.proofs.Crossing.{crosses}
use Rattle.turn_cell.proofs.seat.TurnSeat.TheSendSync.{the_send as seat_send}
use Rattle.vk_hub.proofs.Crossing.{delivery_send, hub_state_send, hub_sync}
use Rattle.vk_port.proofs.Crossing.{station_send}
use Rattle.vk_program.specs.declared.program.Program.{Ghosts}
use Rattle.vk_threads.specs.contracts.end.Seats as seats_row
use Rattle.vk_threads.proofs.Sending.{end_send, port_send, process_send}
use Rattle.vk_udp.specs.contracts.carrier.Carrier as carrier_row
use Rattle.vk_udp.specs.contracts.clock.NodeClock as clock_row
use Rattle.vk_udp.specs.contracts.dock.Carry as carry_row
use Rattle.vk_udp.specs.contracts.dock.Dock as dock_row
use Rattle.vk_udp.specs.contracts.work.Carried as carried_row
use Rattle.vk_udp.specs.contracts.work.NodeEnd as node_end_row
use Rattle.vk_udp.specs.contracts.work.NodeWork as work_row
use Rattle.vk_udp.specs.declared.dock.Start.{Ghosts as StartGhosts}
use Rattle.vk_udp.specs.declared.link.Link.{Ghosts as LinkGhosts}

seats_send : IsSend seats_row.the_row
seats_send = search (sendable, crosses, seat_send, hub_state_send, station_send) depth 40 fits 20000

carry_send : (κ : NamedLft) (L S : RattleType) (l : LinkGhosts L.Denot) (t : StartGhosts S.Denot) → IsSend L → IsSend S
    → IsSend (carry_row.the_row κ L S l t)
carry_send κ L S l t s u =
    search (sendable, crosses, hub_sync, seat_send, hub_state_send, delivery_send, port_send) depth 40 fits 20000

dock_sync : (κ : NamedLft) (L S : RattleType) (l : LinkGhosts L.Denot) (t : StartGhosts S.Denot) → IsSend L → IsSend S
    → IsSync (dock_row.the_row κ L S l t)
dock_sync κ L S l t s u = search (sendable, crosses, carry_send) depth 40 fits 20000

clock_send : (σ κ π : NamedLft) (P L S : RattleType) (l : LinkGhosts L.Denot) (t : StartGhosts S.Denot) → IsSend P → IsSend L → IsSend S
    → IsSend (clock_row.the_row σ κ π P L S l t)
clock_send σ κ π P L S l t s u v = search (sendable, crosses, hub_sync, dock_sync, port_send, seats_send) depth 40 fits 20000

carrier_send : (σ κ : NamedLft) (L S : RattleType) (l : LinkGhosts L.Denot) (t : StartGhosts S.Denot) → IsSend L → IsSend S
    → IsSend (carrier_row.the_row σ κ L S l t)
carrier_send σ κ L S l t s u = search (sendable, crosses, hub_sync, dock_sync, seats_send) depth 40 fits 20000

pub work_send : (σ κ π : NamedLft) (G P L S : RattleType) (g : Ghosts G.Denot) (l : LinkGhosts L.Denot) (t : StartGhosts S.Denot) → IsSend G
    → IsSend P → IsSend L → IsSend S → IsSend (work_row.the_row σ κ π G P L S g l t)
work_send σ κ π G P L S g l t s u v w = search (sendable, crosses, process_send, dock_sync, clock_send, carrier_send) depth 40 fits 20000

carried_send : (L : RattleType) → IsSend L → IsSend (carried_row.the_row L)
carried_send L s = search (sendable, crosses, seat_send, hub_state_send, seats_send) depth 40 fits 20000

pub node_end_send : (L : RattleType) → IsSend L → IsSend (node_end_row.the_row L)
node_end_send L s = variants_send (node_end_row.enum L) ((end_send, tt), ((carried_send L s, tt), tt))
