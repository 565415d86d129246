-- A hub's state and a delivery may go to another thread, and threads may share the hub, since all that they are made of may.
use denote.Param.Send.{IsSend, IsSync, sendable}
use Rattle.std.proofs.Crossing.{crosses}
use Rattle.turn_cell.proofs.Crossing.{past_send}
use Rattle.turn_cell.proofs.cell.TurnCell.TheSendSync.{the_sync as cell_sync}
use Rattle.vk_hub.proofs.links.Links.TheSendSync.{the_send as links_send}
use Rattle.vk_hub.specs.contracts.hub.Hub as hub_row
use Rattle.vk_hub.specs.contracts.places.Delivery as delivery_row
use Rattle.vk_hub.specs.contracts.state.HubState as state_row

pub hub_state_send : IsSend state_row.the_row
hub_state_send = search (sendable, crosses, past_send, links_send) depth 40 fits 20000

pub hub_sync : IsSync hub_row.the_row
hub_sync = search (sendable, crosses, cell_sync, hub_state_send) depth 40 fits 20000

pub delivery_send : IsSend delivery_row.the_row
delivery_send = search (sendable, crosses) depth 40 fits 20000
