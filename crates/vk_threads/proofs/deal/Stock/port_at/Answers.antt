use Rattle.vk_threads.proofs.Dealing.{new_seat, port_made, spare_cell, taken_hub_seat, taken_spare, taken_stock}
use Rattle.vk_threads.proofs.deal.Stock.port_at.Goals as goal

pub cell_at-cell-requires : goal.cell_at-cell-requires
cell_at-cell-requires c =
    let self = c.args.self.now in
    let spare = taken_spare self.sites.now self.hub.now c.args.host _ self.spares.items c.take_seat-seat.new.spares.items c.take_seat-seat.result
    self.hub_seats.items c.take_seat-seat.ensures c.requires.1 in
    (spare.cell, spare.there)

pub new-requires-clause-host : goal.new-requires-clause-host
new-requires-clause-host c =
    let self = c.args.self.now in
    (spare_cell self.sites.now self.hub.now c.args.host c.take_seat-seat.result c.cell_at-cell.result.now
    (taken_spare self.sites.now self.hub.now c.args.host _ self.spares.items c.take_seat-seat.new.spares.items c.take_seat-seat.result
    self.hub_seats.items c.take_seat-seat.ensures c.requires.1) c.cell_at-cell.ensures).0

pub new-requires-clause-seat : goal.new-requires-clause-seat
new-requires-clause-seat c =
    let self = c.args.self.now in
    (spare_cell self.sites.now self.hub.now c.args.host c.take_seat-seat.result c.cell_at-cell.result.now
    (taken_spare self.sites.now self.hub.now c.args.host _ self.spares.items c.take_seat-seat.new.spares.items c.take_seat-seat.result
    self.hub_seats.items c.take_seat-seat.ensures c.requires.1) c.cell_at-cell.ensures).1

pub new-requires-clause-hub_seat : goal.new-requires-clause-hub_seat
new-requires-clause-hub_seat c =
    let self = c.args.self.now in
    new_seat self.sites.now self.hub.now c.take_hub_seat-hub_seat.result
    (taken_hub_seat self.sites.now self.hub.now _ self.spares.items self.hub_seats.items c.take_hub_seat-hub_seat.new.seats.items
    c.take_hub_seat-hub_seat.result c.take_hub_seat-hub_seat.ensures c.requires.1)

pub returns-in-Ok-clause-left : goal.returns-in-Ok-clause-left
returns-in-Ok-clause-left c =
    let self = c.args.self.now in
    λ rest stock. taken_stock self.sites.now self.hub.now c.args.host rest self.spares.items c.take_seat-seat.new.spares.items c.take_seat-seat.result
    self.hub_seats.items c.take_hub_seat-hub_seat.new.seats.items c.take_hub_seat-hub_seat.result c.take_seat-seat.ensures
    c.take_hub_seat-hub_seat.ensures stock

pub returns-clause-left : goal.returns-clause-left
returns-clause-left c =
    let self = c.args.self.now in
    λ rest stock. taken_stock self.sites.now self.hub.now c.args.host rest self.spares.items c.take_seat-seat.new.spares.items c.take_seat-seat.result
    self.hub_seats.items c.take_hub_seat-hub_seat.new.seats.items c.take_hub_seat-hub_seat.result c.take_seat-seat.ensures
    c.take_hub_seat-hub_seat.ensures stock

pub returns-in-Ok-clause-port : goal.returns-in-Ok-clause-port
returns-in-Ok-clause-port c =
    let self = c.args.self.now in
    port_made self.sites.now self.hub.now c.args.host c.args.ticks c.take_seat-seat.result c.take_hub_seat-hub_seat.result c.cell_at-cell.result.now
    c.in-Ok.port
    (taken_spare self.sites.now self.hub.now c.args.host _ self.spares.items c.take_seat-seat.new.spares.items c.take_seat-seat.result
    self.hub_seats.items c.take_seat-seat.ensures c.requires.1)
    (taken_hub_seat self.sites.now self.hub.now _ self.spares.items self.hub_seats.items c.take_hub_seat-hub_seat.new.seats.items
    c.take_hub_seat-hub_seat.result c.take_hub_seat-hub_seat.ensures c.requires.1)
    c.cell_at-cell.ensures c.in-Ok.ensures.ok
