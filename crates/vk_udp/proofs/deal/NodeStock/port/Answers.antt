use Rattle.vk_udp.proofs.Dealing.{new_seat, port_made, taken_seat, taken_stock}
use Rattle.vk_udp.proofs.deal.NodeStock.port.Goals as goal

pub new-requires-clause-host : goal.new-requires-clause-host
new-requires-clause-host c = c.requires.1.at

pub new-requires-clause-seat : goal.new-requires-clause-seat
new-requires-clause-seat c =
    let self = c.args.self.now in
    new_seat self.cell.now c.take_seat-seat.result
    (taken_seat self.cell.now self.seats.items c.take_seat-seat.new.seats.items c.take_seat-seat.result c.take_seat-seat.ensures c.requires.1.each)

pub new-requires-clause-hub_seat : goal.new-requires-clause-hub_seat
new-requires-clause-hub_seat c =
    let self = c.args.self.now in
    new_seat self.hub.now c.take_hub_seat-hub_seat.result
    (taken_seat self.hub.now self.hub_seats.items c.take_hub_seat-hub_seat.new.seats.items c.take_hub_seat-hub_seat.result
    c.take_hub_seat-hub_seat.ensures c.requires.1.at_hub)

pub returns-in-Ok-clause-left : goal.returns-in-Ok-clause-left
returns-in-Ok-clause-left c =
    let self = c.args.self.now in
    λ n stock. taken_stock self.cell.now self.hub.now self.host n self.seats.items c.take_seat-seat.new.seats.items c.take_seat-seat.result
    self.hub_seats.items c.take_hub_seat-hub_seat.new.seats.items c.take_hub_seat-hub_seat.result c.take_seat-seat.ensures
    c.take_hub_seat-hub_seat.ensures stock

pub returns-clause-left : goal.returns-clause-left
returns-clause-left c =
    let self = c.args.self.now in
    λ n stock. taken_stock self.cell.now self.hub.now self.host n self.seats.items c.take_seat-seat.new.seats.items c.take_seat-seat.result
    self.hub_seats.items c.take_hub_seat-hub_seat.new.seats.items c.take_hub_seat-hub_seat.result c.take_seat-seat.ensures
    c.take_hub_seat-hub_seat.ensures stock

pub returns-in-Ok-clause-port : goal.returns-in-Ok-clause-port
returns-in-Ok-clause-port c =
    let self = c.args.self.now in
    port_made self.cell.now self.hub.now self.host c.args.ticks c.take_seat-seat.result c.take_hub_seat-hub_seat.result c.in-Ok.port
    (taken_seat self.cell.now self.seats.items c.take_seat-seat.new.seats.items c.take_seat-seat.result c.take_seat-seat.ensures c.requires.1.each)
    (taken_seat self.hub.now self.hub_seats.items c.take_hub_seat-hub_seat.new.seats.items c.take_hub_seat-hub_seat.result
    c.take_hub_seat-hub_seat.ensures c.requires.1.at_hub) c.in-Ok.ensures.ok
