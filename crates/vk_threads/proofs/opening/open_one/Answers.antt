use Rattle.std.proofs.Common.{arith, ◌∙◌}
use denote.Param.Send.{sendable}
use Rattle.std.proofs.Crossing.{crosses}
use Rattle.vk_port.proofs.Crossing.{station_send}
use Rattle.vk_threads.proofs.Opened.{opened_one, origin_fresh}
use Rattle.vk_threads.proofs.opening.open_one.Goals as goal

pub returns : goal.returns
returns c =
    let made = c.in-Ok.ensures in
    opened_one c.args.config.now c.args.host c.args.seats c.in-Ok.cell c.in-Ok.seats.items c.args.spares.now.items c.add_spares.new.spares.items
    (made.cell.0 ∙ origin_fresh c.in_ok-station.station c.args.config.now c.args.host c.in_ok-station.ensures.config c.in_ok-station.ensures.host)
    made.cell.1 (omega (arith, c.in-Ok.seats.ok.0, made.count)) made.each c.in_ok-add_spares.ensures

pub new-requires-2-send-S : goal.new-requires-2-send-S
new-requires-2-send-S c κs = search (sendable, crosses, station_send) depth 20
