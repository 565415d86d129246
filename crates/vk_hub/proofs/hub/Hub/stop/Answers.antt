use Rattle.vk_hub.proofs.Stopping.{stopped, stopped_once}
use Rattle.vk_hub.proofs.hub.Hub.stop.Goals as goal

pub returns-clause-later : goal.returns-clause-later
returns-clause-later g c =
    let told = c.in-Ok.ensures in
    (stopped c.self.inside.cell.origin _ c.args.seat.now c.step_when_ready.new.seat _ c.in-Ok.field-0 told.done told.not_yet).0

pub returns-clause-halted : goal.returns-clause-halted
returns-clause-halted g c =
    let told = c.in-Ok.ensures in
    (stopped c.self.inside.cell.origin _ c.args.seat.now c.step_when_ready.new.seat _ c.in-Ok.field-0 told.done told.not_yet).1

pub returns-clause-once : goal.returns-clause-once
returns-clause-once g c =
    let told = c.in-Ok.ensures in
    stopped_once _ c.args.seat.now c.step_when_ready.new.seat _ _ c.in-Ok.field-0 told.done told.not_yet (λ before gives. gives.1)
