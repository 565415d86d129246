use Rattle.std.proofs.Common.{◌%◌, sym, subst, arith}
use Rattle.vk_drive.specs.Driving.{IsOfStation}
use Rattle.vk_drive.proofs.Chosen.{ticks_at}
use Rattle.vk_drive.proofs.driver.choose_tick.Goals as goal

pub returns-clause-station : goal.returns-clause-station
returns-clause-station c = subst IsOfStation (sym c.set_tick.ensures) (ticks_at (c.draw.result % 4) (omega arith))
