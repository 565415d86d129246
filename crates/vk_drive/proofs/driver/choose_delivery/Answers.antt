use Rattle.std.proofs.Common.{sym, subst, ap, ◌∙◌, arith}
use Rattle.vk_generator.specs.Numbers.{drawn}
use Rattle.vk_drive.specs.Driving.{IsOfStation}
use Rattle.vk_drive.specs.Storms.{chosen}
use Rattle.vk_drive.proofs.Chosen.{comes_to, ticks_at}
use Rattle.vk_drive.proofs.Drawn.{chosen_is, comes, none_chosen}
use Rattle.vk_drive.proofs.driver.choose_delivery.Goals as goal

pub returns-then-count-eq0-clause-chosen : goal.returns-then-count-eq0-clause-chosen
returns-then-count-eq0-clause-chosen c fs keeps =
    ap (chosen c.args.generator.now) c.set_tick.ensures
    ∙ none_chosen fs c.args.recent.now keeps c.len-count.result c.len-count.ensures c.args.generator.now c.if-count-eq0.true

pub returns-then-count-eq0-clause-station : goal.returns-then-count-eq0-clause-station
returns-then-count-eq0-clause-station c = subst IsOfStation (sym c.set_tick.ensures) (ticks_at 0 (omega arith))

pub returns-clause-chosen : goal.returns-clause-chosen
returns-clause-chosen c fs keeps =
    ap (λ x. chosen x c.set_delivery.new.next) c.draw.ensures.state
    ∙ chosen_is fs c.args.recent.now keeps c.len-count.result c.len-count.ensures c.if-count-eq0.false c.draw.result c.place-place.result
    c.place-place.ensures c.get.result.now c.get.ensures c.set_delivery.new.next c.set_delivery.ensures c.args.generator.now
    (c.draw.ensures.drawn ∙ ap drawn c.draw.ensures.state)

pub returns-clause-station : goal.returns-clause-station
returns-clause-station c = subst IsOfStation (sym c.set_delivery.ensures) (comes_to c.get.result.now.header)

pub returns-clause-frame : goal.returns-clause-frame
returns-clause-frame c fs keeps =
    comes fs c.args.recent.now keeps c.len-count.result c.len-count.ensures c.if-count-eq0.false c.draw.result c.place-place.result
    c.place-place.ensures c.get.result.now c.get.ensures c.set_delivery.new.next c.set_delivery.ensures
