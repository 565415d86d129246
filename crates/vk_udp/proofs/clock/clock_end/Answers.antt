use Rattle.std.proofs.Common.{◌∙◌, ◌++◌, ◌∷◌, [], ap, subst, sym}
use Rattle.vk_udp.specs.Jobs.{EndsClock}
use Rattle.vk_udp.specs.Values.{ClockDuty}
use Rattle.vk_udp.proofs.Ending.{clock_ended}
use Rattle.vk_udp.proofs.clock.clock_end.Goals as goal

pub returns : goal.returns
returns g c =
    let w = c.work.inside in
    let s = c.stop_port.result in
    let met = c.tick_on-met.result in
    let host = c.stop_port.ensures.host ∙ c.work.invariant.1 in
    subst (λ (v : ClockDuty). EndsClock v.port v.rounds c.push_reserved.new.self.items met) c.work.view_is
    (subst (λ l. EndsClock w.port w.rounds l met) (sym (c.push_reserved.ensures.items ∙ ap (λ l. l ++ s ∷ []) c.work.invariant.3))
    (clock_ended w.port c.tick_on-met.new.port s w.rounds met c.tick_on-met.ensures host c.stop_port.ensures.stopped))
