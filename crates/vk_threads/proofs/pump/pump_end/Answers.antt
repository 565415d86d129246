use Rattle.std.proofs.Common.{◌∙◌, ◌++◌, ◌∷◌, [], Some, None, ap, subst, sym}
use Rattle.v_run.specs.Passages.{Pumps}
use Rattle.vk_threads.specs.Ends.{MayEnd}
use Rattle.vk_threads.specs.Works.{HasPumped, HasPumpedCut}
use Rattle.vk_threads.proofs.Ending.{pump_cut, pump_stopped}
use Rattle.vk_threads.proofs.pump.pump_end.Goals as goal

pub returns-in-Ok : goal.returns-in-Ok
returns-in-Ok g c =
    let w = c.work.inside in
    let p = c.args.work in
    let s = c.close_port.result in
    let pumped = subst (λ x. HasPumped x c.pump_on.new.port) (c.work.view_is) c.in-Ok.ensures.stopped in
    let host = c.close_port.ensures.host ∙ (c.work.invariant.1 ∙ ap (λ x. x.host) (c.work.view_is)) in
    subst (λ l. MayEnd (p ∷ []) (Pumps ∷ []) 0 l None) (sym (c.push_reserved.ensures.items ∙ ap (λ l. l ++ s ∷ []) c.work.invariant.2))
    (pump_stopped p c.pump_on.new.port s host pumped c.close_port.ensures.closed)

pub returns-in-Err : goal.returns-in-Err
returns-in-Err g c =
    let p = c.args.work in
    let s = c.close_port-in-Err.result in
    let pumped = subst (λ x. HasPumpedCut x c.pump_on.new.port c.in-Err.why) (c.work.view_is) c.in-Err.ensures.cut in
    let host = c.close_port-in-Err.ensures.host ∙ (c.work.invariant.1 ∙ ap (λ x. x.host) (c.work.view_is)) in
    subst (λ l. MayEnd (p ∷ []) (Pumps ∷ []) 0 l (Some c.in-Err.why)) (sym (c.push_reserved-in-Err.ensures.items ∙ ap (λ l. l ++ s ∷ []) c.work.invariant.2))
    (pump_cut p c.pump_on.new.port s host c.in-Err.why pumped c.close_port-in-Err.ensures.closed)
