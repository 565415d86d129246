use Rattle.std.proofs.Common.{◌∙◌, ◌++◌, ◌∷◌, [], Some, None, ap, subst, sym}
use Rattle.vk_threads.specs.Ends.{EndsProcess}
use Rattle.vk_threads.specs.Works.{HasPlayed}
use Rattle.vk_threads.proofs.Ending.{process_cut, process_done, process_here, process_stopped}
use Rattle.vk_threads.proofs.process.play_out.Goals as goal

pub returns-in-Ok-true : goal.returns-in-Ok-true
returns-in-Ok-true g c =
    let inside = c.work.inside in
    let p = inside.port in
    let q = c.play.new.port in
    let task = g.G.Program.task inside.program in
    let s = c.finish_port-closed.result.0 in
    let met = c.finish_port-closed.result.1 in
    let played = subst (λ b. HasPlayed p q inside.pid task b) c.in-Ok-true.field-0-test c.in-Ok-true.ensures.played in
    let done = process_done p q inside.pid task s (c.finish_port-closed.ensures.host ∙ c.work.invariant.2)
    (process_here p.station.origin inside.pid c.work.invariant.1) played met c.finish_port-closed.ensures.ended in
    subst (λ v. EndsProcess v.port v.pid (g.G.Program.task v.program) c.push_reserved.new.self.items met) (c.work.view_is)
    (subst (λ l. EndsProcess p inside.pid task l met) (sym (c.push_reserved.ensures.items ∙ ap (λ l. l ++ s ∷ []) c.work.invariant.4)) done)

pub returns-in-Ok-false : goal.returns-in-Ok-false
returns-in-Ok-false g c =
    let inside = c.work.inside in
    let p = inside.port in
    let q = c.play.new.port in
    let task = g.G.Program.task inside.program in
    let s = c.close_port.result in
    let played = subst (λ b. HasPlayed p q inside.pid task b) c.in-Ok-false.field-0-test c.in-Ok-false.ensures.played in
    let done = process_stopped p q inside.pid task s (c.close_port.ensures.host ∙ c.work.invariant.2)
    (process_here p.station.origin inside.pid c.work.invariant.1) played c.close_port.ensures.closed in
    subst (λ v. EndsProcess v.port v.pid (g.G.Program.task v.program) c.push_reserved-in-Ok-false.new.self.items None) (c.work.view_is)
    (subst (λ l. EndsProcess p inside.pid task l None)
    (sym (c.push_reserved-in-Ok-false.ensures.items ∙ ap (λ l. l ++ s ∷ []) c.work.invariant.4)) done)

pub returns : goal.returns
returns g c =
    let inside = c.work.inside in
    let p = inside.port in
    let q = c.play.new.port in
    let task = g.G.Program.task inside.program in
    let s = c.close_port-in-Err.result in
    let why = c.in-Err.why in
    let done = process_cut p q inside.pid task s (c.close_port-in-Err.ensures.host ∙ c.work.invariant.2)
    (process_here p.station.origin inside.pid c.work.invariant.1) why c.in-Err.ensures.cut c.close_port-in-Err.ensures.closed in
    subst (λ v. EndsProcess v.port v.pid (g.G.Program.task v.program) c.push_reserved-in-Err.new.self.items (Some why)) (c.work.view_is)
    (subst (λ l. EndsProcess p inside.pid task l (Some why))
    (sym (c.push_reserved-in-Err.ensures.items ∙ ap (λ l. l ++ s ∷ []) c.work.invariant.4)) done)
