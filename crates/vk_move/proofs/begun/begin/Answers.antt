use Rattle.std.proofs.Common.{[], ◌∷◌, ◌++◌, ap, refl, subst, sym, ◌∙◌}
use Rattle.vk_base.specs.declared.call.Call.TheVariants as calls
use Rattle.vk_base.specs.declared.step.Step.TheVariants as steps
use Rattle.vk_brief.specs.declared.call.BriefCall.{BriefCall}
use Rattle.vk_brief.specs.Brief.{call_with}
use Rattle.vk_move.specs.Begun.{IsMoveBegun, doing_of, is_away}
use Rattle.vk_move.proofs.BegunRule.{begun_rule}
use Rattle.vk_move.proofs.begun.begin.Goals as goal

pub returns-in-MoveTo : goal.returns-in-MoveTo
returns-in-MoveTo c =
    let p = c.parts.result in
    let is = c.parts.ensures.call ∙ ap (call_with p.1.now) c.in-MoveTo.is in
    let way = c.begin_way in
    subst (λ x. IsMoveBegun c.args.times.now c.args.now c.args.pid x way.result
    (doing_of c.args.procs.now c.args.aliens.now c.args.steps.now c.args.out.now)
    (doing_of way.new.procs way.new.aliens c.push.new.self way.new.out)) (sym is)
    (begun_rule c.args.times.now c.args.now c.args.pid c.args.procs.now c.args.aliens.now c.requires.moves c.requires.ready
    c.args.steps.now c.args.out.now (calls.MoveTo c.in-MoveTo.partner c.in-MoveTo.dest c.in-MoveTo.src c.in-MoveTo.count) refl
    (sym (ap (is_away c.args.pid) is) ∙ c.requires.away) way.result way.new.procs way.new.aliens
    c.push.new.self way.new.out way.ensures.answer way.ensures.seats way.ensures.slots
    (c.push.ensures ∙ ap (λ (b : BriefCall). c.args.steps.now ++ steps.Call c.args.pid (call_with [] b) ∷ []) c.call_in.ensures)
    way.ensures.packets)

pub returns-in-MoveFrom : goal.returns-in-MoveFrom
returns-in-MoveFrom c =
    let p = c.parts.result in
    let is = c.parts.ensures.call ∙ ap (call_with p.1.now) c.in-MoveFrom.is in
    let way = c.begin_way-in-MoveFrom in
    subst (λ x. IsMoveBegun c.args.times.now c.args.now c.args.pid x way.result
    (doing_of c.args.procs.now c.args.aliens.now c.args.steps.now c.args.out.now)
    (doing_of way.new.procs way.new.aliens c.push-in-MoveFrom.new.self way.new.out)) (sym is)
    (begun_rule c.args.times.now c.args.now c.args.pid c.args.procs.now c.args.aliens.now c.requires.moves c.requires.ready
    c.args.steps.now c.args.out.now
    (calls.MoveFrom c.in-MoveFrom.partner c.in-MoveFrom.dest c.in-MoveFrom.src c.in-MoveFrom.count) refl
    (sym (ap (is_away c.args.pid) is) ∙ c.requires.away) way.result way.new.procs way.new.aliens
    c.push-in-MoveFrom.new.self way.new.out way.ensures.answer way.ensures.seats way.ensures.slots
    (c.push-in-MoveFrom.ensures
    ∙ ap (λ (b : BriefCall). c.args.steps.now ++ steps.Call c.args.pid (call_with [] b) ∷ []) c.call_in-in-MoveFrom.ensures)
    way.ensures.packets)
