use Rattle.std.proofs.Common.{cond, Some, None, sym, ap, subst, ◌∙◌}
use Rattle.vk_base.specs.Settings.{Settings}
use Rattle.vk_text.specs.Lines.{lines_of, words_from}
use Rattle.v_trace.specs.Remaining.{IsNextStep, Remaining, acting, steps_left}
use Rattle.v_trace.specs.Steps.{step_of}
use Rattle.v_trace.proofs.RemainingSteps.{config_left}
use Rattle.vk_explain.proofs.Sighted.{first_step, next_config}
use Rattle.vk_explain.proofs.reading.read_step.Goals as goal

pub returns-clause-same : goal.returns-clause-same
returns-clause-same c =
    c.into_config.ensures
    ∙ next_config c.resume-reader.result c.next-is_step.new.self (cond c.next-is_step.result (Some c.next-is_step.new.step) None)
    c.next-is_step.ensures.next
    ∙ ap (λ (r : Remaining). r.config) c.resume-reader.ensures ∙ config_left c.replace-own.result 0 (lines_of c.args.text.now)
    ∙ c.replace-own.ensures.value

pub returns-clause-step : goal.returns-clause-step
returns-clause-step c =
    let own = c.replace-own.result in
    let given = cond c.next-is_step.result (Some c.next-is_step.new.step) None in
    λ l ls is. ap (λ (s : Settings). acting s.specs (step_of (words_from l 0))) (sym c.replace-own.ensures.value)
    ∙ first_step own l ls c.next-is_step.new.self given
    (subst (λ (r : Remaining). IsNextStep r c.next-is_step.new.self given) (c.resume-reader.ensures ∙ ap (steps_left own 0) is)
    c.next-is_step.ensures.next)
