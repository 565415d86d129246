use Rattle.std.proofs.Common.{◌<◌, ◌∙◌, List, Some, None, ap, arith, cond, inr, length, subst, sym}
use Rattle.vk_types.specs.Types.{ProcessSpec}
use Rattle.vk_base.specs.Settings.{Settings}
use Rattle.vk_event.specs.Tasks.{with_task_line}
use Rattle.vk_event.proofs.ScenarioLines.{line_given, line_ends, text_ends, told_ok, told_err}
use Rattle.vk_event.proofs.scenario.read_body.Goals as goal

pub end-requires-clause-some : goal.end-requires-clause-some
end-requires-clause-some c = subst (λ (s : Settings). 0 < length s.specs) (sym c.loop-words.invariant.config) c.requires.some

pub returns-in-Ok-false-clause-scenario : goal.returns-in-Ok-false-clause-scenario
returns-in-Ok-false-clause-scenario c =
    told_ok c.end.result _ _
    (line_ends _ c.loop-words.config c.loop-words.tasks.items c.take_line.new.tasks.items c.loop-words.line c.in-Some.words.now _ _
    c.loop-words.invariant.read c.in-Some.ensures.line
    (ap (λ (specs : List ProcessSpec). with_task_line specs c.loop-words.tasks.items c.in-Some.words.now)
    (sym c.specs-in-Some.ensures.specs)
    ∙ c.in-Ok-false.ensures.taken
    ∙ ap (λ b. cond b (Some c.take_line.new.tasks.items) None) c.in-Ok-false.field-0-test)
    (c.in-Ok-false.ensures.same c.in-Ok-false.field-0-test)) c.end.ensures.scenario

pub returns-in-Ok-false-clause-refused : goal.returns-in-Ok-false-clause-refused
returns-in-Ok-false-clause-refused c =
    told_err c.end.result _ _
    (line_ends _ c.loop-words.config c.loop-words.tasks.items c.take_line.new.tasks.items c.loop-words.line c.in-Some.words.now _ _
    c.loop-words.invariant.read c.in-Some.ensures.line
    (ap (λ (specs : List ProcessSpec). with_task_line specs c.loop-words.tasks.items c.in-Some.words.now)
    (sym c.specs-in-Some.ensures.specs)
    ∙ c.in-Ok-false.ensures.taken
    ∙ ap (λ b. cond b (Some c.take_line.new.tasks.items) None) c.in-Ok-false.field-0-test)
    (c.in-Ok-false.ensures.same c.in-Ok-false.field-0-test)) c.end.ensures.refused

pub loop-words-preserved : goal.loop-words-preserved
loop-words-preserved c = record {
  config = c.loop-words.invariant.config;
  within = omega (arith, c.in-Some.ensures.next);
  small = omega (arith, c.in-Some.ensures.next, c.loop-words.invariant.small);
  read =
      line_given _ c.loop-words.config c.loop-words.tasks.items _ c.loop-words.line c.in-Some.words.now _ _
      c.loop-words.invariant.read c.in-Some.ensures.line
      (ap (λ (specs : List ProcessSpec). with_task_line specs c.loop-words.tasks.items c.in-Some.words.now)
      (sym c.specs-in-Some.ensures.specs)
      ∙ c.in-Ok-true.ensures.taken
      ∙ ap (λ b. cond b (Some c.take_line.new.tasks.items) None) c.in-Ok-true.field-0-test);
}

pub returns-clause-refused : goal.returns-clause-refused
returns-clause-refused c =
    inr (text_ends _ c.loop-words.config c.loop-words.tasks.items c.loop-words.line _ c.loop-words.invariant.read
    c.in_default-next_line.ensures.line)
