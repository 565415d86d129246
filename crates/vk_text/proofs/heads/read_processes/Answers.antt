use Rattle.std.proofs.Common.{◌∙◌, ap, arith, cond, drop, sym, Some, None}
use Rattle.vk_base.specs.Settings.{Settings}
use Rattle.vk_text.specs.Lines.{lines_of}
use Rattle.vk_text.proofs.HeadReading.{more_processes, other_line, no_line_left, process_wanted, uniform_on}
use Rattle.vk_text.proofs.heads.read_processes.Goals as goal

pub loop-line-preserved : goal.loop-line-preserved
loop-line-preserved c = record {
  within = omega (arith, c.in-Some.ensures.next);
  uniform = uniform_on c.args.config.now c.loop-line.config c.add_process.new.config c.loop-line.invariant.uniform
      c.add_process.ensures.uniform;
  read = more_processes _ _ _ _ _ _ c.loop-line.invariant.read c.in-Some.ensures.line
      (c.in-Ok-true.ensures.added ∙ ap (λ b. cond b (Some c.add_process.new.config.specs) None) c.in-Ok-true.field-0-test);
}

pub returns-in-Ok-false-clause-read : goal.returns-in-Ok-false-clause-read
returns-in-Ok-false-clause-read c =
    other_line _ _ _ _ _ c.loop-line.invariant.read c.in-Some.ensures.line
    (c.in-Ok-false.ensures.added ∙ ap (λ b. cond b (Some c.add_process.new.config.specs) None) c.in-Ok-false.field-0-test)
    ∙ ap (λ (s : Settings). (s.specs, lines_of (drop c.loop-line.at c.args.text.now)))
    (sym (c.in-Ok-false.ensures.same c.in-Ok-false.field-0-test))

pub returns-in-Err-clause-memory : goal.returns-in-Err-clause-memory
returns-in-Err-clause-memory c =
    process_wanted _ _ _ _ _ c.loop-line.invariant.read c.in-Some.ensures.line c.in-Err.ensures.memory

pub returns-clause-read : goal.returns-clause-read
returns-clause-read c = no_line_left _ _ _ c.loop-line.invariant.read c.in_default.ensures.line
