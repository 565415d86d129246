use Rattle.std.proofs.Common.{◌+◌, Err, length, refl, ap, subst, sym, ◌∙◌}
use Rattle.v_machine.specs.Follows.{Follows}
use Rattle.v_trace.specs.Remaining.{Remaining}
use Rattle.vk_top.proofs.Nexts.{fewer_steps, next_step, no_step, step_counted}
use Rattle.vk_top.proofs.Verdicts.{as_far_at_first, as_far_more, as_far_refused, as_far_too_much, as_far_over, next_far}
use Rattle.vk_top.specs.Check.{without_steps}
use Rattle.vk_top.proofs.check.apply_steps.Goals as goal

pub loop-alloc-init : goal.loop-alloc-init
loop-alloc-init c = record {
  counted = refl;
  ends = refl;
  verdict = λ k stands. as_far_at_first k c.args.before c.args.reader.now.steps c.args.machine.now stands;
}

pub returns-in-Err-NotAllowed-clause-found : goal.returns-in-Err-NotAllowed-clause-found
returns-in-Err-NotAllowed-clause-found c = λ k stands.
    let next = next_step _ _ _ _ c.loop-alloc-test.true c.next.ensures.next in
    let far = next_far k _ _ _ _ _ _ _ _ next (c.loop-alloc.invariant.verdict k stands) in
    let applied = subst (λ why. Follows c.next.new.step c.loop-alloc.machine c.apply.new.machine (Err why)) c.in-Err-NotAllowed.field-0-is
    c.in-Err-NotAllowed.ensures in
    as_far_refused k _ _ _ _ c.apply.new.machine _ _ _ far applied

pub returns-in-Err-NotAllowed-clause-count : goal.returns-in-Err-NotAllowed-clause-count
returns-in-Err-NotAllowed-clause-count c =
    step_counted _ _ _ _ _ (next_step _ _ _ _ c.loop-alloc-test.true c.next.ensures.next) c.loop-alloc.invariant.counted

pub returns-in-Err-NotAllowed-clause-ending : goal.returns-in-Err-NotAllowed-clause-ending
returns-in-Err-NotAllowed-clause-ending c =
    ap without_steps (sym (next_step _ _ _ _ c.loop-alloc-test.true c.next.ensures.next)) ∙ c.loop-alloc.invariant.ends

pub returns-in-Err-Limit-clause-found : goal.returns-in-Err-Limit-clause-found
returns-in-Err-Limit-clause-found c = λ k stands.
    let next = next_step _ _ _ _ c.loop-alloc-test.true c.next.ensures.next in
    let far = next_far k _ _ _ _ _ _ _ _ next (c.loop-alloc.invariant.verdict k stands) in
    let applied = subst (λ why. Follows c.next.new.step c.loop-alloc.machine c.apply.new.machine (Err why)) c.in-Err-Limit.field-0-is
    c.in-Err-Limit.ensures in
    as_far_too_much k _ _ _ _ c.apply.new.machine _ _ _ far applied

pub returns-in-Err-Limit-clause-count : goal.returns-in-Err-Limit-clause-count
returns-in-Err-Limit-clause-count c =
    step_counted _ _ _ _ _ (next_step _ _ _ _ c.loop-alloc-test.true c.next.ensures.next) c.loop-alloc.invariant.counted

pub returns-in-Err-Limit-clause-ending : goal.returns-in-Err-Limit-clause-ending
returns-in-Err-Limit-clause-ending c =
    ap without_steps (sym (next_step _ _ _ _ c.loop-alloc-test.true c.next.ensures.next)) ∙ c.loop-alloc.invariant.ends

pub returns-in-Err-NoMemory-clause-count : goal.returns-in-Err-NoMemory-clause-count
returns-in-Err-NoMemory-clause-count c =
    step_counted _ _ _ _ _ (next_step _ _ _ _ c.loop-alloc-test.true c.next.ensures.next) c.loop-alloc.invariant.counted

pub returns-in-Err-NoMemory-clause-ending : goal.returns-in-Err-NoMemory-clause-ending
returns-in-Err-NoMemory-clause-ending c =
    ap without_steps (sym (next_step _ _ _ _ c.loop-alloc-test.true c.next.ensures.next)) ∙ c.loop-alloc.invariant.ends

pub loop-alloc-preserved : goal.loop-alloc-preserved
loop-alloc-preserved c =
    let next = next_step _ _ _ _ c.loop-alloc-test.true c.next.ensures.next in
    record {
      counted = step_counted _ _ _ _ _ next c.loop-alloc.invariant.counted;
      ends = ap without_steps (sym next) ∙ c.loop-alloc.invariant.ends;
      verdict = λ k stands.
          let far = next_far k _ _ _ _ _ _ _ _ next (c.loop-alloc.invariant.verdict k stands) in
          as_far_more k _ _ _ _ c.apply.new.machine _ _ _ far _ c.in-Ok.ensures;
    }

pub loop-alloc-smaller : goal.loop-alloc-smaller
loop-alloc-smaller c = fewer_steps _ _ _ (next_step _ _ _ _ c.loop-alloc-test.true c.next.ensures.next)

pub returns-clause-found : goal.returns-clause-found
returns-clause-found c = λ k stands.
    let end = no_step _ _ _ _ c.loop-alloc-test.false c.next.ensures.next in
    as_far_over k _ _ _ _ _ _ end.0 c.loop-alloc.invariant.counted (c.loop-alloc.invariant.verdict k stands)

pub returns-clause-count : goal.returns-clause-count
returns-clause-count c =
    let end = no_step _ _ _ _ c.loop-alloc-test.false c.next.ensures.next in
    ap (λ (r : Remaining). c.loop-alloc.read + length r.steps) end.1 ∙ c.loop-alloc.invariant.counted

pub returns-clause-ending : goal.returns-clause-ending
returns-clause-ending c =
    let end = no_step _ _ _ _ c.loop-alloc-test.false c.next.ensures.next in
    ap without_steps end.1 ∙ c.loop-alloc.invariant.ends
