use Rattle.std.proofs.Common.{◌+◌, ◌-◌, ◌≤◌, Ok, Err, refl, sym, ap, subst, ◌∙◌, arith}
use Rattle.vk_base.specs.Calls.{call_step}
use Rattle.vk_brief.specs.Brief.{call_with}
use Rattle.v_machine.specs.declared.calls.response.Response.TheVariants as responses
use Rattle.v_machine.specs.Apply.{most, noted_by_call}
use Rattle.v_machine.specs.Kept.{kernel_in}
use Rattle.v_machine.specs.Rules.{Answers, Counts, seen_by, seen_result}
use Rattle.v_machine.proofs.Applying.{counts_none}
use Rattle.v_machine.proofs.CallSteps.{none_if, refused_goes, refused_notes, accepted_goes, accepted_notes, load_answers, load_notes}
use Rattle.v_machine.proofs.Stores.{is_error}
use Rattle.v_machine.proofs.calls.call.Goals as goal

pub returns-in-Some-caller_refusal-clause-answers : goal.returns-in-Some-caller_refusal-clause-answers
returns-in-Some-caller_refusal-clause-answers c =
    let s = c.args.store.now in
    let there = c.proc.ensures c.args.pid c.in-Some.ensures.here.place in
    let why = c.in-Some-caller_refusal.why in
    let refused = sym c.caller_refusal.ensures ∙ c.in-Some-caller_refusal.is in
    let none = refused_notes s c.args.pid _ c.args.call.now there why refused in
    let seen = seen_by c.args.pid c.args.call.now (responses.Refused why) in
    subst (Answers (call_step (kernel_in s) c.args.pid c.args.call.now)
    (noted_by_call c.args.call.now (call_step (kernel_in s) c.args.pid c.args.call.now)) (most - c.args.noted.now) s s)
    (sym c.observation.ensures) (
      refused_goes s c.args.pid _ c.args.call.now there why seen c.requires.kept.indexed refused refl,
      subst (λ n. n ≤ most - c.args.noted.now) (sym none) (omega arith),
    )

pub returns-in-Some-caller_refusal-clause-counts : goal.returns-in-Some-caller_refusal-clause-counts
returns-in-Some-caller_refusal-clause-counts c =
    let there = c.proc.ensures c.args.pid c.in-Some.ensures.here.place in
    let none = refused_notes c.args.store.now c.args.pid _ c.args.call.now there c.in-Some-caller_refusal.why
    (sym c.caller_refusal.ensures ∙ c.in-Some-caller_refusal.is) in
    subst (λ n. Counts n c.args.noted.now c.args.noted.now c.observation.result) (sym none)
    (counts_none c.args.noted.now c.observation.result)

pub returns-in-Load-clause-answers : goal.returns-in-Load-clause-answers
returns-in-Load-clause-answers c =
    let there = c.proc.ensures c.args.pid c.in-Some.ensures.here.place in
    let ready = sym c.caller_refusal.ensures ∙ none_if c.caller_refusal.result c.in_default-caller_refusal.not-Some in
    let is = c.parts.ensures.call ∙ ap (call_with c.parts.result.1.now) c.in-Load.is in
    load_answers c.args.store.now c.args.pid _ c.args.call.now there c.in-Load.start c.in-Load.count (most - c.args.noted.now) c.load.result
    is ready (c.load.ensures _ there)

pub returns-in-Load-clause-counts : goal.returns-in-Load-clause-counts
returns-in-Load-clause-counts c =
    let there = c.proc.ensures c.args.pid c.in-Some.ensures.here.place in
    let is = c.parts.ensures.call ∙ ap (call_with c.parts.result.1.now) c.in-Load.is in
    let none = load_notes c.args.store.now c.args.pid _ c.args.call.now there c.in-Load.start c.in-Load.count is in
    subst (λ n. Counts n c.args.noted.now c.args.noted.now c.load.result) (sym none) (counts_none c.args.noted.now c.load.result)

pub returns-in_err-response : goal.returns-in_err-response
returns-in_err-response c =
    let s = c.args.store.now in
    let there = c.proc.ensures c.args.pid c.in-Some.ensures.here.place in
    let ready = sym c.caller_refusal.ensures ∙ none_if c.caller_refusal.result c.in_default-caller_refusal.not-Some in
    rw (is_error c.from_residual.result _ c.from_residual.ensures.1) (record {
      answers = accepted_goes s c.args.pid _ c.args.call.now there c.accept.new.store (most - c.args.noted.now) c.accept.result
          (Err c.in_err-response.field-0.0) ready c.accept.ensures
          (sym (ap (seen_result c.args.pid c.args.call.now) c.in_err-response.was));
      counts = refl;
    })

pub overflow_add-noted : goal.overflow_add-noted
overflow_add-noted c =
    let s = c.args.store.now in
    let there = c.proc.ensures c.args.pid c.in-Some.ensures.here.place in
    let ready = sym c.caller_refusal.ensures ∙ none_if c.caller_refusal.result c.in_default-caller_refusal.not-Some in
    let seen = seen_by c.args.pid c.args.call.now c.in_ok-response.response in
    let answers = accepted_goes s c.args.pid _ c.args.call.now there c.accept.new.store (most - c.args.noted.now) c.accept.result (Ok seen)
    ready c.accept.ensures (sym (ap (seen_result c.args.pid c.args.call.now) c.in_ok-response.was)) in
    let notes = accepted_notes s c.args.pid _ c.args.call.now there c.accept.new.store (most - c.args.noted.now) c.noted_by_call.result
    c.in_ok-response.response seen refl answers c.noted_by_call.ensures in
    let low = answers.1 in
    let before = c.requires.low in
    omega (arith, notes, low, before)

pub returns-in-Begun : goal.returns-in-Begun
returns-in-Begun c =
    let s = c.args.store.now in
    let there = c.proc.ensures c.args.pid c.in-Some.ensures.here.place in
    let ready = sym c.caller_refusal.ensures ∙ none_if c.caller_refusal.result c.in_default-caller_refusal.not-Some in
    let seen = seen_by c.args.pid c.args.call.now c.in_ok-response.response in
    let answers = accepted_goes s c.args.pid _ c.args.call.now there c.accept.new.store (most - c.args.noted.now) c.accept.result (Ok seen)
    ready c.accept.ensures (sym (ap (seen_result c.args.pid c.args.call.now) c.in_ok-response.was)) in
    let notes = accepted_notes s c.args.pid _ c.args.call.now there c.accept.new.store (most - c.args.noted.now) c.noted_by_call.result
    c.in_ok-response.response seen refl answers c.noted_by_call.ensures in
    record {
      answers = subst (λ o. Answers (call_step (kernel_in s) c.args.pid c.args.call.now)
          (noted_by_call c.args.call.now (call_step (kernel_in s) c.args.pid c.args.call.now)) (most - c.args.noted.now) s
          c.accept.new.store (Ok o)) (ap (seen_by c.args.pid c.args.call.now) c.in-Begun.is) answers;
      counts = ap (λ n. c.args.noted.now + n) notes;
    }

pub returns : goal.returns
returns c =
    let s = c.args.store.now in
    let there = c.proc.ensures c.args.pid c.in-Some.ensures.here.place in
    let ready = sym c.caller_refusal.ensures ∙ none_if c.caller_refusal.result c.in_default-caller_refusal.not-Some in
    let seen = seen_by c.args.pid c.args.call.now c.in_ok-response.response in
    let answers = accepted_goes s c.args.pid _ c.args.call.now there c.accept.new.store (most - c.args.noted.now) c.accept.result (Ok seen)
    ready c.accept.ensures (sym (ap (seen_result c.args.pid c.args.call.now) c.in_ok-response.was)) in
    let notes = accepted_notes s c.args.pid _ c.args.call.now there c.accept.new.store (most - c.args.noted.now) c.noted_by_call.result
    c.in_ok-response.response seen refl answers c.noted_by_call.ensures in
    record {
      answers = subst (Answers (call_step (kernel_in s) c.args.pid c.args.call.now)
          (noted_by_call c.args.call.now (call_step (kernel_in s) c.args.pid c.args.call.now)) (most - c.args.noted.now) s
          c.accept.new.store) (sym c.observation-2.ensures) answers;
      counts = subst (Counts (noted_by_call c.args.call.now (call_step (kernel_in s) c.args.pid c.args.call.now)) c.args.noted.now
          (c.args.noted.now + c.noted_by_call.result)) (sym c.observation-2.ensures) (ap (λ n. c.args.noted.now + n) notes);
    }
