use Rattle.std.proofs.Common.{inl, ◌≡◌, ◌+◌, ◌<◌, ◌∷◌, ◌++◌, [], List, cond, Some, None, refl, sym, ap, subst, ◌∙◌, arith}
use Rattle.vk_types.specs.Types.{ProcessSpec, Step}
use Rattle.vk_text.specs.Lines.{words_from}
use Rattle.v_machine.specs.Apply.{IsRefused, most, notes}
use Rattle.vk_base.specs.Steps.{effect}
use Rattle.v_machine.specs.Follows.{StandsFor}
use Rattle.v_machine.specs.Spent.{lean_kernel}
use Rattle.v_machine.specs.Tables.{Tables, kernel_of}
use Rattle.v_obstacle.specs.Obstacles.{obstacle}
use Rattle.v_trace.specs.Remaining.{acting}
use Rattle.v_trace.specs.Steps.{step_of}
use Rattle.vk_explain.specs.Observed.{asked_lines}
use Rattle.vk_explain.specs.Reading.{last_of, untold}
use Rattle.vk_explain.proofs.Sighted.{line_step, stepped}
use Rattle.vk_explain.proofs.reading.Reading.take_step.Goals as goal

pub returns-then-not-read_step-clause-wrong : goal.returns-then-not-read_step-clause-wrong
returns-then-not-read_step-clause-wrong c =
    λ specs ws line ls had lines none. (
      refl,
      line_step c.args.self.now.tells specs ws line None none
          (ap (λ (s : List ProcessSpec). acting s (step_of (words_from line 0))) (sym had.config) ∙ c.read_step.ensures.step line ls lines
          ∙ ap (λ b. cond b (Some c.read_step.new.step) None) c.if-not-read_step.true),
    )

pub returns-in_ok-put_asked-in-Ok-clause-more : goal.returns-in_ok-put_asked-in-Ok-clause-more
returns-in_ok-put_asked-in-Ok-clause-more c =
    let s = c.view.result in
    λ specs ws line ls had lines none.
    record {
      sights = ws ++ untold s ∷ [];
      reads =
          line_step c.args.self.now.tells specs ws line (Some s) none
          (ap (λ (s : List ProcessSpec). acting s (step_of (words_from line 0))) (sym had.config) ∙ c.read_step.ensures.step line ls lines
          ∙ ap (λ b. cond b (Some c.read_step.new.step) None) c.if-not-read_step.false ∙ ap Some (sym c.view.ensures));
      read = stepped specs ws c.args.self.now _ s c.in-Ok.seen had c.in-Ok.ensures.1 c.read_step.ensures.same refl
          (omega (arith, c.in-Some.ensures)) (c.last_of-self.ensures ∙ ap (λ (t : Step). last_of t c.in-Ok.seen) (sym c.view.ensures))
          (c.in_ok-put_asked-in-Ok.ensures.text
          ∙ ap (λ (t : Step). c.args.self.now.observed.items ++ asked_lines c.args.self.now.asked t c.in-Ok.seen)
          (sym c.view.ensures)) refl;
    }

pub returns-in-Err-NotAllowed-clause-wrong : goal.returns-in-Err-NotAllowed-clause-wrong
returns-in-Err-NotAllowed-clause-wrong c =
    let s = c.view.result in
    λ specs ws line ls had lines none.
    record {
      kernel = had.kernel;
      step = s;
      come = had.come;
      reads =
          line_step c.args.self.now.tells specs ws line (Some s) none
          (ap (λ (s : List ProcessSpec). acting s (step_of (words_from line 0))) (sym had.config) ∙ c.read_step.ensures.step line ls lines
          ∙ ap (λ b. cond b (Some c.read_step.new.step) None) c.if-not-read_step.false ∙ ap Some (sym c.view.ensures));
      refused = subst (λ w. IsRefused had.kernel c.args.self.now.machine.noted s w) c.in-Err-NotAllowed.field-0-is
          (c.in-Err-NotAllowed.ensures.1 had.kernel had.stands).0;
      since = subst (λ (x : Step). obstacle (lean_kernel had.kernel) x ≡ Some c.why_refused.result) (sym c.view.ensures)
          (c.why_refused.ensures had.kernel
          (subst (λ (t : Tables). StandsFor t had.kernel) (sym (c.in-Err-NotAllowed.ensures.1 had.kernel had.stands).1) had.stands));
      counts = omega (arith, c.in-Some.ensures, had.steps);
    }

pub why_refused-requires : goal.why_refused-requires
why_refused-requires c =
    let old = c.args.self.now.machine in
    let s = c.view.result in
    let one = c.in-Err-NotAllowed.ensures.1 (kernel_of old) c.in-Err-NotAllowed.ensures.0 in
    subst (λ (x : Step). effect (kernel_of c.advance.new.self) x ≡ None) c.view.ensures
    (subst (λ (t : Tables). effect (kernel_of t) s ≡ None) (sym one.1)
    (subst (λ w. IsRefused (kernel_of old) old.noted s w) c.in-Err-NotAllowed.field-0-is one.0))

pub returns-in-Err-Limit-clause-wrong : goal.returns-in-Err-Limit-clause-wrong
returns-in-Err-Limit-clause-wrong c =
    let s = c.view.result in
    λ specs ws line ls had lines none.
    let over = subst (λ w. IsRefused had.kernel c.args.self.now.machine.noted s w) c.in-Err-Limit.field-0-is
    (c.in-Err-Limit.ensures.1 had.kernel had.stands).0 in
    inl (record {
      kernel = had.kernel;
      step = s;
      come = had.come;
      reads =
          line_step c.args.self.now.tells specs ws line (Some s) none
          (ap (λ (s : List ProcessSpec). acting s (step_of (words_from line 0))) (sym had.config) ∙ c.read_step.ensures.step line ls lines
          ∙ ap (λ b. cond b (Some c.read_step.new.step) None) c.if-not-read_step.false ∙ ap Some (sym c.view.ensures));
      allowed = over.0;
      over = subst (λ n. most < n + notes had.kernel s) had.noted over.1;
    })
