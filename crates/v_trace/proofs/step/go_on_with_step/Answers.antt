use Rattle.std.proofs.Common.{List, ℕ, ◌∷◌, ◌++◌, ap, sym, ◌∙◌, codes}
use Rattle.std.proofs.lemmas.Result.{on_ok_weaker}
use Rattle.vk_brief.specs.Brief.{step_with}
use Rattle.vk_text.specs.Spelling.{spaced, pid_text, call_words}
use Rattle.v_trace.specs.Texts.{step_text, step_words}
use Rattle.v_trace.proofs.step.go_on_with_step.Goals as goal

pub returns-in-Call-clause-ok : goal.returns-in-Call-clause-ok
unfolding step_text step_words
returns-in-Call-clause-ok c =
    let front : List ℕ = c.args.into.now.items ++ c.args.draft.now in
    let made = c.parts.ensures.step ∙ ap (step_with c.parts.result.1.now) c.in-Call.is in
    on_ok_weaker c.write_made.result
    (λ h. h ∙ ap (λ k. front ++ spaced (codes "call") (pid_text c.in-Call.pid ∷ call_words k)) c.new.ensures
    ∙ ap (λ (l : List ℕ). front ++ l) (sym (ap step_text made)))
    c.write_made.ensures.ok
