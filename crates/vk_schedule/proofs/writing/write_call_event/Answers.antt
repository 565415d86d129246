use Rattle.std.proofs.Common.{List, ℕ, [], ◌∷◌, ◌++◌, ap, ◌∙◌}
use Rattle.std.proofs.lemmas.Result.{on_ok_weaker}
use Rattle.vk_text.specs.Spelling.{pid_text, call_text}
use Rattle.vk_schedule.proofs.Events.{call_behind}
use Rattle.vk_schedule.proofs.writing.write_call_event.Goals as goal

pub returns-clause-ok : goal.returns-clause-ok
returns-clause-ok c =
    let front : List ℕ = c.args.text.now.bytes.items in
    let draft : List ℕ = c.args.text.now.draft in
    let begun = c.byte.ensures ∙ ap (λ (l : List ℕ). l ++ 32 ∷ []) (c.draft_pid.ensures.text ∙ ap (λ (l : List ℕ). l ++ 32 ∷ pid_text c.args.pid) c.put.ensures) in
    on_ok_weaker c.go_on_with_call.result
    (λ h. h ∙ ap (λ (l : List ℕ). front ++ l ++ call_text c.args.call.now) begun
    ∙ call_behind front draft c.args.pid c.args.call.now)
    c.go_on_with_call.ensures.ok
