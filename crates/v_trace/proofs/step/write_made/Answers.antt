use Rattle.std.proofs.Common.{List, ℕ, [], ◌≡◌, ◌∷◌, ◌++◌, ap, sym, ◌∙◌, codes, append_assoc}
use Rattle.std.proofs.lemmas.Result.{on_ok_weaker}
use Rattle.vk_text.specs.Spelling.{pid_text, call_text}
use Rattle.vk_text.proofs.CallWords.{spaced_call}
use Rattle.vk_text.proofs.Fronts.{front_before}
use Rattle.v_trace.proofs.step.write_made.Goals as goal

-- a text behind a space stands behind what is written
behind : (front draft made text whole : List ℕ) → whole ≡ made ++ 32 ∷ text → front ++ (draft ++ made ++ 32 ∷ []) ++ text ≡ front ++ draft ++ whole
behind front draft made text whole e =
    append_assoc front (draft ++ made ++ 32 ∷ []) text
    ∙ ap (λ l. front ++ l) (append_assoc (draft ++ made) (32 ∷ []) text ∙ append_assoc draft made (32 ∷ text) ∙ ap (λ l. draft ++ l) (sym e))
    ∙ sym (append_assoc front draft whole)

pub returns-clause-ok : goal.returns-clause-ok
returns-clause-ok c =
    let made : List ℕ = codes "call" ++ 32 ∷ pid_text c.args.pid in
    let call : List ℕ = call_text c.args.call.now in
    let front : List ℕ = c.args.into.now.items in
    on_ok_weaker c.go_on_with_call.result
    (λ h. h ∙ ap (λ (l : List ℕ). front ++ l ++ call) (c.byte.ensures ∙ ap (λ (l : List ℕ). l ++ 32 ∷ []) c.draft_of.ensures.text)
    ∙ behind front c.args.draft.now made call _ (spaced_call made c.args.call.now))
    c.go_on_with_call.ensures.ok

pub returns-clause-whole : goal.returns-clause-whole
returns-clause-whole c =
    let made : List ℕ = codes "call" ++ 32 ∷ pid_text c.args.pid in
    let front : List ℕ = c.args.into.now.items in
    front_before (front ++ c.args.draft.now) (made ++ 32 ∷ []) _ _
    (ap (λ (l : List ℕ). front ++ l)
    (c.byte.ensures ∙ ap (λ (l : List ℕ). l ++ 32 ∷ []) c.draft_of.ensures.text ∙ append_assoc c.args.draft.now made (32 ∷ []))
    ∙ sym (append_assoc front c.args.draft.now (made ++ 32 ∷ [])))
    c.go_on_with_call.ensures.whole
