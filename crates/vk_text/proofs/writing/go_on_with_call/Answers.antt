use Rattle.std.proofs.Common.{List, ℕ, ◌++◌, ap, sym, ◌∙◌}
use Rattle.std.proofs.lemmas.Result.{on_ok_weaker}
use Rattle.vk_brief.specs.Brief.{call_with}
use Rattle.vk_text.specs.Spelling.{call_words, call_text}
use Rattle.vk_text.proofs.writing.go_on_with_call.Goals as goal

pub returns-in-Store-clause-ok : goal.returns-in-Store-clause-ok
unfolding call_text call_words
returns-in-Store-clause-ok c =
    let store = c.parts.ensures.call ∙ ap (call_with c.parts.result.1.now) c.in-Store.is in
    on_ok_weaker c.write_store.result
    (λ h. h ∙ ap (λ (l : List ℕ). c.args.into.now.items ++ c.args.draft.now ++ l) (sym (ap call_text store)))
    c.write_store.ensures.ok
