-- A server after one answer more.
use Rattle.std.proofs.Common.{◌≡◌, ℕ, List, [], ◌∷◌, ◌++◌, refl, ap, sym, ◌∙◌}
use Rattle.vk_types.specs.Types.{Answer}
use Rattle.vk_values.specs.declared.entry.Entry.{Entry}
use Rattle.vk_values.specs.declared.stage.Stage.{Stage}
use Rattle.vk_values.specs.Servers.{IsServerAfter, Server, answered, answered_all, new_server, seen}

one_more_answer : (requests : ℕ) (s : Server) (given : List Answer) (a : Answer)
    → answered_all requests s (given ++ a ∷ []) ≡ answered requests (answered_all requests s given) a
one_more_answer requests s [] a = refl
one_more_answer requests s (b ∷ rest) a = one_more_answer requests (answered requests s b) rest a

after_answer : (held now : List Entry) (requests replies more : ℕ) (stage next : Stage) (a : Answer)
    → seen now more next ≡ answered requests (seen held replies stage) a → (given : List Answer)
    → IsServerAfter held requests replies stage given → IsServerAfter now requests more next (given ++ a ∷ [])
after_answer held now requests replies more stage next a step given is =
    one_more_answer requests (new_server requests) given a ∙ ap (λ (s : Server). answered requests s a) is ∙ sym step

-- as the code writes it
pub after_last : (held now : List Entry) (requests left replies more : ℕ) (stage next : Stage) (a : Answer) (told given : List Answer)
    → left ≡ requests → told ≡ a ∷ [] → seen now more next ≡ answered requests (seen held replies stage) a
    → IsServerAfter held requests replies stage given → IsServerAfter now left more next (given ++ told)
after_last held now requests left replies more stage next a told given same one step is =
    rw (same, one) (after_answer held now requests replies more stage next a step given is)
