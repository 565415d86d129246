-- A page server after one answer more.
use Rattle.std.proofs.Common.{◌≡◌, ℕ, List, [], ◌∷◌, ◌++◌, length, Option, Some, None, refl, ap, sym, ◌∙◌, append-nil}
use Rattle.std.proofs.lemmas.List.{length-set}
use Rattle.vk_types.specs.Types.{Answer, Pid}
use Rattle.vk_pages.specs.declared.serving.PageServing.{PageServing}
use Rattle.vk_pages.specs.declared.serving.PageServing.TheVariants as stages
use Rattle.vk_pages.specs.Servers.{IsServerAfter, Server, answered, answered_at, answered_all, loaded, new_server, page_in, seen, server_call, stage_call}

-- one answer more
one_more_answer : (requests : ℕ) (s : Server) (given : List Answer) (a : Answer)
    → answered_all requests s (given ++ a ∷ []) ≡ answered requests (answered_all requests s given) a
one_more_answer requests s [] a = refl
one_more_answer requests s (b ∷ rest) a = one_more_answer requests (answered requests s b) rest a

-- no answer changes how many pages there are

loaded_size : (s : Server) (from : Pid) (page : ℕ) (o : Option (List ℕ)) → length (loaded s from page o).pages ≡ length s.pages
loaded_size s from page None = refl
loaded_size s from page (Some bytes) = length-set s.pages page bytes

answered_size : (stage : PageServing) (requests : ℕ) (s : Server) (a : Answer) → length (answered_at stage requests s a).pages ≡ length s.pages
answered_size stages.Receive requests s a = refl
answered_size (stages.Load from page) requests s a = loaded_size s from page (page_in a)
answered_size (stages.Store from page dest) requests s a = refl
answered_size (stages.ReplyPage from page dest) requests s a = refl
answered_size (stages.Reply from page code) requests s a = refl
answered_size stages.Exit requests s a = refl
answered_size stages.Ended requests s a = refl

pub after_answer : (held now : List (List ℕ)) (count requests replies more : ℕ) (stage next : PageServing) (a : Answer)
    → (length held ≡ count → seen now more next ≡ answered requests (seen held replies stage) a) → (given : List Answer)
    → IsServerAfter held count requests replies stage given → IsServerAfter now count requests more next (given ++ a ∷ [])
after_answer held now count requests replies more stage next a step given is =
    let same = step is.size in
    record {
      state =
          one_more_answer requests (new_server count requests) given a ∙ ap (λ (s : Server). answered requests s a) is.state ∙ sym same;
      size = ap (λ (s : Server). length s.pages) same ∙ answered_size stage requests (seen held replies stage) a ∙ is.size;
    }

pub after_none : (held : List (List ℕ)) (count requests replies : ℕ) (stage : PageServing) (given : List Answer)
    → IsServerAfter held count requests replies stage given → IsServerAfter held count requests replies stage (given ++ [])
after_none held count requests replies stage given is = rw (append-nil given) is

-- what it calls then
pub called_after : (held : List (List ℕ)) (count requests replies : ℕ) (stage : PageServing) (given : List Answer)
    → IsServerAfter held count requests replies stage given → stage_call held stage ≡ server_call count requests given
called_after held count requests replies stage given is = ap (λ (s : Server). stage_call s.pages s.stage) (sym is.state)

-- as the code writes it
pub after_last : (held now : List (List ℕ)) (count size requests left replies more : ℕ) (stage next : PageServing)
    (a : Answer) (told given : List Answer)
    → size ≡ count → left ≡ requests → told ≡ a ∷ []
    → (length held ≡ count → seen now more next ≡ answered requests (seen held replies stage) a)
    → IsServerAfter held count requests replies stage given → IsServerAfter now size left more next (given ++ told)
after_last held now count size requests left replies more stage next a told given same kept one step is =
    rw (same, kept, one) (after_answer held now count requests replies more stage next a step given is)
