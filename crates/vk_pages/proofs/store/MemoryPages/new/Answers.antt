use Rattle.std.proofs.Common.{List, ℕ, ◌∷◌, [], ◌++◌, ap, ◌∙◌}
use Rattle.std.proofs.lemmas.List.{replicate_more}
use Rattle.vk_pages.specs.Pages.{zero_page}
use Rattle.vk_pages.proofs.store.MemoryPages.new.Goals as goal

pub loop-page-preserved : goal.loop-page-preserved
loop-page-preserved c =
    c.in_ok-push.ensures.items ∙ ap (λ (l : List (List ℕ)). l ++ zero_page ∷ []) c.loop-page.invariant
    ∙ replicate_more c.loop-page._page zero_page
