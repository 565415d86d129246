use Rattle.std.proofs.Common.{[], ◌∷◌, ap, ◌∙◌}
use Rattle.vk_base.proofs.PidLemmas.{of_numbers}
use Rattle.vk_drive.specs.Tasks.{client}
use Rattle.vk_drive.proofs.tasks.tasks.Goals as goal

pub returns : goal.returns
returns c =
    let two = c.client.ensures ∙ ap client (of_numbers 2 1 _ _ _ _ _ _) in
    let three = c.client-2.ensures ∙ ap client (of_numbers 3 1 _ _ _ _ _ _) in
    let four = c.client-3.ensures ∙ ap client (of_numbers 4 1 _ _ _ _ _ _) in
    (λ i. c.server.ensures i ∷ two i ∷ three i ∷ four i ∷ [])
