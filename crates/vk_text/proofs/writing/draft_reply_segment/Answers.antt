use Rattle.std.proofs.Common.{List, ℕ, [], ◌∷◌, ap, ◌∙◌, codes, decimal}
use Rattle.vk_text.specs.Spelling.{spaced, pid_text, message_text}
use Rattle.vk_text.proofs.Fronts.{spaced_behind}
use Rattle.vk_text.proofs.writing.draft_reply_segment.Goals as goal

pub returns-clause-text : goal.returns-clause-text
returns-clause-text c =
    let reply : List ℕ = spaced (codes "replysegment") (message_text c.args.message.now ∷ pid_text c.args.to ∷ []) in
    let places : List (List ℕ) = decimal c.args.places.dest ∷ decimal c.args.places.src ∷ decimal c.args.places.count ∷ [] in
    c.draft_places.ensures.text ∙ ap (λ (l : List ℕ). spaced l places) c.draft_reply.ensures.text
    ∙ spaced_behind c.args.into.now reply places
