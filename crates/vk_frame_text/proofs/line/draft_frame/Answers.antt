use Rattle.std.proofs.Common.{ℕ, List, ◌∷◌, ◌++◌, decimal, ap, ◌∙◌}
use Rattle.vk_packet.specs.Views.{value_of}
use Rattle.vk_text.specs.Spelling.{spaced}
use Rattle.vk_text.proofs.Fronts.{spaced_behind}
use Rattle.vk_frame_text.specs.Frames.{frame_text, packet_words, place_text}
use Rattle.vk_frame_text.proofs.line.draft_frame.Goals as goal

pub returns-clause-text : goal.returns-clause-text
unfolding frame_text
returns-clause-text c =
    let h = c.args.header.now in
    let words = packet_words (value_of c.args.packet.now) in
    c.draft_packet.ensures.text
    ∙ ap (λ (l : List ℕ). spaced l words)
    (c.draft_number-2.ensures.text ∙ ap (λ (l : List ℕ). l ++ 32 ∷ decimal h.number)
    (c.draft_number.ensures.text ∙ ap (λ (l : List ℕ). l ++ 32 ∷ decimal h.stamp) c.draft_place.ensures.text))
    ∙ spaced_behind c.args.into.now (place_text h) (decimal h.stamp ∷ decimal h.number ∷ words)
