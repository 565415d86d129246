use Rattle.std.proofs.Common.{[], refl, ◌∙◌}
use Rattle.vk_text.specs.Lines.{words_from}
use Rattle.vk_forms.specs.Follow.{follows}
use Rattle.vk_forms.specs.Forms.{behind, body_rows, call_front, calls, extra_front, extra_rows, opening_rows}
use Rattle.vk_forms.proofs.Farthest.{follows_parts}
use Rattle.vk_forms.proofs.Parts.{of_front}
use Rattle.vk_forms.proofs.follow.is_whole.Goals as goal

pub returns : goal.returns
returns c =
    let specs = c.args.config.now.specs in
    let ws = words_from c.args.line.now 0 in
    c.any.ensures
    ∙ follows_parts specs ws (behind [] (opening_rows c.args.text)) (behind (call_front c.args.text) calls)
    (behind (extra_front c.args.text) (extra_rows c.args.text)) (behind [] (body_rows c.args.text))
    c.follows_in-opened.result c.follows_in-called.result c.follows_in-more.result c.follows_in-last.result
    (of_front (follows specs ws) [] [] _ _ _ c.follows_in-opened.ensures refl c.opening_rows-rows.ensures)
    (of_front (follows specs ws) _ _ _ _ _ c.follows_in-called.ensures c.call_front-front.ensures c.call_rows-calls.ensures)
    (of_front (follows specs ws) _ _ _ _ _ c.follows_in-more.ensures c.extra_front-extra.ensures c.extra_rows-extras.ensures)
    (of_front (follows specs ws) [] [] _ _ _ c.follows_in-last.ensures refl c.body_rows-body.ensures)
