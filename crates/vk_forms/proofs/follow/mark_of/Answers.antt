use Rattle.std.proofs.Common.{[], refl}
use Rattle.vk_text.specs.Lines.{words_from}
use Rattle.vk_forms.specs.Follow.{farthest}
use Rattle.vk_forms.specs.Forms.{behind, body_rows, call_front, calls, extra_front, extra_rows, opening_rows}
use Rattle.vk_forms.proofs.Farthest.{farthest_parts}
use Rattle.vk_forms.proofs.Parts.{of_front}
use Rattle.vk_forms.proofs.follow.mark_of.Goals as goal

pub returns-clause-left : goal.returns-clause-left
returns-clause-left c =
    let specs = c.args.config.now.specs in
    let ws = words_from c.args.line.now 0 in
    farthest_parts specs ws (behind [] (opening_rows c.args.text)) (behind (call_front c.args.text) calls)
    (behind (extra_front c.args.text) (extra_rows c.args.text)) (behind [] (body_rows c.args.text))
    (words_from c.args.line.now c.farthest_in-opened.result.at) (words_from c.args.line.now c.farthest_in-called.result.at)
    (words_from c.args.line.now c.farthest_in-more.result.at) (words_from c.args.line.now c.farthest_in.result.at)
    (of_front (farthest specs ws ws) [] [] _ _ _ c.farthest_in-opened.ensures.left refl c.opening_rows-rows.ensures)
    (of_front (farthest specs ws (words_from c.args.line.now c.farthest_in-opened.result.at)) _ _ _ _ _ c.farthest_in-called.ensures.left
    c.call_front-front.ensures c.call_rows-calls.ensures)
    (of_front (farthest specs ws (words_from c.args.line.now c.farthest_in-called.result.at)) _ _ _ _ _ c.farthest_in-more.ensures.left
    c.extra_front-extra.ensures c.extra_rows-extras.ensures)
    (of_front (farthest specs ws (words_from c.args.line.now c.farthest_in-more.result.at)) [] [] _ _ _ c.farthest_in.ensures.left refl
    c.body_rows-body.ensures)
