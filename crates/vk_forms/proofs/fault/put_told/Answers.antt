use Rattle.std.proofs.Common.{[], ap, false, length, refl, ◌++◌, ◌∙◌}
use Rattle.vk_text.specs.Lines.{words_from}
use Rattle.vk_forms.specs.Faults.{told_text}
use Rattle.vk_forms.specs.Follow.{goes_on, unread}
use Rattle.vk_forms.specs.Forms.{behind, body_rows, call_front, calls, extra_front, extra_rows, forms_of, opening_rows}
use Rattle.vk_forms.proofs.Parts.{same_front}
use Rattle.vk_forms.proofs.Telling.{told_parts}
use Rattle.vk_forms.proofs.fault.put_told.Goals as goal

pub returns : goal.returns
returns c =
    let specs = c.args.config.now.specs in
    let ws = words_from c.args.line.now 0 in
    let left = length (unread specs (forms_of c.args.text) ws) in
    told_parts specs ws left (behind [] (opening_rows c.args.text)) (behind (call_front c.args.text) calls)
    (behind (extra_front c.args.text) (extra_rows c.args.text)) (behind [] (body_rows c.args.text))
    _ c.put_rows.new.into.items c.put_rows-2.new.into.items c.put_rows-3.new.into.items c.put_rows-4.new.into.items
    c.in_ok-opened.opened.some c.in_ok-called.called.some c.in_ok-more.more.some c.in_ok-_last._last.some
    c.in_ok-opened.opened.last.now c.in_ok-called.called.last.now c.in_ok-more.more.last.now c.in_ok-_last._last.last.now
    (λ more. c.in_ok-opened.ensures left more c.requires
    ∙ ap (λ fs. c.args.into.now.items ++ told_text specs false [] (goes_on specs ws left fs ++ more)) (same_front [] [] _ _ refl c.opening_rows-rows.ensures))
    (λ more. c.in_ok-called.ensures left more c.requires
    ∙ ap (λ fs. c.put_rows.new.into.items ++ told_text specs c.in_ok-opened.opened.some c.in_ok-opened.opened.last.now (goes_on specs ws left fs ++ more))
    (same_front _ _ _ _ c.call_front-front.ensures c.call_rows-calls.ensures))
    (λ more. c.in_ok-more.ensures left more c.requires
    ∙ ap (λ fs. c.put_rows-2.new.into.items ++ told_text specs c.in_ok-called.called.some c.in_ok-called.called.last.now (goes_on specs ws left fs ++ more))
    (same_front _ _ _ _ c.extra_front-extra.ensures c.extra_rows-extras.ensures))
    (λ more. c.in_ok-_last.ensures left more c.requires
    ∙ ap (λ fs. c.put_rows-3.new.into.items ++ told_text specs c.in_ok-more.more.some c.in_ok-more.more.last.now (goes_on specs ws left fs ++ more))
    (same_front [] [] _ _ refl c.body_rows-body.ensures))
