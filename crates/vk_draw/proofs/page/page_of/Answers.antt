use Rattle.std.proofs.Common.{sym, ◌∙◌}
use Rattle.std.proofs.lemmas.Result.{err_from_is_err_and}
use Rattle.vk_schedule.proofs.Lawfulness.{only_lawful}
use Rattle.vk_page.specs.Page.{page_text}
use Rattle.vk_draw.proofs.Answered.{page_is, page_refusal_by, spelled_some, texts_refused}
use Rattle.vk_draw.proofs.page.page_of.Goals as goal

pub frames_text-requires : goal.frames_text-requires
frames_text-requires c = record { lawful = only_lawful c.args.text.now c.args.schedule.now c.requires }

pub returns-in_err-frames-clause-refused : goal.returns-in_err-frames-clause-refused
returns-in_err-frames-clause-refused c =
    let left = err_from_is_err_and c.from_residual.result c.from_residual.ensures.1 in
    rw (left.1, left.2) (page_refusal_by c.args.text.now c.args.schedule.now _ c.requires c.in_err-frames.ensures.refused)

pub returns-in_err-report-clause-refused : goal.returns-in_err-report-clause-refused
returns-in_err-report-clause-refused c =
    let left = err_from_is_err_and c.from_residual-in_err-report.result c.from_residual-in_err-report.ensures.1 in
    rw (left.1, left.2) (spelled_some c.args.text.now c.args.schedule.now c.requires)

pub returns-in_err-check_texts-clause-refused : goal.returns-in_err-check_texts-clause-refused
returns-in_err-check_texts-clause-refused c =
    let s = c.args.schedule.now in
    let left = err_from_is_err_and c.from_residual-in_err-check_texts.result c.from_residual-in_err-check_texts.ensures.1 in
    rw (left.1, left.2)
    (texts_refused c.args.text.now c.written.result.now c.deref.result.now s _ c.requires c.in_ok-frames.ensures.fits
    (c.written.ensures ∙ c.in_ok-report.ensures s c.requires) (c.deref.ensures.value ∙ c.in_ok-frames.ensures.text)
    c.in_err-check_texts.ensures.refused)

pub returns-in_err-page-clause-refused : goal.returns-in_err-page-clause-refused
returns-in_err-page-clause-refused c =
    let left = err_from_is_err_and c.from_residual-in_err-page.result c.from_residual-in_err-page.ensures.1 in
    rw (left.1, left.2) (spelled_some c.args.text.now c.args.schedule.now c.requires)

pub returns-clause-made : goal.returns-clause-made
returns-clause-made c =
    let s = c.args.schedule.now in
    let parts = c.args.parts.now in
    let text = c.args.text.now in
    let report = c.written-2.ensures ∙ sym c.written.ensures in
    let frames = c.deref-2.ensures.value ∙ sym c.deref.ensures.value in
    page_is parts text c.written.result.now c.deref.result.now c.in_ok-page.page.items s c.requires c.in_ok-frames.ensures.fits
    (c.written.ensures ∙ c.in_ok-report.ensures s c.requires) (c.deref.ensures.value ∙ c.in_ok-frames.ensures.text)
    c.in_ok-check_texts.ensures.ok.0 c.in_ok-check_texts.ensures.ok.1
    (c.in_ok-page.ensures ∙ (λ i. page_text parts text (report i) (frames i)))
