use Rattle.std.proofs.Common.{length, ap, ◌∙◌, arith}
use Rattle.std.proofs.lemmas.Result.{err_from_is_err_and}
use Rattle.vk_schedule.proofs.Lawfulness.{only_lawful}
use Rattle.vk_picture.specs.declared.picture.Picture.{Picture}
use Rattle.vk_draw.proofs.Answered.{refusal_by, spelled_some}
use Rattle.vk_draw.proofs.Played.{as_many}
use Rattle.vk_draw.proofs.top.draw_schedule.Goals as goal

pub picture_of-requires-clause-lawful : goal.picture_of-requires-clause-lawful
picture_of-requires-clause-lawful c = only_lawful c.args.text.now c.args.schedule.now c.requires

pub picture_text-requires-clause-rows : goal.picture_text-requires-clause-rows
picture_text-requires-clause-rows c =
    let s = c.args.schedule.now in
    let same = ap (λ (p : Picture). length p.rows) c.in_ok-picture.ensures.picture ∙ as_many s.config s.events in
    let few = c.if-len-gt-ROWS.false in
    let counted = c.len.ensures in
    omega (arith, same, few, counted)

pub returns-in_err-picture-clause-refused : goal.returns-in_err-picture-clause-refused
returns-in_err-picture-clause-refused c =
    let few = c.if-len-gt-ROWS.false in
    let counted = c.len.ensures in
    let left = err_from_is_err_and c.from_residual.result c.from_residual.ensures.1 in
    rw (left.1, left.2)
    (refusal_by c.args.text.now c.args.schedule.now _ c.requires (omega (arith, few, counted)) c.in_err-picture.ensures.refused)

pub returns-in_err-drawn-clause-refused : goal.returns-in_err-drawn-clause-refused
returns-in_err-drawn-clause-refused c =
    let left = err_from_is_err_and c.from_residual-in_err-drawn.result c.from_residual-in_err-drawn.ensures.1 in
    rw (left.1, left.2) (spelled_some c.args.text.now c.args.schedule.now c.requires)
