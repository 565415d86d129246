use Rattle.std.proofs.Common.{subst, inr}
use Rattle.vk_edge.proofs.Inputs.{read_whole}
use Rattle.vk_edge.specs.Inputs.{IsUnread}
use Rattle.vk_explain.proofs.Answered.{of_front, of_many, of_over, of_said}
use Rattle.vk_explain.proofs.top.serve.Goals as goal

pub returns-in-Ok-clause-written : goal.returns-in-Ok-clause-written
returns-in-Ok-clause-written g c =
    λ is. of_said c.args.asked _ _ _ _ _ _ _ c.in-Ok.ensures.text c.deref.ensures.value (c.answer.ensures.written is)

pub returns-in-Ok-clause-front : goal.returns-in-Ok-clause-front
returns-in-Ok-clause-front g c =
    λ is. of_front c.args.asked _ _ _ _ _ _ c.in-Ok.ensures.text c.deref.ensures.value (c.answer.ensures.front is)

pub returns-in-Ok-clause-read_count : goal.returns-in-Ok-clause-read_count
returns-in-Ok-clause-read_count g c = inr (c.answer.ensures.kinds.1, c.in-Ok.ensures.cause)

pub returns-in-Ok-clause-whole : goal.returns-in-Ok-clause-whole
returns-in-Ok-clause-whole g c = λ is. read_whole _ _ _ c.in-Ok.ensures.text

pub returns-in-Ok-clause-limit : goal.returns-in-Ok-clause-limit
returns-in-Ok-clause-limit g c = λ is. of_over _ _ _ _ c.in-Ok.ensures.text c.deref.ensures.value (c.answer.ensures.limit is)

pub returns-in-Err-TooLong-clause-limit : goal.returns-in-Err-TooLong-clause-limit
returns-in-Err-TooLong-clause-limit g c =
    let left = g.S.Source.left c.args.input.now in
    let rest = g.S.Source.left c.read_text.new.input in
    λ is. of_many left rest (subst (IsUnread left rest) c.in-Err-TooLong.field-0-is c.in-Err-TooLong.ensures.refused)
