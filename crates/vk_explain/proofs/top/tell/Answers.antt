use Rattle.std.proofs.Common.{◌∙◌}
use Rattle.vk_explain.specs.Pages.{page_text}
use Rattle.vk_explain.proofs.Answered.{answer_other, paged, paged_front, paged_kinds}
use Rattle.vk_explain.proofs.top.tell.Goals as goal

pub returns-in-Ok-clause-written : goal.returns-in-Ok-clause-written
returns-in-Ok-clause-written g c =
    paged (page_text c.args.page) c.deref.result.now _ _ c.write_text.result c.write_text.ensures.written
    (c.deref.ensures.value ∙ c.in-Ok.ensures)

pub returns-in-Ok-clause-front : goal.returns-in-Ok-clause-front
returns-in-Ok-clause-front g c = λ fault.
    paged_front (page_text c.args.page) c.deref.result.now (g.K.Sink.written c.args.output.now) (g.K.Sink.written c.write_text.new.output)
    (c.deref.ensures.value ∙ c.in-Ok.ensures) c.write_text.ensures.front

pub returns-in-Ok-clause-flushed : goal.returns-in-Ok-clause-flushed
returns-in-Ok-clause-flushed g c = λ is. c.write_text.ensures.flushed (answer_other _ is)

pub returns-in-Ok-clause-kinds : goal.returns-in-Ok-clause-kinds
returns-in-Ok-clause-kinds g c = let k = paged_kinds _ _ _ _ c.write_text.ensures.written in (k.0, k.1, k.2)

pub returns-in-Ok-clause-nothing : goal.returns-in-Ok-clause-nothing
returns-in-Ok-clause-nothing g c = λ early. absurd ((paged_kinds _ _ _ _ c.write_text.ensures.written).3 early)
