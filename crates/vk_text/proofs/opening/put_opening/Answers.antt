use Rattle.std.proofs.Common.{◌++◌, ap, sym, ◌∙◌}
use Rattle.vk_text.proofs.OpeningReading.{plain_written, written}
use Rattle.vk_text.proofs.opening.put_opening.Goals as goal

pub returns-then-is_usual-clause-ok : goal.returns-then-is_usual-clause-ok
returns-then-is_usual-clause-ok c =
    written c.put_head.result _ _ _ c.put_head.ensures.ok
    (ap (λ l. c.args.into.now.items ++ l)
    (plain_written c.args.plain.now c.args.timed.now c.args.config.now (sym c.is_usual.ensures ∙ c.if-is_usual.true)))
