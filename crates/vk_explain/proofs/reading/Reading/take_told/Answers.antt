use Rattle.std.proofs.Common.{ap, option_map, ◌∙◌}
use Rattle.vk_explain.proofs.Sighted.{on_ok}
use Rattle.vk_explain.proofs.reading.Reading.take_told.Goals as goal

pub returns-in-None-clause-more : goal.returns-in-None-clause-more
returns-in-None-clause-more c =
    on_ok c.take_step.result _ _
    (λ more specs ws ls had lines. more specs ws c.args.line.now ls had lines
    (c.told_in.ensures ∙ ap (option_map (λ s. s.now)) c.in-None.is))
    c.take_step.ensures.more
