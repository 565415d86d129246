use Rattle.vk_explain.proofs.Sighted.{numbered, on_ok}
use Rattle.vk_explain.proofs.reading.Reading.take_line.Goals as goal

pub returns-clause-more : goal.returns-clause-more
returns-clause-more c =
    on_ok c.take_told-taken.result _ _
    (λ more specs ws ls had lines. numbered c.args.self.now.tells specs ws c.args.line.now c.in-Some.next c.take_told-taken.new.self
    (more specs ws ls had lines))
    c.take_told-taken.ensures.more
