use Rattle.std.proofs.Common.{List, ℕ, ◌++◌, ap, ◌∙◌, codes, append_assoc}
use Rattle.vk_report.specs.Report.{number_and_host}
use Rattle.vk_report.proofs.answer.draft_missing_line.Goals as goal

pub returns-clause-text : goal.returns-clause-text
returns-clause-text c =
    c.put.ensures
    ∙ ap (λ (l : List ℕ). l ++ codes ":- missing\n") c.draft_number_and_host.ensures.text
    ∙ append_assoc c.args.into.now (number_and_host c.args.number c.args.host) (codes ":- missing\n")
