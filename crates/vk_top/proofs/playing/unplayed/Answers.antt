use Rattle.std.proofs.Common.{ℕ, List, ◌++◌, ap, ◌∙◌}
use Rattle.vk_report.specs.Report.{opening_lines}
use Rattle.vk_top.proofs.Played.{none_played}
use Rattle.vk_top.proofs.playing.unplayed.Goals as goal

pub returns : goal.returns
returns c =
    none_played c.args.form c.args.config.now c.in_ok-new.field-0 c.new-2.result c.in_ok-new.ensures
    (c.new-2.ensures ∙ c.in_ok-put_opening.ensures.ok
    ∙ ap (λ (l : List ℕ). l ++ opening_lines c.args.form c.args.config.now.specs) c.new-opening.ensures.items)
