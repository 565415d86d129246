use Rattle.std.proofs.Common.{ap, sym, ◌∙◌}
use Rattle.v_trace.specs.Remaining.{Remaining}
use Rattle.vk_top.proofs.Checked.{all_counted, not_bad}
use Rattle.vk_top.proofs.checking.check_left.Goals as goal

pub returns-clause-checked : goal.returns-clause-checked
returns-clause-checked c =
    let applied = c.apply_left-found.ensures in
    let over = c.read_on-read.ensures in
    let part = c.apply_left-found.new.reader in
    record {
      good = not_bad c.args.reader part c.read_on-read.new.reader applied.ending over.ending (sym c.in_default.ensures);
      config = c.into_config.ensures ∙ ap (λ (r : Remaining). r.config) over.ending ∙ ap (λ (r : Remaining). r.config) applied.ending;
      found = λ specs steps had. record {
        count = all_counted _ c.args.reader part _ _ steps had.count applied.count over.count;
        verdict = applied.found specs steps had;
      };
    }
