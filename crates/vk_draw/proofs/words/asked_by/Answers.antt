use Rattle.std.proofs.Common.{◌∙◌, ap, if◌then◌else◌}
use Rattle.clap.proofs.WalkLemmas.{first_value-rows}
use Rattle.clap.specs.Words.{found_of}
use Rattle.vk_draw.specs.Words.{is_set}
use Rattle.vk_draw.specs.declared.words.Drawing.TheVariants as asked
use Rattle.vk_draw.proofs.words.asked_by.Goals as goal

pub returns : goal.returns
returns c =
    let value = c.get_str.ensures ∙ first_value-rows (found_of c.args.matches.now) _ in
    c.asked_for.ensures ∙ ap (λ b. if b then asked.Page else asked.Picture) (c.is_set.ensures ∙ ap is_set value)
