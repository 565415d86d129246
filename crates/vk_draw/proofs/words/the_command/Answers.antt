use Rattle.std.proofs.Common.{◌≡◌, ◌∙◌, rules, ap, ap₂}
use Rattle.std.proofs.lemmas.Result.{IfOk-weaker}
use Rattle.clap.specs.Simple.{app_of, on_top, with_rule}
use Rattle.clap.specs.Walk.{rule_of}
use Rattle.vk_draw.specs.Words.{page, with_settings}
use Rattle.vk_draw.proofs.words.the_command.Goals as goal

pub returns : goal.returns
returns c =
    let page_is : rule_of c.action-page.result ≡ page = search rules in
    let bare : app_of c.disable_version_flag.result ≡ on_top with_settings (app_of c.new-2.result) = search rules in
    IfOk-weaker c.arg.result _ _ (λ r added.
    added.shape (search rules) ∙ ap₂ with_rule (bare ∙ ap (on_top with_settings) c.new-2.ensures.app) page_is) c.arg.ensures
