use Rattle.std.proofs.Common.{◌≡◌, ◌∙◌, rules, ap, ap₂}
use Rattle.std.proofs.lemmas.Result.{IfOk-weaker}
use Rattle.clap.specs.Simple.{app_of, on_top, with_rule}
use Rattle.clap.specs.Walk.{rule_of}
use Rattle.vk_explain.specs.Words.{answers, help, version, with_settings}
use Rattle.vk_explain.proofs.words.the_command.Goals as goal

pub returns : goal.returns
returns c =
    let answers_is : rule_of c.action-answers.result ≡ answers = search rules in
    let help_is : rule_of c.action-help.result ≡ help = search rules in
    let version_is : rule_of c.action-version.result ≡ version = search rules in
    let bare : app_of c.disable_version_flag.result ≡ on_top with_settings (app_of c.new-4.result) = search rules in
    IfOk-weaker c.arg-3.result _ _ (λ r added.
    added.shape (search rules)
    ∙ ap₂ with_rule (c.in_ok-arg-2.ensures.shape (search rules)
    ∙ ap₂ with_rule (c.in_ok-arg.ensures.shape (search rules)
    ∙ ap₂ with_rule (bare ∙ ap (on_top with_settings) c.new-4.ensures.app) answers_is) help_is) version_is) c.arg-3.ensures
