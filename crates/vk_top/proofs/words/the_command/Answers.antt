use Rattle.std.proofs.Common.{◌≡◌, ◌∙◌, rules, ap, ap₂}
use Rattle.std.proofs.lemmas.Result.{IfOk-weaker}
use Rattle.clap.specs.Simple.{app_of, on_top, with_rule}
use Rattle.clap.specs.Walk.{rule_of}
use Rattle.vk_top.specs.Words.{trace, command, number, with_settings}
use Rattle.vk_top.proofs.words.the_command.Goals as goal

pub returns : goal.returns
returns c =
    let trace_is : rule_of c.action-trace.result ≡ trace = search rules in
    let command_is : rule_of c.required-command.result ≡ command = search rules in
    let number_is : rule_of c.new-number.result ≡ number = search rules in
    let bare : app_of c.disable_version_flag.result ≡ on_top with_settings (app_of c.new-3.result) = search rules in
    IfOk-weaker c.arg-3.result _ _ (λ r added.
    added.shape (search rules)
    ∙ ap₂ with_rule (c.in_ok-arg-2.ensures.shape (search rules)
    ∙ ap₂ with_rule (c.in_ok-arg.ensures.shape (search rules)
    ∙ ap₂ with_rule (bare ∙ ap (on_top with_settings) c.new-3.ensures.app) trace_is) command_is) number_is) c.arg-3.ensures
