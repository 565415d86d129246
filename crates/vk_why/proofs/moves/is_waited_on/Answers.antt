use Rattle.std.proofs.Common.{is_some, not, sym, ap, ◌∙◌}
use Rattle.vk_why.specs.Kept.{kept_kernel}
use Rattle.vk_why.proofs.Waiting.{some_err, waits_or_told}
use Rattle.vk_why.proofs.moves.is_waited_on.Goals as goal

pub returns : goal.returns
returns c =
    waits_or_told (kept_kernel c.args.machine.now) c.args.name ∙ ap is_some c.sender_check.ensures ∙ some_err c.sender_check.result
    ∙ ap not (sym c.is_ok.ensures.value)
