use Rattle.std.proofs.Common.{rules, ◌≡◌, Ok}
use Rattle.vk_top.specs.declared.check.TraceVerdict.TheVariants as verdicts
use Rattle.vk_top.proofs.Checked.{allowed_on, refused_on, too_much_on}
use Rattle.vk_top.proofs.checking.apply_left.Goals as goal

pub returns-in-Ok-Run-clause-found : goal.returns-in-Ok-Run-clause-found
returns-in-Ok-Run-clause-found c = λ specs steps found.
    let is : c.args.before.verdict ≡ Ok (verdicts.Run c.in-Ok-Run.field-0-0) = search rules in
    allowed_on specs steps _ _ _ found _ _ _ is c.apply_steps.ensures.found

pub returns-in-Ok-Refused-clause-found : goal.returns-in-Ok-Refused-clause-found
returns-in-Ok-Refused-clause-found c = λ specs steps found.
    let is : c.args.before.verdict ≡ Ok (verdicts.Refused c.in-Ok-Refused.field-0-0) = search rules in
    refused_on specs steps _ c.args.machine.now c.args.before found _ is

pub returns-in-Ok-TooMuch-clause-found : goal.returns-in-Ok-TooMuch-clause-found
returns-in-Ok-TooMuch-clause-found c = λ specs steps found.
    let is : c.args.before.verdict ≡ Ok verdicts.TooMuch = search rules in
    too_much_on specs steps _ c.args.machine.now c.args.before found is
