use Rattle.std.proofs.Common.{◌≡◌, ◌<◌, ◌∙◌, List, length, ap, arith, inr, sym}
use Rattle.std.proofs.lemmas.Bool.{eqb-true}
use Rattle.std.proofs.lemmas.Result.{IfErr-weaker}
use Rattle.vk_types.specs.Types.{ProcessSpec}
use Rattle.vk_event.proofs.ScenarioHeads.{refused_as, no_process, with_body, has_process, ok_of, err_of}
use Rattle.vk_event.proofs.ScenarioRanges.{read_lawful}
use Rattle.vk_event.proofs.ScenarioRefusals.{never_limit}
use Rattle.vk_event.proofs.scenario.read_scenario.Goals as goal

pub returns-in-Err-clause-refused : goal.returns-in-Err-clause-refused
returns-in-Err-clause-refused c =
    refused_as c.args.text.now c.in-Err.refusal c.refused.result c.refused.ensures c.in-Err.ensures.refused

pub returns-in-Err-clause-never_limit : goal.returns-in-Err-clause-never_limit
returns-in-Err-clause-never_limit c =
    never_limit c.args.text.now c.refused.result
    (refused_as c.args.text.now c.in-Err.refusal c.refused.result c.refused.ensures c.in-Err.ensures.refused)

pub returns-then-is_empty-clause-refused : goal.returns-then-is_empty-clause-refused
returns-then-is_empty-clause-refused c =
    let none : length c.specs.result.now ≡ 0 = eqb-true (length c.specs.result.now) 0 (sym c.if-is_empty.ensures) in
    inr (no_process c.args.text.now c.in-Ok.head.config c.in-Ok.head.line _ c.in-Ok.ensures.opening c.in-Ok.ensures.line
    (ap (λ (ss : List ProcessSpec). length ss) (sym c.specs.ensures.specs) ∙ none))

pub returns-clause-scenario : goal.returns-clause-scenario
returns-clause-scenario c =
    let some : 0 < length c.in-Ok.head.config.specs = grind arith in
    ok_of _ _ c.read_body.result
    (with_body c.args.text.now c.in-Ok.head.config c.in-Ok.head.line _ c.in-Ok.ensures.opening c.in-Ok.ensures.line some)
    c.read_body.ensures.scenario

pub returns-clause-refused : goal.returns-clause-refused
returns-clause-refused c =
    let some : 0 < length c.in-Ok.head.config.specs = grind arith in
    err_of _ _ _ c.read_body.result (has_process c.args.text.now c.in-Ok.head.config c.in-Ok.head.line _ c.in-Ok.ensures.opening some)
    (with_body c.args.text.now c.in-Ok.head.config c.in-Ok.head.line _ c.in-Ok.ensures.opening c.in-Ok.ensures.line some)
    c.read_body.ensures.refused

pub returns-clause-never_limit : goal.returns-clause-never_limit
returns-clause-never_limit c =
    let some : 0 < length c.in-Ok.head.config.specs = grind arith in
    IfErr-weaker c.read_body.result _ _ (never_limit c.args.text.now)
    (err_of _ _ _ c.read_body.result (has_process c.args.text.now c.in-Ok.head.config c.in-Ok.head.line _ c.in-Ok.ensures.opening some)
    (with_body c.args.text.now c.in-Ok.head.config c.in-Ok.head.line _ c.in-Ok.ensures.opening c.in-Ok.ensures.line some)
    c.read_body.ensures.refused)

pub returns-clause-lawful : goal.returns-clause-lawful
returns-clause-lawful c =
    let some : 0 < length c.in-Ok.head.config.specs = grind arith in
    read_lawful c.args.text.now c.read_body.result
    (ok_of _ _ c.read_body.result
    (with_body c.args.text.now c.in-Ok.head.config c.in-Ok.head.line _ c.in-Ok.ensures.opening c.in-Ok.ensures.line some)
    c.read_body.ensures.scenario)
