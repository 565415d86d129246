use Rattle.std.proofs.Common.{◌∙◌, arith, refl, sym}
use Rattle.std.proofs.lemmas.Grind.{common_steps}
use Rattle.vk_event.proofs.NodeLawful.{only_lawful}
use Rattle.vk_event.proofs.NodeReading.{behind_opening, refused_behind}
use Rattle.vk_event.proofs.node.read_nodes.Goals as goal

pub returns-in_err-logs-clause-refused : goal.returns-in_err-logs-clause-refused
returns-in_err-logs-clause-refused c =
    let head = c.in_ok-config.ensures in
    let same = behind_opening c.args.text.now _ _ _ _ _ head.opening head.line c.second_line-second.ensures refl in
    let why = refused_behind c.args.text.now _ _ _ _ _ head.opening same c.in_err-logs.ensures in
    grind (arith, common_steps)

pub returns-clause-nodes : goal.returns-clause-nodes
returns-clause-nodes c =
    let head = c.in_ok-config.ensures in
    sym (behind_opening c.args.text.now _ _ _ _ _ head.opening head.line c.second_line-second.ensures refl) ∙ c.in_ok-logs.ensures

pub returns-clause-lawful : goal.returns-clause-lawful
returns-clause-lawful c = only_lawful c.args.text.now _ (returns-clause-nodes c)
