use Rattle.std.proofs.Common.{IfErr, subst, sym}
use Rattle.vk_top.proofs.PieceInputs.{of_check}
use Rattle.vk_top.specs.Work.{IsRefusal}
use Rattle.vk_top.proofs.begun.Begun.finish.Goals as goal

pub returns-in-Check-asked-2-clause-refused : goal.returns-in-Check-asked-2-clause-refused
returns-in-Check-asked-2-clause-refused c = λ text all some.
    subst (λ a. IfErr c.checked.result (IsRefusal a text)) (sym c.in-Check-asked-2.is)
    (c.checked.ensures.refused text (of_check c.args.asked text c.args.self c.in-Check.checking c.in-Check.is c.in-Check-asked-2.is all) some)
