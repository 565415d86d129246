use Rattle.std.proofs.Common.{subst, sym}
use Rattle.vk_draw.specs.Top.{IsRefusal}
use Rattle.vk_draw.proofs.Answered.{refused_text}
use Rattle.vk_draw.proofs.top.make.Goals as goal

pub returns-in-Err-clause-refused : goal.returns-in-Err-clause-refused
returns-in-Err-clause-refused c =
    subst (IsRefusal c.args.asked c.args.text.now) (sym c.refused.ensures)
    (refused_text c.args.asked c.args.text.now c.in-Err.refusal c.in-Err.ensures.refused)
