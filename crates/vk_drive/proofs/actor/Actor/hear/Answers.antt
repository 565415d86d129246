use Rattle.std.proofs.Common.{[], ◌∷◌, ◌++◌, refl, sym, ap, subst, ◌∙◌}
use Rattle.vk_host.specs.Responses.{answer_of}
use Rattle.vk_drive.specs.Driving.{IsActor, tells_too_early}
use Rattle.vk_drive.proofs.Acting.{hears_begun, hears_early}
use Rattle.vk_drive.proofs.actor.Actor.hear.Goals as goal

pub returns-then-is_too_early : goal.returns-then-is_too_early
returns-then-is_too_early c t heard is =
    hears_early t heard c.args.self.now (answer_of c.args.station.now c.args.response.now) is
    (sym (c.is_too_early.ensures c.args.station.now.doing.tables.seats) ∙ c.if-is_too_early.true)

pub hear_whole-requires-clause-late : goal.hear_whole-requires-clause-late
hear_whole-requires-clause-late c =
    ap tells_too_early c.answer.ensures ∙ sym (c.is_too_early.ensures c.args.station.now.doing.tables.seats) ∙ c.if-is_too_early.false

pub returns-in-Begun : goal.returns-in-Begun
returns-in-Begun c t heard is =
    let given = answer_of c.args.station.now in
    hears_begun t heard c.args.self.now _ (given c.args.response.now) is c.requires (ap given c.in-Begun.is) refl

pub returns-in_default : goal.returns-in_default
returns-in_default c t heard is =
    subst (λ x. IsActor c.hear_whole.new.self t (heard ++ x ∷ [])) c.answer.ensures (c.hear_whole.ensures t heard is)
