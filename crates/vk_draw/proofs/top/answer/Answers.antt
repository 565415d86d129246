use Rattle.std.proofs.Common.{inr, refl, subst, sym, arith}
use Rattle.vk_edge.proofs.Answers.{other_than}
use Rattle.vk_draw.specs.Top.{IsMade, IsRefusal}
use Rattle.vk_draw.specs.declared.status.Status.TheVariants as status
use Rattle.vk_draw.proofs.Answered.{done_flushed, refused_is, written_is}
use Rattle.vk_draw.proofs.top.answer.Goals as goal

pub write_text-requires : goal.write_text-requires
write_text-requires g c = λ is. grind (arith, is)

pub returns-in-Ok-clause-answered : goal.returns-in-Ok-clause-answered
returns-in-Ok-clause-answered g c =
    written_is _ c.args.asked c.args.parts.now _ _ _ _ _ c.requires
    (subst (IsMade c.args.asked c.args.parts.now c.args.text.now) (sym c.deref.ensures.value) c.in-Ok.ensures.made)
    c.write_text.ensures.written c.write_text.ensures.front

pub returns-in-Ok-clause-flushed : goal.returns-in-Ok-clause-flushed
returns-in-Ok-clause-flushed g c = done_flushed _ _ c.write_text.ensures.flushed

pub returns-in-Err-clause-answered : goal.returns-in-Err-clause-answered
returns-in-Err-clause-answered g c = refused_is _ c.args.asked c.args.parts.now _ _ _ refl c.in-Err.ensures.refused

pub returns-in-Err-clause-count : goal.returns-in-Err-clause-count
returns-in-Err-clause-count g c =
    inr (other_than (IsRefusal c.args.asked c.args.text.now) c.in-Err.status status.WriteFault c.in-Err.ensures.refused (λ none. none), refl)

pub returns-in-Err-clause-flushed : goal.returns-in-Err-clause-flushed
returns-in-Err-clause-flushed g c =
    λ is. absurd (other_than (IsRefusal c.args.asked c.args.text.now) c.in-Err.status status.Done c.in-Err.ensures.refused (λ none. none) is)
