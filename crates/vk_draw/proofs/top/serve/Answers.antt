use Rattle.std.proofs.Common.{None, inr, refl}
use Rattle.vk_draw.specs.declared.status.Status.TheVariants as status
use Rattle.vk_draw.proofs.Answered.{read_is, unread_counts, unread_is, unread_other}
use Rattle.vk_draw.proofs.Decided.{decided_is}
use Rattle.vk_draw.proofs.top.serve.Goals as goal

pub returns-in-Ok-clause-outcome : goal.returns-in-Ok-clause-outcome
returns-in-Ok-clause-outcome g c = read_is _ c.args.asked c.args.parts.now _ _ _ _ _ _ _ c.in-Ok.ensures.text c.deref.ensures.value c.answer.ensures.answered

pub returns-in-Ok-clause-decided : goal.returns-in-Ok-clause-decided
returns-in-Ok-clause-decided g c =
    decided_is _ c.args.asked c.args.parts.now _ _ _ _ _ (read_is _ c.args.asked c.args.parts.now _ _ _ _ _ _ _ c.in-Ok.ensures.text c.deref.ensures.value c.answer.ensures.answered)

pub returns-in-Ok-clause-read_count : goal.returns-in-Ok-clause-read_count
returns-in-Ok-clause-read_count g c = inr (c.answer.ensures.answered.kinds.1, c.in-Ok.ensures.cause)

pub returns-in-Err-clause-outcome : goal.returns-in-Err-clause-outcome
returns-in-Err-clause-outcome g c = unread_is _ c.args.asked c.args.parts.now _ _ _ _ _ c.from.ensures refl c.in-Err.ensures.refused

pub returns-in-Err-clause-decided : goal.returns-in-Err-clause-decided
returns-in-Err-clause-decided g c =
    decided_is (Unit {0}) c.args.asked c.args.parts.now _ _ None None _
    (unread_is (Unit {0}) c.args.asked c.args.parts.now _ _ None _ _ c.from.ensures tt c.in-Err.ensures.refused)

pub returns-in-Err-clause-read_count : goal.returns-in-Err-clause-read_count
returns-in-Err-clause-read_count g c = unread_counts c.in-Err.refusal _ _ _ c.from.ensures c.in-Err.ensures.cause

pub returns-in-Err-clause-write_count : goal.returns-in-Err-clause-write_count
returns-in-Err-clause-write_count g c =
    inr (unread_other c.in-Err.refusal _ status.WriteFault c.from.ensures (λ none. none), refl)

pub returns-in-Err-clause-flushed : goal.returns-in-Err-clause-flushed
returns-in-Err-clause-flushed g c = λ is. absurd (unread_other c.in-Err.refusal _ status.Done c.from.ensures (λ none. none) is)
