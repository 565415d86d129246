use Rattle.std.proofs.Common.{inl, inr, refl}
use Rattle.vk_edge.proofs.Answers.{tells_none}
use Rattle.vk_top.proofs.Outcomes.{unread_counts, unread_other}
use Rattle.vk_top.proofs.Threaded.{run_served, run_unread}
use Rattle.vk_top.specs.declared.status.Status.TheVariants as status
use Rattle.vk_top.proofs.node.node.Goals as goal

pub returns-in-Ok-clause-answer : goal.returns-in-Ok-clause-answer
returns-in-Ok-clause-answer g c =
    run_served _ _ _ _ _ _ _ _ _ _ _ _ _ c.in-Ok.ensures.text c.as_slice-text.ensures.value c.answer_node.ensures.answered

pub returns-in-Ok-clause-read_count : goal.returns-in-Ok-clause-read_count
returns-in-Ok-clause-read_count g c = inr (c.answer_node.ensures.answered.reading, c.in-Ok.ensures.cause)

pub returns-in-Err-clause-answer : goal.returns-in-Err-clause-answer
returns-in-Err-clause-answer g c =
    run_unread _ _ _ _ _ _ _ _ _ c.in-Err.refusal _ c.from.ensures refl (refl, refl) (λ i. inl refl) c.in-Err.ensures.refused

pub returns-in-Err-clause-flushed : goal.returns-in-Err-clause-flushed
returns-in-Err-clause-flushed g c = λ is. absurd (unread_other c.in-Err.refusal _ status.Done c.from.ensures tt is)

pub returns-in-Err-clause-all_flushed : goal.returns-in-Err-clause-all_flushed
returns-in-Err-clause-all_flushed g c = λ whole. inl refl

pub returns-in-Err-clause-read_count : goal.returns-in-Err-clause-read_count
returns-in-Err-clause-read_count g c = unread_counts c.in-Err.refusal _ _ _ c.from.ensures c.in-Err.ensures.cause

pub returns-in-Err-clause-write_count : goal.returns-in-Err-clause-write_count
returns-in-Err-clause-write_count g c = inr (unread_other c.in-Err.refusal _ status.WriteFault c.from.ensures tt, refl)

pub returns-in-Err-clause-crew_faults : goal.returns-in-Err-clause-crew_faults
returns-in-Err-clause-crew_faults g c =
    tells_none _ _ _ _ (unread_other c.in-Err.refusal _ status.CrewFault c.from.ensures tt) refl

pub returns-in-Err-clause-link_faults : goal.returns-in-Err-clause-link_faults
returns-in-Err-clause-link_faults g c =
    tells_none _ _ _ _ (unread_other c.in-Err.refusal _ status.LinkFault c.from.ensures tt) refl
