use Rattle.std.proofs.Common.{inr, refl, inl}
use Rattle.vk_top.proofs.Outcomes.{done_flushed, served_is, written_late}
use Rattle.vk_top.proofs.PieceInputs.{refused_other, refused_outcome}
use Rattle.vk_top.proofs.Told.{written_is}
use Rattle.vk_top.specs.declared.status.Status.TheVariants as status
use Rattle.vk_top.proofs.top.serve.Goals as goal

pub write_work-requires : goal.write_work-requires
write_work-requires g c = c.in-Ok.ensures.work.work.late

pub returns-in-Ok-clause-outcome : goal.returns-in-Ok-clause-outcome
returns-in-Ok-clause-outcome g c =
    let is = c.in-Ok.ensures.work in
    served_is _ _ _ _ _ _ is.text is.text _ is.read refl
    (written_is _ _ is.text _ _ _ _ is.read.small is.work c.write_work.ensures.written c.write_work.ensures.front)

pub returns-in-Ok-clause-nothing : goal.returns-in-Ok-clause-nothing
returns-in-Ok-clause-nothing g c = λ early.
    absurd (written_late _ _ _ _ _ c.in-Ok.ensures.work.work.late c.write_work.ensures.written early)

pub returns-in-Ok-clause-flushed : goal.returns-in-Ok-clause-flushed
returns-in-Ok-clause-flushed g c = done_flushed _ _ c.write_work.ensures.flushed

pub returns-in-Ok-clause-all_flushed : goal.returns-in-Ok-clause-all_flushed
returns-in-Ok-clause-all_flushed g c = λ whole. inr (c.write_work.ensures.flushed whole)

pub returns-in-Err-clause-outcome : goal.returns-in-Err-clause-outcome
returns-in-Err-clause-outcome g c = refused_outcome _ _ _ _ _ _ refl c.in-Err.ensures.refused

pub returns-in-Err-clause-flushed : goal.returns-in-Err-clause-flushed
returns-in-Err-clause-flushed g c = λ is.
    absurd (refused_other _ _ _ _ status.Done (λ text none. none) tt c.in-Err.ensures.refused is)

pub returns-in-Err-clause-all_flushed : goal.returns-in-Err-clause-all_flushed
returns-in-Err-clause-all_flushed g c = λ whole. inl refl

pub returns-in-Err-clause-write_count : goal.returns-in-Err-clause-write_count
returns-in-Err-clause-write_count g c =
    inr (refused_other _ _ _ _ status.WriteFault (λ text none. none) tt c.in-Err.ensures.refused, refl)
