use Rattle.std.proofs.Common.{Some, ◌∙◌, ap, arith, refl, sym, inl}
use Rattle.vk_top.proofs.Jobs.{not_threaded, storm_answer, text_answer, useless_answer, wanting_answer}
use Rattle.vk_edge.proofs.Answers.{tells, tells_none}
use Rattle.vk_top.proofs.Storms.{no_other}
use Rattle.vk_top.proofs.top.vkernel_alone.Goals as goal

pub returns-in-Ok-Some-OfText-clause-answer : goal.returns-in-Ok-Some-OfText-clause-answer
returns-in-Ok-Some-OfText-clause-answer g c =
    text_answer _ _ _ _ _ _ _ _ _
    (sym (c.in-Ok-Some-OfText.field-0-is ∙ ap Some c.in-Ok-Some-OfText.field-0-0-is) ∙ c.in-Ok-Some-OfText.ensures.job)
    c.serve.ensures.outcome c.serve.ensures.nothing

pub returns-in-Ok-Some-OfText-clause-threaded : goal.returns-in-Ok-Some-OfText-clause-threaded
returns-in-Ok-Some-OfText-clause-threaded g c =
    λ threaded. not_threaded _ _
    (sym (c.in-Ok-Some-OfText.field-0-is ∙ ap Some c.in-Ok-Some-OfText.field-0-0-is) ∙ c.in-Ok-Some-OfText.ensures.job) threaded (λ e. cc)

pub returns-in-Ok-Some-OfText-clause-read_faults : goal.returns-in-Ok-Some-OfText-clause-read_faults
returns-in-Ok-Some-OfText-clause-read_faults g c = tells _ _ _ _ c.serve.ensures.read_count

pub returns-in-Ok-Some-OfText-clause-write_faults : goal.returns-in-Ok-Some-OfText-clause-write_faults
returns-in-Ok-Some-OfText-clause-write_faults g c = tells _ _ _ _ c.serve.ensures.write_count

pub returns-in-Ok-Some-Storm-clause-answer : goal.returns-in-Ok-Some-Storm-clause-answer
returns-in-Ok-Some-Storm-clause-answer g c =
    storm_answer _ _ _ _ _ _ _ _
    (sym (c.in-Ok-Some-Storm.field-0-is ∙ ap Some c.in-Ok-Some-Storm.field-0-0-is) ∙ c.in-Ok-Some-Storm.ensures.job) refl
    c.storm.ensures.answered c.storm.ensures.nothing

pub returns-in-Ok-Some-Storm-clause-threaded : goal.returns-in-Ok-Some-Storm-clause-threaded
returns-in-Ok-Some-Storm-clause-threaded g c =
    λ threaded. not_threaded _ _
    (sym (c.in-Ok-Some-Storm.field-0-is ∙ ap Some c.in-Ok-Some-Storm.field-0-0-is) ∙ c.in-Ok-Some-Storm.ensures.job) threaded (λ e. cc)

pub returns-in-Ok-Some-Storm-clause-read_faults : goal.returns-in-Ok-Some-Storm-clause-read_faults
returns-in-Ok-Some-Storm-clause-read_faults g c =
    tells_none _ _ _ _
    (λ is.
    no_other _ _ c.storm.ensures.answered.kinds is (λ e. grind (arith, e)) (λ e. grind (arith, e)) (λ e. grind (arith, e))
    (λ e. grind (arith, e))) refl

pub returns-in-Ok-Some-Storm-clause-write_faults : goal.returns-in-Ok-Some-Storm-clause-write_faults
returns-in-Ok-Some-Storm-clause-write_faults g c = tells _ _ _ _ c.storm.ensures.count

pub returns-in-Ok-None-clause-answer : goal.returns-in-Ok-None-clause-answer
returns-in-Ok-None-clause-answer g c = useless_answer _ _ _ _ _ (sym (sym c.in-Ok-None.field-0-is ∙ c.in-Ok-None.ensures.job)) refl refl

pub returns-in-Ok-None-clause-flushed : goal.returns-in-Ok-None-clause-flushed
returns-in-Ok-None-clause-flushed g c = λ is. absurd (grind (arith, is))

pub returns-in-Ok-None-clause-all_flushed : goal.returns-in-Ok-None-clause-all_flushed
returns-in-Ok-None-clause-all_flushed g c = λ whole. inl refl

pub returns-in-Ok-None-clause-read_faults : goal.returns-in-Ok-None-clause-read_faults
returns-in-Ok-None-clause-read_faults g c = tells_none _ _ _ _ (λ e. grind (arith, e)) refl

pub returns-in-Ok-None-clause-write_faults : goal.returns-in-Ok-None-clause-write_faults
returns-in-Ok-None-clause-write_faults g c = tells_none _ _ _ _ (λ e. grind (arith, e)) refl

pub returns-in-Err-clause-answer : goal.returns-in-Err-clause-answer
returns-in-Err-clause-answer g c = wanting_answer _ _ _ _ _ refl refl

pub returns-in-Err-clause-flushed : goal.returns-in-Err-clause-flushed
returns-in-Err-clause-flushed g c = λ is. absurd (grind (arith, is))

pub returns-in-Err-clause-all_flushed : goal.returns-in-Err-clause-all_flushed
returns-in-Err-clause-all_flushed g c = λ whole. inl refl

pub returns-in-Err-clause-read_faults : goal.returns-in-Err-clause-read_faults
returns-in-Err-clause-read_faults g c = tells_none _ _ _ _ (λ e. grind (arith, e)) refl

pub returns-in-Err-clause-write_faults : goal.returns-in-Err-clause-write_faults
returns-in-Err-clause-write_faults g c = tells_none _ _ _ _ (λ e. grind (arith, e)) refl
