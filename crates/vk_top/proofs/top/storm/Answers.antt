use Rattle.std.proofs.Common.{Err, ap, inr, refl, arith, inl}
use Rattle.vk_top.proofs.Outcomes.{done_flushed}
use Rattle.vk_top.proofs.Storms.{storm_limit, storm_wanting, storm_written}
use Rattle.vk_top.proofs.top.storm.Goals as goal

pub returns-in-Ok-clause-answered : goal.returns-in-Ok-clause-answered
returns-in-Ok-clause-answered g c =
    storm_written _ _ _ _ _ _ c.in-Ok.ensures.fits c.in-Ok.ensures.summary c.write_work.ensures.written c.write_work.ensures.front

pub returns-in-Ok-clause-flushed : goal.returns-in-Ok-clause-flushed
returns-in-Ok-clause-flushed g c = done_flushed _ _ c.write_work.ensures.flushed

pub returns-in-Ok-clause-all_flushed : goal.returns-in-Ok-clause-all_flushed
returns-in-Ok-clause-all_flushed g c = λ whole. inr (c.write_work.ensures.flushed whole)

pub returns-in-Err-Limit-clause-answered : goal.returns-in-Err-Limit-clause-answered
returns-in-Err-Limit-clause-answered g c = storm_limit _ _ _ refl (c.in-Err-Limit.ensures.limit (ap Err c.in-Err-Limit.field-0-is))

pub returns-in-Err-Limit-clause-flushed : goal.returns-in-Err-Limit-clause-flushed
returns-in-Err-Limit-clause-flushed g c = λ is. absurd (grind (arith, is))

pub returns-in-Err-Limit-clause-all_flushed : goal.returns-in-Err-Limit-clause-all_flushed
returns-in-Err-Limit-clause-all_flushed g c = λ whole. inl refl

pub returns-in-Err-Limit-clause-count : goal.returns-in-Err-Limit-clause-count
returns-in-Err-Limit-clause-count g c = inr (λ is. grind (arith, is), refl)

pub returns-in-Err-NoMemory-clause-answered : goal.returns-in-Err-NoMemory-clause-answered
returns-in-Err-NoMemory-clause-answered g c = storm_wanting _ _ _

pub returns-in-Err-NoMemory-clause-flushed : goal.returns-in-Err-NoMemory-clause-flushed
returns-in-Err-NoMemory-clause-flushed g c = λ is. absurd (grind (arith, is))

pub returns-in-Err-NoMemory-clause-all_flushed : goal.returns-in-Err-NoMemory-clause-all_flushed
returns-in-Err-NoMemory-clause-all_flushed g c = λ whole. inl refl

pub returns-in-Err-NoMemory-clause-count : goal.returns-in-Err-NoMemory-clause-count
returns-in-Err-NoMemory-clause-count g c = inr (λ is. grind (arith, is), refl)
