use Rattle.vk_text.proofs.OpeningReading.{times_taken}
use Rattle.vk_text.proofs.opening.read_timed.Goals as goal

pub read_pooled-requires-clause-lawful : goal.read_pooled-requires-clause-lawful
read_pooled-requires-clause-lawful c = times_taken c.in-Some.line.now c.read_times.result _ c.read_times.ensures c.in-Some-read_times.is
