-- What a machine keeps after a step, and what it answers.
use Rattle.std.proofs.Common.{◌≡◌, ℕ, ◌-◌, ◌≤◌, Option, Result, Ok, Err, refl, ap, ◌∙◌, arith}
use Rattle.vk_types.specs.Types.{Observation, Step}
use Rattle.vk_base.specs.Steps.{effect}
use Rattle.v_laws.proofs.SizeLemmas.{sized_step}
use Rattle.v_laws.proofs.SoundLemmas.{sound_step}
use Rattle.v_machine.specs.declared.tables.Store.{Store}
use Rattle.v_machine.specs.declared.refusal.ApplyRefusal.{ApplyRefusal}
use Rattle.v_machine.specs.declared.refusal.ApplyRefusal.TheVariants as refused
use Rattle.v_machine.specs.Apply.{Applied, most, notes}
use Rattle.v_machine.specs.Kept.{IsKept, kernel_in, tables_in}
use Rattle.v_machine.specs.Rules.{Answers, Counts, Goes, Stays, quiet}
use Rattle.v_machine.proofs.SendLemmas.{kept_stays}

module _ (s t : Store) (before after : ℕ) (step : Step) (kept : IsKept s) (low : before ≤ most) where
  kept_goes : (seen : Option Observation) → Goes (effect (kernel_in s) step) seen t → IsKept t
  kept_goes seen goes = record {
    indexed = goes.indexed;
    sound = sound_step (kernel_in s) step _ kept.sound goes.effect;
    size = kept.size;
    sized = sized_step kept.size (kernel_in s) step _ kept.sized goes.effect;
  }

  same : Stays s t → after ≡ before → tables_in t after ≡ tables_in s before
  same stays count = stays.tables after ∙ ap (tables_in s) count

  pub applied : (r : Result (Option Observation) ApplyRefusal) →
      Answers (effect (kernel_in s) step) (notes (kernel_in s) step) (most - before) s t r →
      Counts (notes (kernel_in s) step) before after r → Applied step (tables_in s before) (tables_in t after) r
  applied (Ok seen) answers counts = (answers.0.effect, counts, (let room = answers.1 in omega arith))
  applied (Err refused.NotAllowed) answers counts = (answers.0, same answers.1 counts)
  applied (Err refused.Limit) answers counts = ((answers.0, (let room = answers.1 in omega arith)), same answers.2 counts)
  applied (Err refused.NoMemory) answers counts = ((answers.0, (let room = answers.1 in omega arith)), same answers.2 counts)

  pub kept_after : (r : Result (Option Observation) ApplyRefusal) →
      Answers (effect (kernel_in s) step) (notes (kernel_in s) step) (most - before) s t r →
      Counts (notes (kernel_in s) step) before after r → IsKept t × (after ≤ most)
  kept_after (Ok seen) answers counts = (kept_goes seen answers.0, (let room = answers.1 in omega arith))
  kept_after (Err refused.NotAllowed) answers counts = (kept_stays s t answers.1 kept, omega arith)
  kept_after (Err refused.Limit) answers counts = (kept_stays s t answers.2 kept, omega arith)
  kept_after (Err refused.NoMemory) answers counts = (kept_stays s t answers.2 kept, omega arith)

pub counts_quiet : (noted before after : ℕ) (r : Result (Unit {0}) ApplyRefusal) → Counts noted before after r →
    Counts noted before after (quiet r)
counts_quiet noted before after (Ok u) counts = counts
counts_quiet noted before after (Err why) counts = counts

pub counts_none : {T : Type 0} (before : ℕ) (r : Result T ApplyRefusal) → Counts 0 before before r
counts_none before (Ok x) = omega arith
counts_none before (Err why) = refl
