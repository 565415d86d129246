-- How the calls of a reader or a writer are counted, and what calls made again come to.
use Rattle.std.specs.Prelude.{ℕ, zero, suc, ◌<◌, ◌≡◌, ◌⊎◌, Bool, true, false, Result, Ok, Err}
use Rattle.vk_io.specs.Causes.{next_count}
use Rattle.vk_io.specs.Memory.{Calls}
use Rattle.vk_io.specs.declared.edge.Hitch.{Hitch}
use Rattle.vk_io.specs.declared.edge.Hitch.TheVariants as hitches
use Rattle.vk_io.specs.declared.edge.Tally.{Tally}
use Rattle.vk_io.specs.declared.ends.Failed.{Failed}

-- after one more call, which did what it is for
abbrev pub after_done : Tally → Tally
after_done t = record { made = next_count t.made; interrupted = t.interrupted; faults = t.faults }

-- after one more call, which was interrupted
abbrev pub after_interruption : Tally → Tally
after_interruption t = record { made = next_count t.made; interrupted = next_count t.interrupted; faults = t.faults }

-- after one more call, which met a fault
abbrev pub after_fault : Tally → Tally
after_fault t = record { made = next_count t.made; interrupted = t.interrupted; faults = next_count t.faults }

-- after one more call, by its answer
abbrev pub after_answer : {T : Type 0} → Tally → Result T Hitch → Tally
after_answer t (Ok x) = after_done t
after_answer t (Err hitches.Interrupted) = after_interruption t
after_answer t (Err hitches.Fault) = after_fault t

-- after so many calls in a row that were interrupted
abbrev pub after_interruptions : Tally → ℕ → Tally
after_interruptions t zero = t
after_interruptions t (suc k) = after_interruption (after_interruptions t k)

-- A call that is made again as long as it is interrupted, up to 64 times in all. Ok: the last call did what it is for, and those before it
-- were interrupted. Failed: the last call met a fault, the first one that did, or 64 were interrupted.
abbrev pub IsRetried : {T : Type 0} → (before after : Tally) → Result T Failed → Type 0
IsRetried before after (Ok x) = (k : ℕ) × (k < 64) × (after ≡ after_done (after_interruptions before k))
IsRetried before after (Err e) =
    ((k : ℕ) × (k < 64) × (after ≡ after_fault (after_interruptions before k))) ⊎ (after ≡ after_interruptions before 64)

-- in memory: the calls that were begun, of which those that are listed were interrupted, and those of the others that failed
abbrev pub tally_by : (begun others : Calls) → Tally
tally_by begun others = record { made = begun.made; interrupted = begun.faults; faults = others.faults }

abbrev pub is_interruption : {T : Type 0} → Result T Hitch → Bool
is_interruption (Ok x) = false
is_interruption (Err hitches.Interrupted) = true
is_interruption (Err hitches.Fault) = false
