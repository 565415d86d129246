-- What is told of faults.
use Rattle.std.proofs.Common.{◌≡◌, ℕ, ◌<◌, inl, inr, subst, arith}
use Rattle.vk_edge.specs.Answers.{CountsFaults, TellsFaults}
use Rattle.vk_io.specs.Causes.{Rose}

module _ {S : Type 0} (why s : S) (before now : ℕ) where
  rose_at : CountsFaults why s before now → s ≡ why → Rose before now
  rose_at (inl rose) is = rose.1
  rose_at (inr same) is = absurd (same.0 is)

  told_at : CountsFaults why s before now → before < now → s ≡ why
  told_at (inl rose) more = rose.0
  told_at (inr same) more = absurd (omega (arith, same.1, more))

  pub tells : CountsFaults why s before now → TellsFaults why s before now
  tells count = record { answered = rose_at count; told = told_at count }

  -- another answer where none was counted
  pub tells_none : ¬ (s ≡ why) → now ≡ before → TellsFaults why s before now
  tells_none other same = tells (inr (other, same))

-- an answer of which this holds is none of which it does not
pub other_than : {S : Type 0} (P : S → Type 0) (s why : S) → P s → ¬ (P why) → ¬ (s ≡ why)
other_than P s why holds none is = none (subst P is holds)
