use Rattle.std.proofs.Common.{refl}
use Rattle.std.proofs.lemmas.Nat.Bits.{bit_at_ones}
use Rattle.vk_procs.proofs.Followed.{note_each}
use Rattle.vk_procs.proofs.deadlines.Deadlines.new.Goals as goal

pub returns : goal.returns
returns c = note_each _ refl (λ k low. bit_at_ones 32 k low)
