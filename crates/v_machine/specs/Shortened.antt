-- Internal: no public contract rests on this file. A store that forgets exchanges that are over.
use Rattle.v_machine.specs.declared.tables.Store.{Store}
use Rattle.v_machine.specs.Kept.{IsKept, kernel_in}
use Rattle.v_machine.specs.Lean.{AreLean, IsAlike}

-- the second spells a kernel that is the same but for these, and has no more bytes of spent moves
pub record IsShortened (s t : Store) : Type 0 where
  pub alike : IsAlike (kernel_in s) (kernel_in t)
  pub kept : IsKept t
  pub lean : AreLean (kernel_in s).exchanges → AreLean (kernel_in t).exchanges
