-- Internal: no public contract rests on this file. What a numbered list ends as, once a `&mut` into it has ended.
use Rattle.std.specs.Prelude.{ℕ, List, slice_set, Option}
use Rattle.std.specs.Borrow.{LendsIf, Fml, RattleType, MutBor}
use Rattle.v_machine.specs.contracts.tables.numbered.Numbered.{the_row}
use Rattle.v_machine.specs.Places.{index_of}

-- the item of the number is the last value written through r, and at `None` the list stays as it is
module _ (T : RattleType) (s : MutBor (List T.Denot)) where
  abbrev pub lends_numbered : ℕ → Option (MutBor T.Denot) → Fml
  lends_numbered number r = LendsIf (the_row T) T s r (slice_set s.now (index_of number)) s.now
