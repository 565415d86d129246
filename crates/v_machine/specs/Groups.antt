-- Internal: no public contract rests on this file. The processes that a group holds.
use Rattle.std.specs.Prelude.{List, [], ◌∷◌}
use Rattle.v_machine.specs.declared.tables.groups.Grouped.{Grouped}
use Rattle.v_machine.specs.declared.tables.groups.Grouped.TheVariants as groups
use Rattle.v_machine.specs.declared.tables.groups.Placed.{Placed}

abbrev pub placed_in : Grouped → List Placed
placed_in (groups.One placed) = placed ∷ []
placed_in (groups.List items) = items.items
