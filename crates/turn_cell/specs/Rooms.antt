-- Which of the two reasons it is.
use Rattle.std.specs.Prelude.{Bool, true, false}
use Rattle.turn_cell.specs.declared.replay.Room.{Room}
use Rattle.turn_cell.specs.declared.replay.Room.TheVariants.{Full, NoMemory}

abbrev pub is_full : Room → Bool
is_full Full = true
is_full NoMemory = false
