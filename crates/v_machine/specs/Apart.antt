-- Internal: no public contract rests on this file. What most exchanges have not, and lies apart of them.
use Rattle.std.specs.Prelude.{ℕ, List, [], Option, Some, None, Box}
use Rattle.std.specs.Global.{Global}
use Rattle.v_machine.specs.declared.tables.apart.Rare.{Rare}
use Rattle.v_machine.specs.declared.tables.handed.Handing.{Handing}
use Rattle.v_machine.specs.declared.tables.remote.Moving.{Moving}

abbrev pub only_part : List ℕ → Rare
only_part part = record { part = part; dest = 0; bytes = []; moving = record { moves = []; opened = 0; done = 0 }; handed = None }

-- where nothing lies apart there is nothing
abbrev pub rare_in : Option (Box Rare Global) → Rare
rare_in None = only_part []
rare_in (Some b) = b.value

abbrev pub answer_in : ℕ → List ℕ → Rare → Rare
answer_in dest bytes r = record r { dest = dest; bytes = bytes }

-- what lies apart of an exchange that was handed on
abbrev pub handed_in : Handing → Rare → Rare
handed_in h r = record r { handed = Some h }

-- what lies apart, where the remote moves are changed so
abbrev pub moves_in : (Moving → Moving) → Rare → Rare
moves_in f r = record r { moving = f r.moving }
