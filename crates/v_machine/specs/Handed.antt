-- Internal: no public contract rests on this file. Where a message was handed on to.
use Rattle.std.specs.Prelude.{Option, Some, None, Box}
use Rattle.std.specs.Global.{Global}
use Rattle.v_machine.specs.declared.tables.handed.Handing.{Handing}

abbrev pub handing_in : Option (Box Handing Global) → Option Handing
handing_in None = None
handing_in (Some b) = Some b.value
