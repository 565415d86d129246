-- Internal: no public contract rests on this file. What stands first in a queue.
use Rattle.std.specs.Prelude.{◌≡◌, ℕ, List, slice_index_or, slice_get, Some}
use Rattle.vk_types.specs.Types.{Name}
use Rattle.v_machine.specs.declared.tables.Store.{Store}

-- this name stands first in what is kept for the queue of this place
abbrev pub LeadsQueue : Store → ℕ → Name → Type 0
LeadsQueue s at name = (ns : List Name) → ns ≡ slice_index_or s.queues.items at ns → slice_get ns 0 ≡ Some name
