-- Internal: no public contract rests on this file. The names of what came to queues, which only clauses read.
use Rattle.std.specs.Prelude.{List, [], ◌∷◌, ◌++◌}
use Rattle.vk_base.specs.declared.kernel.Name.{Name}
use Rattle.vk_base.specs.Kernel.{without}
use Rattle.v_machine.specs.declared.tables.arrived.Growth.{Growth, Start, Then'}

-- by how the list came about: a name that comes anew is put behind the others
abbrev pub names_of : Growth → List Name
names_of Start = []
names_of (Then' shape before name) = without name (names_of before) ++ name ∷ []
