use Rattle.v_machine.proofs.Shifting.{IsShifted}
use Rattle.v_machine.proofs.tables.numbered.Numbered.forget.Given as goal

abbrev pub invariant-loop-at : goal.invariant-loop-at
invariant-loop-at g l = IsShifted l.fn.count l.at l.initial.self-inside.items.items l.self-inside.items.items
