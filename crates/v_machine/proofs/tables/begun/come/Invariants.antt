use Rattle.std.proofs.Common.{◌≡◌, ℕ, length, option_map}
use Rattle.v_machine.specs.Places.{numbered}
use Rattle.v_machine.specs.Sends.{dropped_between}
use Rattle.v_machine.proofs.tables.begun.come.Given as goal

abbrev pub invariant-loop-earlier : goal.invariant-loop-earlier
invariant-loop-earlier l = record {
  value : (n : ℕ) → numbered l.sends n ≡ option_map (dropped_between l.fn.latest l.earlier l.fn.host n) (numbered l.fn.sends n);
  count : length l.sends ≡ length l.fn.sends;
}
