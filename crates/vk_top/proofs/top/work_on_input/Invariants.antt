use Rattle.std.proofs.Common.{◌≡◌, ◌+◌, ◌-◌, cond}
use Rattle.vk_base.specs.declared.limits.TheConstants.{INPUT_BYTES}
use Rattle.vk_top.specs.Begun.{IsOnWay}
use Rattle.vk_top.proofs.top.work_on_input.Given as goal

abbrev pub invariant-loop-pieces : goal.invariant-loop-pieces
invariant-loop-pieces g l = record {
  way : IsOnWay l.asked (g.S.Source.left l.fn.input) (g.S.Source.left l.input) l.pieces l.begun;
  kept : g.S.Source.fault_count l.input ≡ g.S.Source.fault_count l.fn.input;
}

abbrev pub decreases-loop-pieces : goal.decreases-loop-pieces
decreases-loop-pieces g l = INPUT_BYTES - l.pieces.count + cond l.pieces.is_last 0 1
