use Rattle.std.proofs.Common.{◌≡◌, ◌<◌, ◌-◌, ◌+◌, [], min}
use Rattle.std.specs.Io.KnownBytes.{IsAtEnd}
use Rattle.vk_base.specs.declared.limits.TheConstants.{INPUT_BYTES}
use Rattle.vk_edge.specs.Pieces.{IsReadSince}
use Rattle.vk_edge.proofs.buffer.Buffer.skip_rest.Given as goal

abbrev pub invariant-loop-count : goal.invariant-loop-count
invariant-loop-count g l = record {
  more : IsReadSince (g.S.Source.left l.fn.input) (g.S.Source.left l.input) l.fn.self.count l.self.count;
  some : 0 < l.self.count;
  kept : g.S.Source.fault_count l.input ≡ g.S.Source.fault_count l.fn.input;
  at_end : l.count ≡ 0 → IsAtEnd (g.S.Source.left l.input);
  none : l.count ≡ 0 → l.self.bytes ≡ [];
}

abbrev pub decreases-loop-count : goal.decreases-loop-count
decreases-loop-count g l = INPUT_BYTES - l.self.count + min 1 l.count
