use Rattle.std.proofs.Common.{le_antisymm}
use Rattle.vk_files.proofs.Directories.{met_end, met_other, met_other_late, met_zero}
use Rattle.vk_files.proofs.directory.ends_in_zeros.Goals as goal
use Rattle.vk_files.proofs.directory.ends_in_zeros.Goals.{then-byte-eq0, else-byte-eq0+else-ended}

pub loop-byte-preserved : goal.loop-byte-preserved
loop-byte-preserved c = elim c.if-byte-eq0.branch [
  | then-byte-eq0 w ↦ rw w.ended-is (met_zero c.loop-byte.ended c.args.bytes.now c.loop-byte.byte-index _ c.loop-byte-test.true
      w.if-byte-eq0.true c.loop-byte.invariant)
  | else-byte-eq0+else-ended w ↦ rw w.ended-is (met_other c.loop-byte.ended c.args.bytes.now c.loop-byte.byte-index _
      c.loop-byte-test.true w.if-byte-eq0.false w.if-ended.false c.loop-byte.invariant)
]

pub returns-then-ended : goal.returns-then-ended
returns-then-ended c =
    met_other_late c.loop-byte.ended c.args.bytes.now c.loop-byte.byte-index _ c.loop-byte-test.true c.if-byte-eq0.false c.if-ended.true
    c.loop-byte.invariant

pub returns : goal.returns
returns c =
    met_end c.loop-byte.ended c.args.bytes.now c.loop-byte.byte-index _ (le_antisymm c.loop-byte.auto.byte-index-end c.loop-byte-test.false)
    c.loop-byte.invariant
