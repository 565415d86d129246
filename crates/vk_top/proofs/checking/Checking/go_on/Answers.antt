use Rattle.std.proofs.Common.{length, ap, arith}
use Rattle.v_trace.specs.Remaining.{Remaining}
use Rattle.v_trace.proofs.Pieces.{steps_few}
use Rattle.vk_top.proofs.Checked.{all_checked, bad_found, more_checked}
use Rattle.vk_top.proofs.checking.Checking.go_on.Goals as goal

pub check_left-requires : goal.check_left-requires
check_left-requires c =
    omega (
      arith,
      c.requires,
      ap (λ (r : Remaining). length r.steps) c.resume-reader.ensures,
      steps_few c.args.self.config c.args.self.found.read c.args.piece.now,
    )

pub returns-clause-more : goal.returns-clause-more
returns-clause-more c = more_checked c.args.piece.now c.args.self _ _ c.resume-reader.ensures c.check_left.ensures.checked

pub returns-clause-all : goal.returns-clause-all
returns-clause-all c = all_checked c.args.piece.now c.args.self _ _ c.resume-reader.ensures c.check_left.ensures.checked

pub returns-clause-bad : goal.returns-clause-bad
returns-clause-bad c = bad_found c.args.piece.now c.args.self _ _ c.resume-reader.ensures c.check_left.ensures.bad
