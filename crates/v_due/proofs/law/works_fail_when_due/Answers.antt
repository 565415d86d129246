use Rattle.v_due.proofs.Dues.{failures_come_when_due, unanswered_works_fail}
use Rattle.v_due.proofs.law.works_fail_when_due.Goals as goal

pub returns : goal.returns
returns c = record { only = failures_come_when_due; there = unanswered_works_fail }
