use Rattle.v_due.proofs.Patience.{works_rest_until_due}
use Rattle.v_due.proofs.Rounds.{due_works_go_out_again}
use Rattle.v_due.proofs.law.works_go_out_when_due.Goals as goal

pub returns : goal.returns
returns c = record { due = due_works_go_out_again; other = works_rest_until_due }
