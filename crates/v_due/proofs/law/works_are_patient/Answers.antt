use Rattle.v_due.proofs.Patience as patience
use Rattle.v_due.proofs.law.works_are_patient.Goals as goal

pub returns : goal.returns
returns c = patience.works_are_patient
