use Rattle.v_due.proofs.Passed.{late_negatives_pass_by, late_replies_pass_by, pendings_pass_by}
use Rattle.v_due.proofs.law.late_packets_pass_by.Goals as goal

pub returns : goal.returns
returns c = record { pending = pendings_pass_by; reply = late_replies_pass_by; negative = late_negatives_pass_by }
