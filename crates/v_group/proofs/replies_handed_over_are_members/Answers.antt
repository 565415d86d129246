use Rattle.v_group.proofs.Events.{handed_over_in}
use Rattle.v_group.proofs.HandedOver.{handed_over_members}
use Rattle.v_group.proofs.replies_handed_over_are_members.Goals as goal

pub returns : goal.returns
returns c = record { runs = handed_over_members; histories = handed_over_in }
