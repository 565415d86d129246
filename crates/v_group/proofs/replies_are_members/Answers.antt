use Rattle.v_group.proofs.Events.{replies_members_in}
use Rattle.v_group.proofs.Replies.{replies_members}
use Rattle.v_group.proofs.replies_are_members.Goals as goal

pub returns : goal.returns
returns c = record { runs = replies_members; histories = replies_members_in }
