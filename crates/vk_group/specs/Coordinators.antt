-- A coordinator, as its group and the answers so far.
use Rattle.std.specs.Prelude.{◌≡◌, ◌≤◌, ℕ, List, length}
use Rattle.vk_types.specs.Types.{Answer}
use Rattle.vk_group.specs.declared.group.Group.{Group}
use Rattle.vk_event.specs.declared.pair.TheConstants.{GROUP_MEMBERS}
use Rattle.vk_group.specs.Groups.{group_after}
use Rattle.vk_group.specs.Members.{pairs_of}

-- after these answers the coordinator, which makes so many replies, knows this of its group and does this
pub record IsCoordinatorAfter (requests : ℕ) (g : Group) (answers : List Answer) : Type 0 where
  pub state : group_after (pairs_of g.members) requests answers ≡ g
  pub few : length g.members ≤ GROUP_MEMBERS
