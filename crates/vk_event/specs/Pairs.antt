-- Which pairs make a group.
use Rattle.std.specs.Prelude.{Bool, ◌==◌, ◌&&◌, not, nat_le, List, length, count_by}
use Rattle.std.specs.List.{list_all}
use Rattle.vk_types.specs.Types.{Pid}
use Rattle.vk_base.specs.Pids.{same_pid}
use Rattle.vk_event.specs.declared.pair.HelperPair.{HelperPair}
use Rattle.vk_event.specs.declared.pair.TheConstants.{GROUP_MEMBERS}

-- this process is the helper, or the member, of one pair and no other
abbrev pub helps_once : List HelperPair → Pid → Bool
helps_once ps pid = count_by (λ q. same_pid q.helper pid) ps == 1

abbrev pub belongs_once : List HelperPair → Pid → Bool
belongs_once ps pid = count_by (λ q. same_pid q.member pid) ps == 1

-- no two helpers are equal, and no two members
abbrev pub are_different : List HelperPair → Bool
are_different ps = list_all (λ p. helps_once ps p.helper && belongs_once ps p.member) ps

-- there is a pair, and there are not too many
abbrev pub are_pairs : List HelperPair → Bool
are_pairs ps = not (length ps == 0) && nat_le (length ps) GROUP_MEMBERS && are_different ps
