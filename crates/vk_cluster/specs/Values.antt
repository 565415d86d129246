-- What is said of a cluster.
use Rattle.std.specs.Prelude.{ℕ, ◌||◌, Bool, List, length, nat_le, nat_lt}
use Rattle.vk_base.specs.declared.limits.TheConstants.{EVENTS}
use Rattle.vk_base.specs.Settings.{Settings}
use Rattle.vk_host.specs.Values.{StationValue}
use Rattle.vk_cluster.specs.declared.emitted.TheConstants.{LAST_BYTES}
use Rattle.vk_cluster.specs.Piles.{Pile}

-- its stations in the configuration's order, the frames that they emitted, and how many events there were; not the room for more
pub record ClusterValue : Type 0 where
  pub config : Settings
  pub hosts : List StationValue
  pub pile : Pile
  pub events : ℕ

-- no event is taken any more
abbrev pub is_full : ClusterValue → Bool
is_full k = nat_le EVENTS k.events || nat_lt LAST_BYTES (length k.pile.bytes)
