-- A station that stands for some entries does so after each event.
use Rattle.std.proofs.Common.{◌∷◌}
use Rattle.vk_types.specs.Types.{EventAnswer}
use Rattle.vk_rules.specs.Entries.{Input}
use Rattle.vk_rules.specs.Right.{entry_of}
use Rattle.vk_host.specs.Standing.{IsEvent, StandsSomewhere}
use Rattle.vk_host.specs.Values.{StationValue}

pub stands_on : (old new : StationValue) (i : Input) (given : EventAnswer) → IsEvent old new i given → StandsSomewhere old →
    StandsSomewhere new
stands_on old new i given is some = (some.0, entry_of some.0 old.host some.1 i ∷ some.1, is.stands some.0 some.1 some.2)
