-- A station has as many slots for aliens as its pool says.
use Rattle.std.proofs.Common.{◌≡◌, ℕ, List, [], ◌∷◌, length, None, sym, ap, ◌∙◌}
use Rattle.std.specs.Option.{option_map}
use Rattle.std.proofs.lemmas.List.{length-map, length-replicate}
use Rattle.v_lawful.proofs.Events.{slots_length}
use Rattle.vk_base.specs.Settings.{Settings, pool_of}
use Rattle.vk_rules.specs.Entries.{Entry}
unfoldable use Rattle.vk_rules.specs.Readings.{reading, reading_after}
use Rattle.vk_stands.specs.Tables.{read_alien}
use Rattle.vk_host.specs.Standing.{StandsAt}
use Rattle.vk_host.specs.Values.{StationValue}

-- So has a reading,

pool_read : (c : Settings) (host : ℕ) (es : List Entry) → length (reading c host es).slots ≡ pool_of c host
unfolding reading reading_after
pool_read c host [] = length-replicate (pool_of c host) None
pool_read c host (e ∷ es) = slots_length c.times e (reading c host es).slots ∙ pool_read c host es

-- and so have the tables that stand for it
pub pool_is : (c : Settings) (es : List Entry) (s : StationValue) → StandsAt c es s → length s.doing.tables.slots ≡ pool_of c s.host
pool_is c es s at =
    sym (ap length at.stands.slots ∙ length-map s.doing.tables.slots (option_map read_alien)) ∙ pool_read c s.host es
