-- A new station: its tables fit and stand, so that tables that stand for readings are there.
use Rattle.std.specs.Prelude.{ℕ}
use Rattle.vk_base.specs.Settings.{AreLawful, Settings}
use Rattle.vk_rules.specs.Readings.{first_reading}
use Rattle.vk_stands.specs.Fit.{AreFit}
use Rattle.vk_stands.specs.Stands.{Stands}
use Rattle.vk_stands.specs.Tables.{new_tables}

abbrev pub NewTablesFit : Type 0
NewTablesFit = (c : Settings) (host : ℕ) → AreLawful c → AreFit host (new_tables c host)

-- for the reading of no entries
abbrev pub NewTablesStand : Type 0
NewTablesStand = (c : Settings) (host : ℕ) → AreLawful c →
    Stands c.times host (new_tables c host) (first_reading c host)
