-- What is true of the entries of all stations in every schedule.
use Rattle.std.specs.Prelude.{ℕ, ◌≡◌, ◌<◌, true, Some, List}
use Rattle.vk_base.specs.declared.limits.TheConstants.{LAST_NUMBER}
use Rattle.vk_base.specs.Settings.{Settings, has_station}
use Rattle.vk_host.specs.Sealed.{sealed}
use Rattle.vk_hub.specs.Links.{header_of}
use Rattle.vk_rules.specs.Each.{Each}
use Rattle.vk_rules.specs.Entries.{Entry}
use Rattle.vk_rules.specs.Frames.{Frame}
use Rattle.vk_rules.specs.Histories.{Logs}
use Rattle.vk_rules.specs.Laws.{AllRise}

-- the frames of these entries open with their headers
abbrev pub IsOpen : Frame → Type 0
IsOpen f = header_of (sealed f) ≡ Some f.header

abbrev pub AreOpen : List Entry → Type 0
AreOpen es = Each (λ (e : Entry). Each IsOpen e.frames) es

-- their numbers have not reached the last
abbrev pub IsLow : Entry → Type 0
IsLow e = e.number < LAST_NUMBER

-- The entries rise, their frames open again, and their numbers have not reached the last.
pub record AreSound (c : Settings) (logs : Logs) : Type 0 where
  pub rise : (h : ℕ) → has_station c.specs h ≡ true → AllRise h (logs h)
  pub opens : (h : ℕ) → has_station c.specs h ≡ true → AreOpen (logs h)
  pub low : (h : ℕ) → has_station c.specs h ≡ true → Each IsLow (logs h)
