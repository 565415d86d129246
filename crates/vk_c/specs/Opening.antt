-- A station's begin and end: which station there is, and what is answered.
use Rattle.std.specs.Prelude.{ℕ, ◌≡◌, ◌⊎◌, Bool, ◌==◌, ◌||◌, nat_le, List, [], Option, Some, None, option_map, if◌then◌else◌}
use Rattle.vk_types.specs.Types.{ProcessSpec}
use Rattle.vk_base.specs.declared.limits.TheConstants.{EVERY_STATION}
use Rattle.vk_base.specs.Settings.{Settings, refusal_of, uniform}
use Rattle.vk_base.specs.declared.config.ConfigRefusal.{ConfigRefusal}
use Rattle.vk_base.specs.declared.config.ConfigRefusal.TheVariants as refusals
use Rattle.vk_base.specs.declared.config.PoolRefusal.{PoolRefusal}
use Rattle.vk_base.specs.declared.config.PoolRefusal.TheVariants as pool_refusals
use Rattle.vk_fields.specs.declared.process.PoolFields.{PoolFields}
use Rattle.vk_fields.specs.declared.process.ProcessFields.{ProcessFields}
use Rattle.vk_fields.specs.declared.process.SettingsFields.{SettingsFields}
use Rattle.vk_fields.specs.Processes.{pools_refusal, specs_in, times_in, with_pools}
use Rattle.vk_host.specs.Standing.{StandsAt}
use Rattle.vk_host.specs.Values.{StationValue}
use Rattle.vk_c.specs.declared.opening.Trouble.{Trouble}
use Rattle.vk_c.specs.declared.opening.Trouble.TheVariants as troubles
use Rattle.vk_c.specs.declared.status.TheConstants as status

-- The settings of these fields, where each process has a pid.
abbrev pub first_config : SettingsFields → List ProcessSpec → Settings
first_config f specs = uniform (times_in f) f.pool specs

abbrev pub config_of : SettingsFields → List PoolFields → List ProcessSpec → Settings
config_of f pools specs = with_pools (first_config f specs) pools

abbrev pub config_in : SettingsFields → List ProcessFields → List PoolFields → Option Settings
config_in f processes pools = option_map (config_of f pools) (specs_in processes)

-- The station is the one of this host before its first event, of these settings.
pub record IsOpened (f : SettingsFields) (processes : List ProcessFields) (pools : List PoolFields) (host : ℕ) (s : StationValue) : Type 0 where
  pub config : Settings
  pub named : config_in f processes pools ≡ Some config
  pub stands : StandsAt config [] s
  pub number : s.host ≡ host

abbrev pub HasOpened : SettingsFields → List ProcessFields → List PoolFields → ℕ → Option StationValue → Type 0
HasOpened f processes pools host None = ⊥
HasOpened f processes pools host (Some s) = IsOpened f processes pools host s

-- The number of each cause.
abbrev pub config_status : ConfigRefusal → ℕ
config_status refusals.BadTimes = status.BAD_TIMES
config_status refusals.BadPool = status.BAD_POOL
config_status (refusals.NotRising index) = status.NOT_RISING
config_status (refusals.BadSize index) = status.BAD_SIZE
config_status (refusals.TooMany index) = status.TOO_MANY
config_status refusals.NoMemory = status.NO_MEMORY

abbrev pub pool_status : PoolRefusal → ℕ
pool_status pool_refusals.NoStation = status.NO_SUCH_STATION
pool_status pool_refusals.BadPool = status.BAD_POOL

abbrev pub status_of : Trouble → ℕ
status_of troubles.BadHost = status.BAD_HOST
status_of troubles.BadPid = status.BAD_PID
status_of troubles.NoMemory = status.NO_MEMORY
status_of (troubles.Config why) = config_status why
status_of (troubles.Pool why) = pool_status why

-- What an opening is answered, by the first of these that holds: the host is none; a process has no pid; the settings are refused; a pool
-- is refused.
abbrev pub pools_status : Option PoolRefusal → ℕ
pools_status None = status.OK
pools_status (Some why) = pool_status why

abbrev pub settings_status : Option ConfigRefusal → ℕ → ℕ
settings_status None pools = pools
settings_status (Some why) pools = config_status why

abbrev pub named_status : SettingsFields → List PoolFields → Option (List ProcessSpec) → ℕ
named_status f pools None = status.BAD_PID
named_status f pools (Some specs) = settings_status (refusal_of (times_in f) f.pool specs) (pools_status (pools_refusal (first_config f specs) pools))

abbrev pub is_no_station : ℕ → Bool
is_no_station host = host == 0 || nat_le EVERY_STATION host

abbrev pub open_status : SettingsFields → List ProcessFields → List PoolFields → ℕ → ℕ
open_status f processes pools host = if is_no_station host then status.BAD_HOST else named_status f pools (specs_in processes)

-- The same, or that memory is wanting; and where there is a station already, that alone.
abbrev pub IsOpenStatus : Option StationValue → SettingsFields → List ProcessFields → List PoolFields → ℕ → ℕ → Type 0
IsOpenStatus None f processes pools host n = (n ≡ open_status f processes pools host) ⊎ (n ≡ status.NO_MEMORY)
IsOpenStatus (Some s) f processes pools host n = n ≡ status.HELD

abbrev pub close_status : Option StationValue → ℕ
close_status None = status.NO_STATION
close_status (Some s) = status.OK
