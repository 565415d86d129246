-- What the fields of times, processes and pools are.
use Rattle.std.specs.Prelude.{List, [], ◌∷◌, ◌++◌, Option, Some, None, option_map}
use Rattle.vk_base.specs.Pids.{pid_of_numbers}
use Rattle.vk_base.specs.Settings.{Settings, or_else, pool_refusal, with_pool}
use Rattle.vk_base.specs.declared.config.PoolRefusal.{PoolRefusal}
use Rattle.vk_base.specs.declared.config.ProcessSpec.{ProcessSpec}
use Rattle.vk_base.specs.declared.config.Times.{Times}
use Rattle.vk_base.specs.declared.pid.Pid.{Pid}
use Rattle.vk_fields.specs.declared.process.PoolFields.{PoolFields}
use Rattle.vk_fields.specs.declared.process.ProcessFields.{ProcessFields}
use Rattle.vk_fields.specs.declared.process.SettingsFields.{SettingsFields}

abbrev pub times_in : SettingsFields → Times
times_in f = record { tries = f.tries; interval = f.interval; life = f.life }

abbrev pub sized : ProcessFields → Pid → ProcessSpec
sized f pid = record { pid = pid; size = f.size }

-- the process, where its numbers are those of a pid
abbrev pub spec_in : ProcessFields → Option ProcessSpec
spec_in f = option_map (sized f) (pid_of_numbers f.host f.local)

abbrev pub and_specs : Option ProcessSpec → (ProcessSpec → Option (List ProcessSpec)) → Option (List ProcessSpec)
and_specs None more = None
and_specs (Some s) more = more s

-- these processes and those of the fields, where each has a pid
abbrev pub specs_behind : List ProcessSpec → List ProcessFields → Option (List ProcessSpec)
specs_behind before [] = Some before
specs_behind before (f ∷ fs) = and_specs (spec_in f) (λ s. specs_behind (before ++ s ∷ []) fs)

abbrev pub specs_in : List ProcessFields → Option (List ProcessSpec)
specs_in fs = specs_behind [] fs

-- the settings with these pools, each put in its turn
abbrev pub with_pools : Settings → List PoolFields → Settings
with_pools c [] = c
with_pools c (p ∷ ps) = with_pools (with_pool c p.host p.slots) ps

-- why the first pool that a station can't have is refused
abbrev pub pools_refusal : Settings → List PoolFields → Option PoolRefusal
pools_refusal c [] = None
pools_refusal c (p ∷ ps) = or_else (pool_refusal c p.host p.slots) (pools_refusal (with_pool c p.host p.slots) ps)
