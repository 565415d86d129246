-- Pools, tried on three stations: 2, 5 and 9, of which the first has two processes.
use Rattle.std.proofs.Common.{◌≡◌, [], ◌∷◌, Some, None, refl, lit<}
use Rattle.vk_base.specs.declared.config.PoolRefusal.TheVariants as pool_refusals
use Rattle.vk_base.specs.declared.config.ProcessSpec.{ProcessSpec}
use Rattle.vk_base.specs.declared.config.Times.{Times}
use Rattle.vk_base.specs.Settings.{Settings, pool_of, pool_refusal, uniform, with_pool, with_process}

abbrev first : ProcessSpec
first = record { pid = record { host = 2; local = 1; some_host = lit< tt; one_host = lit< tt; some_local = lit< tt }; size = 64 }

abbrev second : ProcessSpec
second = record { pid = record { host = 2; local = 3; some_host = lit< tt; one_host = lit< tt; some_local = lit< tt }; size = 0 }

abbrev third : ProcessSpec
third = record { pid = record { host = 5; local = 1; some_host = lit< tt; one_host = lit< tt; some_local = lit< tt }; size = 8 }

abbrev fourth : ProcessSpec
fourth = record { pid = record { host = 9; local = 1; some_host = lit< tt; one_host = lit< tt; some_local = lit< tt }; size = 8 }

abbrev times : Times
times = record { tries = 5; interval = 4; life = 8 }

abbrev all : Settings
all = uniform times 16 (first ∷ second ∷ third ∷ fourth ∷ [])

-- one pool for each station, in order
one_each : all.pools ≡ 16 ∷ 16 ∷ 16 ∷ []
one_each = refl

-- another pool of the second station
abbrev other : Settings
other = with_pool all 5 1

others : other.pools ≡ 16 ∷ 1 ∷ 16 ∷ []
others = refl

its_own : pool_of other 5 ≡ 1
its_own = refl

that_of_another : pool_of other 9 ≡ 16
that_of_another = refl

no_station : pool_of other 4 ≡ 0
no_station = refl

-- a pool of no station changes nothing
unchanged : with_pool all 4 1 ≡ all
unchanged = refl

last_counts : (with_pool other 5 64).pools ≡ 16 ∷ 64 ∷ 16 ∷ []
last_counts = refl

-- a station is told before a pool
refused_station : pool_refusal all 4 65 ≡ Some pool_refusals.NoStation
refused_station = refl

refused_low : pool_refusal all 5 0 ≡ Some pool_refusals.BadPool
refused_low = refl

refused_high : pool_refusal all 5 65 ≡ Some pool_refusals.BadPool
refused_high = refl

taken : pool_refusal all 5 64 ≡ None
taken = refl

-- a second process of a station brings no pool, the first of another does
grown : (with_process (with_process (with_process (uniform times 7 []) 7 first) 8 second) 9 third).pools ≡ 7 ∷ 9 ∷ []
grown = refl
