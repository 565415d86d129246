-- Stations of a configuration that has processes.
use Rattle.std.proofs.Common.{◌≡◌, ℕ, ◌<◌, ◌==◌, true, refl, List, [], ◌∷◌, length, arith, ◌∙◌}
use Rattle.std.specs.List.{list_any}
use Rattle.std.proofs.lemmas.Bool.{eq-eqb}
use Rattle.vk_types.specs.Types.{ProcessSpec}
use Rattle.vk_base.specs.Settings.{has_station, stations_of}
use Rattle.vk_base.proofs.SettingsLemmas.{among_stations}

some_host : (hosts : List ℕ) (q : ℕ) → list_any (λ h. h == q) hosts ≡ true → 0 < length hosts
some_host [] q h = cc
some_host (x ∷ xs) q h = omega arith

own_host : (s : ProcessSpec) (ss : List ProcessSpec) → has_station (s ∷ ss) s.pid.host ≡ true
own_host s ss = rw (eq-eqb s.pid.host s.pid.host refl) refl

pub some_station : (specs : List ProcessSpec) → 0 < length specs → 0 < length (stations_of specs)
some_station [] some = absurd (omega arith)
some_station (s ∷ ss) some = some_host (stations_of (s ∷ ss)) s.pid.host (among_stations (s ∷ ss) s.pid.host ∙ own_host s ss)
