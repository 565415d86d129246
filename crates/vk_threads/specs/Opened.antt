-- Cells of stations that were opened, and their seats.
use Rattle.std.specs.Prelude.{ℕ, ◌≡◌, ◌+◌, ◌==◌, ◌++◌, List, [], ◌∷◌, cond, length}
use Rattle.vk_types.specs.Types.{StationEvent}
use Rattle.turn_cell.specs.Seats.{Cell, Sitting, fresh}
use Rattle.vk_base.specs.Settings.{Settings}
use Rattle.vk_port.specs.Stations.{StationHistory}
use Rattle.vk_rules.specs.Each.{Each}
use Rattle.v_run.specs.Passages.{fresh_station}
use Rattle.vk_threads.specs.declared.opening.Site.{Site}
use Rattle.vk_threads.specs.declared.opening.Spare.{Spare}

-- how often the number stands among these
abbrev pub count_of : ℕ → List ℕ → ℕ
count_of h [] = 0
count_of h (x ∷ xs) = cond (x == h) 1 0 + count_of h xs

abbrev pub spare_at : ℕ → Sitting StationHistory StationEvent → Spare
spare_at h seat = record { host = h; seat = seat }

-- a seat of the cell, just made
pub record IsFresh (cell : Cell StationHistory) (host : ℕ) (s : Spare) : Type 0 where
  pub at : s.host ≡ host
  pub number : ℕ
  pub seat : s.seat ≡ fresh cell number

-- The cell of the station was made with so many seats, and these are they.
pub record IsOpened (c : Settings) (host count : ℕ) (cell : Cell StationHistory) (own : List Spare) : Type 0 where
  pub origin : cell.origin ≡ fresh_station c host
  pub seats : cell.seats ≡ count
  pub each : Each (IsFresh cell host) own
  pub all : length own ≡ count

-- they were added to the spares
abbrev pub HasOpened : Settings → ℕ → ℕ → Cell StationHistory → List Spare → List Spare → Type 0
HasOpened c host count cell before after = (own : List Spare) × IsOpened c host count cell own × (after ≡ before ++ own)

-- Each station has its cell, with as many seats as the station stands among the hosts; and these are the spares.
abbrev pub AreOpened : Settings → List ℕ → List ℕ → List Site → List Spare → Type 0
AreOpened c hosts [] [] spares = spares ≡ []
AreOpened c hosts (h ∷ hs) (s ∷ ss) spares =
    (own rest : List Spare) × (s.host ≡ h) × IsOpened c h (count_of h hosts) s.cell own × (spares ≡ own ++ rest)
    × AreOpened c hosts hs ss rest
AreOpened c hosts hs ss spares = ⊥
