-- That tables fit each other is kept.
use Rattle.std.specs.Prelude.{ℕ, List}
use Rattle.vk_procs.specs.declared.seat.Seat.{Seat}
use Rattle.vk_stands.specs.Fit.{AreFit}
use Rattle.vk_stands.specs.Tables.{Tables}

-- tables that fit with those processes fit with these
abbrev pub KeepsFit : List Seat → List Seat → Type 0
KeepsFit old new = (host : ℕ) (t : Tables) → AreFit host (record t { seats = old }) → AreFit host (record t { seats = new })
