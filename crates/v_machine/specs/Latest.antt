-- Internal: no public contract rests on this file. For each host a number, 0 where none is kept.
use Rattle.std.specs.Prelude.{ℕ, ◌==◌, Bool, List, find, option_map, unwrap_or}
use Rattle.v_machine.specs.declared.tables.latest.Latest.{Latest}

abbrev pub is_for : ℕ → Latest → Bool
is_for host l = l.host == host

-- the number that is kept for the host
unfoldable pub latest_in : List Latest → ℕ → ℕ
latest_in ls host = unwrap_or (option_map (λ (l : Latest). l.number) (find (is_for host) ls)) 0
