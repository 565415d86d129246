-- The numbers of a generator.
use Rattle.std.specs.Prelude.{ℕ, ◌+◌, ◌*◌, ◌/◌, ◌%◌, ◌^◌}

-- the state behind this one
unfoldable pub next : ℕ → ℕ
next x = (x * 6364136223846793005 + 1442695040888963407) % 2 ^ 64

-- what a draw gives that comes to this state
abbrev pub drawn : ℕ → ℕ
drawn x = x / 2 ^ 33
