-- Of the code alone, no law rests on it: what the names of a station keep to.
use Rattle.std.specs.Prelude.{ℕ, Bool, ◌==◌}
use Rattle.vk_types.specs.Types.{Registration}

-- both stand under one logical id
abbrev pub same_id : Registration → Registration → Bool
same_id a b = a.logical == b.logical

-- it stands under this logical id
abbrev pub is_under : ℕ → Registration → Bool
is_under logical r = r.logical == logical
