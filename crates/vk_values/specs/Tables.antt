-- What is kept: under each key the value that was put last, as a list of entries.
use Rattle.std.specs.Prelude.{ℕ, Bool, true, ◌==◌, ◌||◌, nat_lt, is_some, List, [], ◌∷◌, ◌++◌, length, find, position, slice_set, Option, Some, None, option_map, if◌then◌else◌}
use Rattle.vk_values.specs.declared.entry.Entry.{Entry}
use Rattle.vk_values.specs.declared.limits.TheConstants.{KEYS}

abbrev pub is_under : ℕ → Entry → Bool
is_under key e = e.key == key

abbrev pub value_of : List Entry → ℕ → Option ℕ
value_of entries key = option_map (λ (e : Entry). e.value) (find (is_under key) entries)

-- with an entry where its key stands, else behind all others, unless these are as many as can be
abbrev pub put_at : Option ℕ → List Entry → Entry → List Entry
put_at (Some place) entries e = slice_set entries place e
put_at None entries e = if nat_lt (length entries) KEYS then entries ++ e ∷ [] else entries

abbrev pub with_value : List Entry → ℕ → ℕ → List Entry
with_value entries key value = put_at (position (is_under key) entries) entries (record { key = key; value = value })

-- a value can be put under this key
abbrev pub has_room : List Entry → ℕ → Bool
has_room entries key = is_some (position (is_under key) entries) || nat_lt (length entries) KEYS
