-- The loader: it opens a file by its name, loads it whole to the beginning of its memory, and looks at the last bytes.
use Rattle.std.specs.Prelude.{◌≡◌, ℕ, ◌+◌, ◌-◌, min, nat_lt, List, [], ◌∷◌, length, replicate, if◌then◌else◌}
use Rattle.vk_types.specs.Types.{Answer, Call, Pid}
use Rattle.vk_base.specs.declared.call.Call.TheVariants as calls
use Rattle.vk_files.specs.Messages.{load_of, open_of}
use Rattle.vk_files.specs.declared.limits.TheConstants.{FILE_BYTES}

-- the name of a file of this number, at most 15: an f, and the number in decimal, with zeros behind them
abbrev pub loader_name : ℕ → List ℕ
loader_name file =
    if nat_lt file 10 then 102 ∷ (48 + file) ∷ replicate 18 0 else 102 ∷ 49 ∷ (48 + (file - 10)) ∷ replicate 17 0

-- its calls, whatever the answers are
abbrev pub loader_calls : Pid → ℕ → List Call
loader_calls server file =
    calls.Send server (open_of (loader_name file))
    ∷ calls.Send server (load_of file 0 FILE_BYTES)
    ∷ calls.Load 64512 1024
    ∷ []

-- so many of its calls were answered, or all
abbrev pub IsLoaderAfter : ℕ → List Answer → Type 0
IsLoaderAfter at answers = at ≡ min (length answers) 3
