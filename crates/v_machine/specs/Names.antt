-- Internal: no public contract rests on this file. What all stations have registered, in one list.
use Rattle.std.specs.Prelude.{ℕ, ◌==◌, Bool, ◌&&◌, not, List, [], ◌∷◌, ◌++◌, filter}
use Rattle.vk_types.specs.Types.{Pid, Registration}
use Rattle.vk_base.specs.Kernel.{is_found_here, is_found_there}
use Rattle.vk_base.specs.Pids.{same_pid}
use Rattle.v_machine.specs.Tables.{is_of}

-- the host's station has registered this under another logical id
abbrev pub is_other : ℕ → ℕ → Registration → Bool
is_other host logical r = is_of host r && not (r.logical == logical)

-- the host's station has registered this under the logical id
abbrev pub is_older : ℕ → ℕ → Registration → Bool
is_older host logical r = is_of host r && r.logical == logical

-- the list with one more, which replaces what its station has registered under its logical id
abbrev pub with_registered : List Registration → Registration → List Registration
with_registered names r = filter (λ x. not (is_older r.pid.host r.logical x)) names ++ r ∷ []

-- the host's station finds this under the logical id
abbrev pub answers_here : ℕ → ℕ → Registration → Bool
answers_here host logical r = is_of host r && (r.logical == logical && is_found_here r.scope)

-- a station tells others that it has registered the process under the logical id
abbrev pub tells_of : ℕ → Pid → Registration → Bool
tells_of logical pid r = r.logical == logical && is_found_there r.scope && same_pid r.pid pid
