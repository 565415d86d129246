-- The places of processes in lists. Tables.antt rests on `place_in`, `at_place`, `count_at` and `numbered`; the rest is internal.
use Rattle.std.specs.Prelude.{ℕ, zero, suc, ◌≡◌, ◌+◌, ◌*◌, ◌%◌, List, [], length, position, find, slice_get, Option, None, option_map, unwrap_or}
use Rattle.vk_types.specs.Types.{Pid, ProcessSpec}
use Rattle.vk_base.specs.Options.{◌>>=◌}
use Rattle.vk_base.specs.Pids.{same_pid}
use Rattle.v_machine.specs.declared.tables.groups.Placed.{Placed}
use Rattle.v_machine.specs.declared.tables.places.TheConstants.{GROUPS}

abbrev pub pid_of : ProcessSpec → Pid
pid_of s = s.pid

-- the first place at which the process stands
unfoldable pub place_in : List Pid → Pid → Option ℕ
place_in pids pid = position (λ q. same_pid q pid) pids

-- the place that a group has for a process
unfoldable pub found_in : List Placed → Pid → Option ℕ
found_in group pid = option_map (λ (p : Placed). p.at) (find (λ (p : Placed). same_pid p.pid pid) group)

-- the group of a process
abbrev pub group_of : Pid → ℕ
group_of pid = (pid.host * 32 + pid.local) % GROUPS

-- each process has its place in its group
abbrev pub AreGrouped : List Pid → List (List Placed) → Type 0
AreGrouped pids groups = (pid : Pid) → found_in (unwrap_or (slice_get groups (group_of pid)) []) pid ≡ place_in pids pid

-- what a list has at the place of a process
unfoldable pub at_place : {X : Type 0} → List Pid → List X → Pid → Option X
at_place pids xs pid = place_in pids pid >>= slice_get xs

-- a list of lists has nothing for a process that has no place
abbrev pub list_at : {X : Type 0} → List Pid → List (List X) → Pid → List X
list_at pids xss pid = unwrap_or (at_place pids xss pid) []

-- how many elements the list of this place has
abbrev pub count_at : {X : Type 0} → List (List X) → ℕ → ℕ
count_at xss at = length (unwrap_or (slice_get xss at) [])

-- an element by its number, from 1
abbrev pub numbered : {X : Type 0} → List X → ℕ → Option X
numbered xs zero = None
numbered xs (suc n) = slice_get xs n

-- the place of an element of this number; no list has one for the number 0
abbrev pub index_of : ℕ → ℕ
index_of zero = 18446744073709551615
index_of (suc n) = n
