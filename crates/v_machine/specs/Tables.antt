-- What a machine keeps, as contracts see it, and the kernel that its tables spell.
use Rattle.std.specs.Prelude.{ℕ, ◌==◌, Bool, List, [], ◌∷◌, ◌++◌, filter, slice_get, Option, Some}
use Rattle.vk_types.specs.Types.{Exchange, Lookup, Name, Pid, Process, Registration}
use Rattle.vk_base.specs.Kernel.{◌>>=◌, Kernel}
use Rattle.v_machine.specs.declared.tables.proc.Proc.{Proc}
use Rattle.vk_base.specs.Activities.{state_of}
use Rattle.v_machine.specs.Places.{place_in, at_place, count_at, numbered}

-- The value of a `Machine`, and of a `LeanMachine`. The second, third and fourth list have an entry for each process, in the
-- order of the first.
pub record Tables : Type 0 where
  -- the processes of the configuration
  pub pids : List Pid
  pub procs : List Proc
  -- their Sends; in a `LeanMachine` those that are over may stand there otherwise than they were
  pub sends : List (List Exchange)
  -- their lookups
  pub asked : List (List Lookup)
  -- what was registered, at all stations
  pub names : List Registration
  -- the names of what came to queues, in the order in which they came there last
  pub arrived : List Name
  -- how many bytes were noted for remote moves
  pub noted : ℕ

-- a process that has begun so many Sends and lookups
abbrev pub process_of : Proc → ℕ → ℕ → Process
process_of p sends lookups = record {
  alive = p.alive;
  memory = p.memory;
  state = state_of p.activity;
  sends = sends;
  lookups = lookups;
  moving = p.moving;
}

unfoldable pub procs_by : List Pid → List Proc → List (List Exchange) → List (List Lookup) → Pid → Option Process
procs_by pids procs sends asked = λ pid.
    place_in pids pid >>= λ at. slice_get procs at >>= λ p. Some (process_of p (count_at sends at) (count_at asked at))

-- exchange n of a sender is its Send n
unfoldable pub exchanges_by : List Pid → List (List Exchange) → Name → Option Exchange
exchanges_by pids sends = λ n. at_place pids sends n.sender >>= λ s. (numbered s n.number)

unfoldable pub lookups_by : List Pid → List (List Lookup) → Pid → ℕ → Option Lookup
lookups_by pids asked = λ asker number. at_place pids asked asker >>= λ a. numbered a number

-- a station has registered processes of its own
abbrev pub is_of : ℕ → Registration → Bool
is_of host r = r.pid.host == host

unfoldable pub names_by : List Registration → ℕ → List Registration
names_by names = λ host. filter (is_of host) names

abbrev pub kernel_by : List Pid → List Proc → List (List Exchange) → List (List Lookup) → List Registration → List Name → Kernel
kernel_by pids procs sends asked names arrived = record {
  procs = procs_by pids procs sends asked;
  exchanges = exchanges_by pids sends;
  arrived = arrived;
  names = names_by names;
  lookups = lookups_by pids asked;
}

-- the kernel that the tables spell
abbrev pub kernel_of : Tables → Kernel
kernel_of t = kernel_by t.pids t.procs t.sends t.asked t.names t.arrived

abbrev pub with_candidate : Pid → Lookup → Lookup
with_candidate pid l = record l { candidates = l.candidates ++ pid ∷ [] }
