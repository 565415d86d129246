-- What a call of a process promises that changes the processes of its station alone.
use Rattle.std.specs.Prelude.{ℕ, ◌≡◌, Bool, ◌&&◌, List, Option}
use Rattle.vk_types.specs.Types.{Call, Outcome, Pid, Registration, Step, Times}
use Rattle.vk_base.specs.declared.call.Call.TheVariants as calls
use Rattle.vk_base.specs.Activities.{state_of}
use Rattle.vk_base.specs.Kernel.{holds_of, is_ready}
use Rattle.vk_base.specs.Settings.{Settings}
use Rattle.vk_packet.specs.Posts.{Posts}
use Rattle.vk_pool.specs.declared.alien.Alien.{Alien}
use Rattle.vk_procs.specs.declared.seat.Seat.{Seat}
use Rattle.vk_procs.specs.Seats.{seat_in}
use Rattle.vk_rules.specs.Readings.{Reading}
use Rattle.vk_stands.specs.Fit.{AreFit}
use Rattle.vk_stands.specs.Rules.{IsCallRule, given_by}
use Rattle.vk_stands.specs.Stands.{Stands}
use Rattle.vk_stands.specs.Tables.{Tables}

-- the process is alive and ready
abbrev pub is_idle : Seat → Bool
is_idle s = s.alive && is_ready (state_of s.doing)

abbrev pub may_call : List Seat → Pid → Bool
may_call seats pid = holds_of is_idle (seat_in seats pid)

-- Whatever the other tables are that fit these processes: for every reading that the tables stand for the call is its right entry,
-- and they fit afterwards.
abbrev pub IsSeatsRule : Pid → Call → Option Outcome → (old new : List Seat) → (before after : List Step) → Type 0
IsSeatsRule pid call answer old new before after = (times : Times) (now : ℕ) (t : Tables) (out : Posts) →
    t.seats ≡ old → AreFit pid.host t →
    IsCallRule times pid.host now pid call (given_by answer)
    (record { tables = t; steps = before; out = out }) (record { tables = record t { seats = new }; steps = after; out = out })
    × ((c : Settings) (r : Reading) → Stands c.times pid.host t r → AreFit pid.host (record t { seats = new }))

-- The same of a call that changes processes, queues and aliens, whatever names there are.
abbrev pub named : List Registration → Tables → Tables
named names t = record t { names = names }

abbrev pub IsTablesRule : Pid → Call → Option Outcome → (old new : Tables) → (before after : List Step) → Type 0
IsTablesRule pid call answer old new before after = (times : Times) (now : ℕ) (names : List Registration) (out : Posts) →
    AreFit pid.host (named names old) →
    IsCallRule times pid.host now pid call (given_by answer) (record { tables = named names old; steps = before; out = out })
    (record { tables = named names new; steps = after; out = out })
    × ((c : Settings) (r : Reading) → Stands c.times pid.host (named names old) r → AreFit pid.host (named names new))

-- The same of an exit, which also forgets names and tells other stations.
abbrev pub whole_tables : List Seat → List (List ℕ) → List (Option Alien) → List Registration → Tables
whole_tables seats lists slots names = record { seats = seats; lists = lists; slots = slots; names = names }

abbrev pub IsExitRule : Pid → ℕ → Option Outcome → (old new : Tables) → (before after : List Step) → (sent out : Posts) → Type 0
IsExitRule pid now answer old new before after sent out = AreFit pid.host old →
    ((times : Times) → IsCallRule times pid.host now pid calls.Exit (given_by answer) (record { tables = old; steps = before; out = sent })
    (record { tables = new; steps = after; out = out }))
    × AreFit pid.host new
