-- Internal: no public contract rests on this file. What holds of the tables of a machine, and of the indexes beside them.
use Rattle.std.specs.Prelude.{ℕ, ◌≡◌, ◌≤◌, ◌<◌, Bool, true, List, length, filter, Option, Some, IsSome}
use Rattle.std.specs.List.{list_any}
use Rattle.vk_types.specs.Types.{Exchange, Name, Pid, Stage}
use Rattle.vk_base.specs.Kernel.{Kernel, same_name, holds_of, is_queued_at, is_queued, is_at_target, is_posted}
use Rattle.v_laws.specs.Sizes.{IsSized}
use Rattle.v_laws.specs.Sound.{IsSound}
use Rattle.v_machine.specs.declared.tables.latest.Latest.{Latest}
use Rattle.v_machine.specs.declared.tables.Store.{Store}
use Rattle.v_machine.specs.Latest.{latest_in}
use Rattle.v_machine.specs.Places.{place_in, list_at}
use Rattle.v_machine.specs.Tables.{Tables, kernel_by, exchanges_by}

-- the kernel that the tables of a store spell
abbrev pub kernel_in : Store → Kernel
kernel_in s = kernel_by s.places s.procs.items s.sends.items s.asked.items s.names.items s.arrived

abbrev pub tables_in : Store → ℕ → Tables
tables_in s noted = record {
  pids = s.places;
  procs = s.procs.items;
  sends = s.sends.items;
  asked = s.asked.items;
  names = s.names.items;
  arrived = s.arrived;
  noted = noted;
}

-- whether the exchange of this name is queued at the process
abbrev pub queued_at : (Name → Option Exchange) → Pid → Name → Bool
queued_at exchanges r n = holds_of (is_queued_at r) (exchanges n)

-- The queue of r is, of these names, those that are queued at it; and each of them has arrived.
pub record IsWaiting (exchanges : Name → Option Exchange) (arrived : List Name) (r : Pid) (names : List Name) : Type 0 where
  pub queue : filter (queued_at exchanges r) names ≡ filter (queued_at exchanges r) arrived
  pub came : (n : Name) → list_any (same_name n) names ≡ true → list_any (same_name n) arrived ≡ true

-- of all exchanges of the sender to the target's host only the latest that came to a queue can be open
pub record IsLatest (latest : ℕ) (n : Name) (e : Exchange) : Type 0 where
  pub live : is_at_target e.stage ≡ true → n.number ≡ latest
  pub posted : is_posted e.stage ≡ true → latest ≤ n.number

abbrev pub latest_by : List Pid → List (List Latest) → Pid → ℕ → ℕ
latest_by pids latest sender host = latest_in (list_at pids latest sender) host

-- each list has an entry for each process, and the indexes fit the tables
pub record IsIndexed (s : Store) : Type 0 where
  pub procs : length s.procs.items ≡ length s.places
  pub sends : length s.sends.items ≡ length s.places
  pub asked : length s.asked.items ≡ length s.places
  pub queues : length s.queues.items ≡ length s.places
  pub latest : length s.latest.items ≡ length s.places
  pub waiting : (r : Pid) → IsSome (place_in s.places r) →
      IsWaiting (exchanges_by s.places s.sends.items) s.arrived r (list_at s.places s.queues.items r)
  -- a Send that came to a queue was begun
  pub low : (sender : Pid) (host : ℕ) → latest_by s.places s.latest.items sender host ≤ length (list_at s.places s.sends.items sender)
  pub open_last : (n : Name) (e : Exchange) → exchanges_by s.places s.sends.items n ≡ Some e →
      IsLatest (latest_by s.places s.latest.items n.sender e.target.host) n e

-- what holds of a store between steps
pub record IsKept (s : Store) : Type 0 where
  pub indexed : IsIndexed s
  pub sound : IsSound (kernel_in s)
  pub size : Pid → ℕ
  pub sized : IsSized size (kernel_in s)

-- what was not queued, open or posted is not so later
pub record IsNoNearer (before after : Stage) : Type 0 where
  pub queued : is_queued after ≡ true → is_queued before ≡ true
  pub live : is_at_target after ≡ true → is_at_target before ≡ true
  pub posted : is_posted after ≡ true → is_posted before ≡ true

-- the place of a process, where each list has an entry
pub record IsAt (s : Store) (pid : Pid) (at : ℕ) : Type 0 where
  pub place : place_in s.places pid ≡ Some at
  pub procs : at < length s.procs.items
  pub sends : at < length s.sends.items
  pub asked : at < length s.asked.items
  pub queues : at < length s.queues.items
  pub latest : at < length s.latest.items
