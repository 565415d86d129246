-- When the tables of a station stand for a reading of its entries.
use Rattle.std.specs.Prelude.{ℕ, ◌≡◌, ◌⊎◌, ◌+◌, ◌≤◌, true, false, [], length, map, Some, option_map, if◌then◌else◌}
use Rattle.std.specs.List.{position}
use Rattle.vk_types.specs.Types.{Direction, Exchange, Lookup, Message, Move, MoveName, Name, Pid, Process, Times, Waiting}
use Rattle.vk_base.specs.declared.activity.Activity.TheVariants as activities
use Rattle.vk_base.specs.declared.activity.Waiting.TheVariants as waitings
use Rattle.vk_base.specs.declared.kernel.Direction.TheVariants as directions
use Rattle.vk_base.specs.declared.kernel.Stage.TheVariants as stages
use Rattle.vk_base.specs.declared.kernel.State.TheVariants as states
use Rattle.vk_base.specs.Counts.{sends_of}
use Rattle.vk_base.specs.Kernel.{Kernel, is_at_target, is_live, move_of, name_of, queue_of}
use Rattle.vk_base.specs.Pids.{same_host}
use Rattle.v_laws.specs.Sound.{IsSoundAt}
use Rattle.vk_pool.specs.declared.alien.Alien.{Alien}
use Rattle.vk_pool.specs.declared.alien.AlienStage.TheVariants as alien_stages
use Rattle.vk_pool.specs.Aliens.{alien_from}
use Rattle.vk_procs.specs.declared.seat.Seat.{Seat}
use Rattle.vk_procs.specs.Seats.{is_seat, process_of, seat_in}
use Rattle.vk_rules.specs.Readings.{Reading}
use Rattle.vk_rules.specs.Works.{Work}
use Rattle.vk_stands.specs.Tables.{Tables, alien_name, alien_spot, is_work, names_at, read_alien, seat_spot, spot_of, stage_of}

-- An alien's exchange is what the slot keeps of it. Its sender is known to have made that Send.
pub record IsAlienKept (k : Kernel) (a : Alien) : Type 0 where
  pub exchange : Exchange
  pub is : k.exchanges (alien_name a) ≡ Some exchange
  pub target : exchange.target ≡ a.target
  pub message : exchange.message ≡ a.message
  pub part : exchange.part ≡ a.part
  pub spot : spot_of exchange ≡ alien_spot a
  pub stage : exchange.stage ≡ stage_of a
  pub moves : length exchange.moves ≡ a.moves
  pub made : a.number ≤ sends_of (k.procs a.sender)
  -- where one is refused the process that has it is not alive
  pub refused : (closed : ℕ) → a.stage ≡ alien_stages.Refused closed → is_live (k.procs a.at) ≡ false

-- The exchange of a process that waits in a Send. A local one is queued or taken; of a remote one the open move is noted.
pub record IsSending (k : Kernel) (s : Seat) (target : Pid) (m : Message) : Type 0 where
  pub exchange : Exchange
  pub is : k.exchanges (name_of s.pid s.note.sends) ≡ Some exchange
  pub target_is : exchange.target ≡ target
  pub message_is : exchange.message ≡ m
  pub part_is : exchange.part ≡ s.part.bytes
  pub spot_is : spot_of exchange ≡ seat_spot s
  pub stage_is : same_host s.pid target ≡ true → exchange.stage ≡ (if s.note.taken then stages.Taken else stages.Queued)
  pub opened : exchange.opened ≡ s.note.opened
  pub done : exchange.done ≡ s.note.done

-- Who sent what waits here or was taken: a process that is blocked in that Send, or an alien.
pub record IsSender (n : Name) (e : Exchange) (s : Seat) : Type 0 where
  pub waits : s.doing ≡ activities.Blocked (waitings.Send e.target e.message)
  pub last : s.note.sends ≡ n.number

abbrev pub IsHome : ℕ → Tables → Name → Exchange → Type 0
IsHome host t n e =
    ((n.sender.host ≡ host) × ((s : Seat) × (seat_in t.seats n.sender ≡ Some s) × IsSender n e s))
    ⊎ ((a : Alien) × (alien_from t.slots n.sender ≡ Some a) × (a.number ≡ n.number))

-- The remote move in which a process waits: it is of a Send that came, and where that Send has a move of this process under
-- the number, it is the one that the process began.
pub record IsOwnMove (direction : Direction) (dest count : ℕ) (m : Move) : Type 0 where
  pub direction_is : m.direction ≡ direction
  pub dest_is : m.dest ≡ dest
  pub count_is : m.count ≡ count

pub record IsMoving (k : Kernel) (s : Seat) (partner : Pid) (direction : Direction) (dest count : ℕ) : Type 0 where
  pub name : MoveName
  pub noted : s.note.moving ≡ Some name
  pub partner_is : name.exchange.sender ≡ partner
  pub exchange : Exchange
  pub is : k.exchanges name.exchange ≡ Some exchange
  pub own : (m : Move) → move_of exchange name.number ≡ Some m → m.mover ≡ s.pid → IsOwnMove direction dest count m

-- The lookup in which a process waits.
pub record IsAsking (k : Kernel) (s : Seat) (logical : ℕ) : Type 0 where
  pub lookup : Lookup
  pub is : k.lookups s.pid s.note.lookups ≡ Some lookup
  pub logical_is : lookup.logical ≡ logical

-- What the view has of what a process waits in.
abbrev pub IsWaiting : Kernel → Seat → Waiting → Type 0
IsWaiting k s (waitings.Send target m) = IsSending k s target m
IsWaiting k s (waitings.MoveTo partner dest src count) = IsMoving k s partner directions.To dest count
IsWaiting k s (waitings.MoveFrom partner dest src count) = IsMoving k s partner directions.From dest count
IsWaiting k s (waitings.GetPid logical scope) = IsAsking k s logical
IsWaiting k s w = Unit {0}

-- A work's counter and deadline, and how far a move is.
abbrev pub IsFar : Seat → Work → Waiting → Type 0
IsFar s w (waitings.MoveTo partner dest src count) = s.note.offset ≡ w.acknowledged
IsFar s w (waitings.MoveFrom partner dest src count) = (s.note.offset ≡ w.received) × (s.note.fresh ≡ w.fresh)
IsFar s w waiting = Unit {0}

pub record IsWorking (t : Times) (s : Seat) (w : Work) (waiting : Waiting) : Type 0 where
  pub tries : s.note.work.tries ≡ w.rounds
  pub deadline : s.note.work.deadline ≡ w.since + t.interval
  pub far : IsFar s w waiting

-- the numbers that a process counts are at most the events of its station
pub record IsCounted (events : ℕ) (s : Seat) : Type 0 where
  pub sends : s.note.sends ≤ events
  pub lookups : s.note.lookups ≤ events

-- the view has no names of other stations: a station hears of each process alone, where it asks
abbrev pub HasOwnNames : ℕ → Kernel → Type 0
HasOwnNames host k = (g : ℕ) → (g ≡ host → ⊥) → k.names g ≡ []

pub record Stands (times : Times) (host : ℕ) (t : Tables) (r : Reading) : Type 0 where
  pub procs : (pid : Pid) → pid.host ≡ host → r.view.procs pid ≡ option_map process_of (seat_in t.seats pid)
  -- What holds of the view of a station, whatever frames it took: no Send is beyond its sender's number, and what has arrived came
  -- once. That earlier Sends of a sender are settled is not of it: a forged Send may come behind a later one.
  pub sound : IsSoundAt (λ g. false) r.view
  -- no frame tells that a process of another station waits
  pub elsewhere : (pid : Pid) (p : Process) → (pid.host ≡ host → ⊥) → r.view.procs pid ≡ Some p → p.state ≡ states.Ready
  pub names : r.view.names host ≡ t.names
  pub unknown : HasOwnNames host r.view
  pub slots : r.slots ≡ map (option_map read_alien) t.slots
  pub kept : (sender : Pid) (a : Alien) → alien_from t.slots sender ≡ Some a → IsAlienKept r.view a
  pub waiting : (pid : Pid) (s : Seat) (w : Waiting) → seat_in t.seats pid ≡ Some s → s.doing ≡ activities.Blocked w → IsWaiting r.view s w
  pub works : (pid : Pid) (s : Seat) (w : Waiting) → seat_in t.seats pid ≡ Some s → s.doing ≡ activities.Blocked w →
      is_work pid w ≡ true → IsWorking times s (r.work pid) w
  pub home : (n : Name) (e : Exchange) → r.view.exchanges n ≡ Some e → e.target.host ≡ host → is_at_target e.stage ≡ true →
      IsHome host t n e
  pub queues : (pid : Pid) (at : ℕ) → position (is_seat pid) t.seats ≡ Some at → map Some (queue_of r.view pid) ≡ names_at t at
  pub counted : (pid : Pid) (s : Seat) → seat_in t.seats pid ≡ Some s → IsCounted r.events s
  pub moved : (sender : Pid) (a : Alien) → alien_from t.slots sender ≡ Some a → a.moves ≤ r.events
