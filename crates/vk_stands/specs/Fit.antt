-- When the tables of a station fit each other: what each rule asks of them, and keeps.
use Rattle.std.specs.Prelude.{ℕ, ◌≡◌, ◌≤◌, ◌<◌, Bool, true, false, ◌&&◌, not, nat_lt, nat_le, length, slice_get, Some}
use Rattle.std.specs.List.{position}
use Rattle.vk_types.specs.Types.{Message, MoveName, Pid, Scope, Waiting}
use Rattle.vk_base.specs.declared.activity.Activity.TheVariants as activities
use Rattle.vk_base.specs.declared.activity.Waiting.TheVariants as waitings
use Rattle.vk_base.specs.declared.limits.TheConstants.{MOVE_BYTES, POOL, SEGMENT_BYTES, STATION_PROCESSES}
use Rattle.vk_base.specs.Kernel.{holds_of}
use Rattle.vk_base.specs.Messages.{segment_of}
use Rattle.vk_base.specs.Pids.{same_host, same_pid}
use Rattle.vk_base.specs.Ranges.{range_of, lies_in}
use Rattle.vk_packet.specs.Rules.{is_lawful, is_number, is_place, part_len}
use Rattle.vk_pool.specs.declared.alien.Alien.{Alien}
use Rattle.vk_pool.specs.Aliens.{alien_at, is_alien_from}
use Rattle.vk_procs.specs.declared.seat.ProcNote.{ProcNote}
use Rattle.vk_procs.specs.declared.seat.Seat.{Seat}
use Rattle.vk_procs.specs.Seats.{is_seat}
use Rattle.vk_stands.specs.Tables.{Tables, told}

-- what a process waits in keeps to its limits: ranges lie in its memory, and a move is of at most 65,536 bytes with a partner
-- of another station
abbrev pub is_remote_move : Pid → Pid → ℕ → Bool
is_remote_move pid partner count = not (same_host pid partner) && nat_lt 0 count && nat_le count MOVE_BYTES

abbrev pub may_wait : Pid → ℕ → Waiting → Bool
may_wait pid size (waitings.Send target m) = lies_in (segment_of m) size
may_wait pid size waitings.Receive = true
may_wait pid size (waitings.ReceiveSegment start count) = lies_in (range_of start count) size
may_wait pid size (waitings.MoveTo partner dest src count) = is_remote_move pid partner count && lies_in (range_of src count) size
may_wait pid size (waitings.MoveFrom partner dest src count) = is_remote_move pid partner count && lies_in (range_of dest count) size
may_wait pid size (waitings.GetPid logical scope) = true

-- a move that goes on is one of its partner's Sends, and so far as a packet of it may start
abbrev pub is_move_of : Pid → MoveName → Bool
is_move_of partner m = same_pid m.exchange.sender partner && is_number m.exchange.number && is_number m.number

abbrev pub is_under_way : Pid → ℕ → ProcNote → Bool
is_under_way partner count note = holds_of (is_move_of partner) note.moving && is_place count note.offset

abbrev pub may_go_on : ProcNote → Waiting → Bool
may_go_on note (waitings.MoveTo partner dest src count) = is_under_way partner count note
may_go_on note (waitings.MoveFrom partner dest src count) = is_under_way partner count note
may_go_on note w = true

-- One process of the station.
pub record IsFitSeat (host : ℕ) (s : Seat) : Type 0 where
  pub own : s.pid.host ≡ host
  pub waits : (w : Waiting) → s.doing ≡ activities.Blocked w → may_wait s.pid (length s.memory) w ≡ true
  pub moves : (w : Waiting) → s.doing ≡ activities.Blocked w → may_go_on s.note w ≡ true
  pub done : s.note.done ≤ MOVE_BYTES
  -- its first part is that of the Send in which it waits
  pub part : (target : Pid) (m : Message) → s.doing ≡ activities.Blocked (waitings.Send target m) → length s.part.bytes ≡ part_len m
  pub few : length s.part.bytes ≤ SEGMENT_BYTES
  -- of what it sent to another station, no frame tells that it was handed on
  pub away : (target : Pid) (m : Message) → s.doing ≡ activities.Blocked (waitings.Send target m) → same_host s.pid target ≡ false →
      s.at ≡ target
  pub begun : (target : Pid) (m : Message) → s.doing ≡ activities.Blocked (waitings.Send target m) → 0 < s.note.sends
  pub asked : (logical : ℕ) (scope : Scope) → s.doing ≡ activities.Blocked (waitings.GetPid logical scope) → 0 < s.note.lookups

-- One alien: it is of another station, its target of this one, and what its sender is told is lawful.
pub record IsFitAlien (host : ℕ) (a : Alien) : Type 0 where
  pub foreign : a.sender.host ≡ host → ⊥
  pub here : a.target.host ≡ host
  pub number : is_number a.number ≡ true
  pub told : is_lawful (told a) ≡ true
  pub part : length a.part ≤ SEGMENT_BYTES

pub record AreFit (host : ℕ) (t : Tables) : Type 0 where
  pub few : length t.seats ≤ STATION_PROCESSES
  pub lists : length t.lists ≡ STATION_PROCESSES
  pub pool : length t.slots ≤ POOL
  -- each process has one place
  pub places : (i : ℕ) (s : Seat) → slice_get t.seats i ≡ Some s → position (is_seat s.pid) t.seats ≡ Some i
  pub seats : (i : ℕ) (s : Seat) → slice_get t.seats i ≡ Some s → IsFitSeat host s
  -- each sender has one alien
  pub apart : (i : ℕ) (a : Alien) → alien_at t.slots i ≡ Some a → position (is_alien_from a.sender) t.slots ≡ Some i
  pub aliens : (i : ℕ) (a : Alien) → alien_at t.slots i ≡ Some a → IsFitAlien host a
