-- A move that is begun, by the tables.
use Rattle.std.specs.Prelude.{ℕ, ◌≡◌, ◌<◌, ◌+◌, Bool, true, false, ◌==◌, ◌&&◌, not, nat_lt, List, [], ◌∷◌, ◌++◌, length, Option, Some, None, option_map, if◌then◌else◌}
use Rattle.std.specs.List.{position}
use Rattle.std.specs.Option.{option_map_or}
use Rattle.vk_types.specs.Types.{Call, Direction, Message, MoveName, Outcome, Pid, Step, Times, Waiting}
use Rattle.vk_base.specs.declared.activity.Activity.TheVariants as activities
use Rattle.vk_base.specs.declared.activity.Outcome.TheVariants as outcomes
use Rattle.vk_base.specs.declared.activity.Waiting.TheVariants as waitings
use Rattle.vk_base.specs.declared.answer.Refusal.TheVariants as refusals
use Rattle.vk_base.specs.declared.call.Call.TheVariants as calls
use Rattle.vk_base.specs.declared.kernel.Direction.TheVariants as directions
use Rattle.vk_base.specs.declared.limits.TheConstants.{MOVE_BYTES, STATION_EVENTS}
use Rattle.vk_base.specs.declared.step.Step.TheVariants as made
use Rattle.vk_base.specs.Firsts.{change_first}
use Rattle.vk_base.specs.Kernel.{name_of}
use Rattle.vk_base.specs.Packets.{Packet}
use Rattle.vk_base.specs.Messages.{grants_read, grants_write, segment_of}
use Rattle.vk_base.specs.Pids.{same_host}
use Rattle.vk_base.specs.Ranges.{range_of, lies_in, lies_within}
use Rattle.vk_brief.specs.declared.call.BriefCall.{BriefCall}
use Rattle.vk_brief.specs.declared.call.BriefCall.TheVariants as brief_calls
use Rattle.vk_packet.specs.Posts.{Posts}
use Rattle.vk_pool.specs.declared.alien.Alien.{Alien}
use Rattle.vk_pool.specs.Aliens.{alien_at, alien_from, changed_at, is_alien_from, moves_at, with_moves}
use Rattle.vk_procs.specs.declared.seat.ProcNote.{ProcNote}
use Rattle.vk_procs.specs.declared.seat.Seat.{Seat}
use Rattle.vk_procs.specs.Seats.{doing_now, is_seat, seat_in}
use Rattle.vk_stands.specs.Fit.{AreFit, IsFitAlien}
use Rattle.vk_stands.specs.Held.{Holding, alien_holding}
use Rattle.vk_stands.specs.Rules.{Doing, IsCallRule, given_by, posted}
use Rattle.vk_stands.specs.Tables.{Tables}
use Rattle.vk_timer.specs.Works.{started}
use Rattle.vk_move.specs.declared.begun.Verdict.{Verdict}
use Rattle.vk_move.specs.declared.begun.Verdict.TheVariants as verdicts
use Rattle.vk_move.specs.declared.moves.Transfer.{Transfer}
use Rattle.vk_move.specs.Moved.{change_note, going, round_from}

-- Whether a move may be made: the message of the partner that the process holds, if it does, grants this access to a segment that has
-- the partner's range, and the process's own range lies in its memory.
abbrev pub message_held : Pid → Option Alien → Option Message
message_held pid None = None
message_held pid (Some a) = option_map (λ (h : Holding). h.message) (alien_holding pid a)

abbrev pub grants_access : Direction → Message → Bool
grants_access directions.To m = grants_write m
grants_access directions.From m = grants_read m

abbrev pub has_ranges : Message → ℕ → ℕ → ℕ → ℕ → Bool
has_ranges m size theirs own count = lies_within (range_of theirs count) (segment_of m) && lies_in (range_of own count) size

abbrev pub verdict_on : Direction → ℕ → ℕ → ℕ → ℕ → Message → Verdict
verdict_on way size theirs own count m =
    if not (grants_access way m) then verdicts.Refused refusals.NoAccess
    else if not (has_ranges m size theirs own count) then verdicts.Refused refusals.BadRange
    else if count == 0 then verdicts.Made
    else verdicts.Begins

abbrev pub verdict_by : Direction → ℕ → ℕ → ℕ → ℕ → Option Message → Verdict
verdict_by way size theirs own count None =
    if nat_lt MOVE_BYTES count then verdicts.Refused refusals.TooLong else verdicts.Refused refusals.NotAwaiting
verdict_by way size theirs own count (Some m) =
    if nat_lt MOVE_BYTES count then verdicts.Refused refusals.TooLong else verdict_on way size theirs own count m

abbrev pub size_of : Option Seat → ℕ
size_of s = option_map_or (λ (x : Seat). length x.memory) s 0

-- The next move of the partner's Send: its number, and the alien with one move more.
abbrev pub name_at : List (Option Alien) → Pid → ℕ → Option MoveName
name_at slots partner slot =
    option_map (λ (a : Alien). record { exchange = name_of partner a.number; number = moves_at slots slot + 1 }) (alien_at slots slot)

abbrev pub next_name : List (Option Alien) → Pid → Option ℕ → Option MoveName
next_name slots partner None = None
next_name slots partner (Some slot) = name_at slots partner slot

abbrev pub one_more : List (Option Alien) → ℕ → Option Alien → List (Option Alien)
one_more slots slot None = slots
one_more slots slot (Some a) = changed_at slot (with_moves (moves_at slots slot + 1)) slots

abbrev pub counted : List (Option Alien) → Option ℕ → List (Option Alien)
counted slots None = slots
counted slots (Some slot) = one_more slots slot (alien_at slots slot)

-- so many moves were begun in the Send of this sender's alien
abbrev pub moves_of : List (Option Alien) → Pid → ℕ
moves_of slots partner = option_map_or (moves_at slots) (position (is_alien_from partner) slots) 0

-- the process waits in it
abbrev pub begun_note : Times → ℕ → MoveName → ProcNote → ProcNote
begun_note t now m n = record n { moving = Some m; work = started t now; offset = 0; fresh = false }

abbrev pub waiting_seats : Times → ℕ → Pid → Waiting → MoveName → List Seat → List Seat
waiting_seats t now pid w m seats =
    change_note pid (begun_note t now m) (change_first (is_seat pid) (doing_now (activities.Blocked w)) seats)

abbrev pub begun_seats : Times → ℕ → Pid → Waiting → Option MoveName → List Seat → List Seat
begun_seats t now pid w None seats = seats
begun_seats t now pid w (Some m) seats = waiting_seats t now pid w m seats

abbrev pub begun_packets : Pid → Option MoveName → List Seat → List Packet
begun_packets pid None seats = []
begun_packets pid (Some m) seats = round_from pid 0 (seat_in seats pid)

-- What a call of a move does: its answer, if it has one at once, and what changes.
pub record Begun : Type 0 where
  pub answer : Option Outcome
  pub seats : List Seat
  pub slots : List (Option Alien)
  pub packets : List Packet

abbrev pub begun_by : Times → ℕ → Pid → Waiting → Option ℕ → Pid → Verdict → List Seat → List (Option Alien) → Begun
begun_by t now pid w slot partner (verdicts.Refused why) seats slots =
    record { answer = Some (outcomes.Refused why); seats = seats; slots = slots; packets = [] }
begun_by t now pid w slot partner verdicts.Made seats slots = record
    { answer = Some outcomes.Ok; seats = seats; slots = slots; packets = [] }
begun_by t now pid w slot partner verdicts.Begins seats slots = record {
  answer = None;
  seats = begun_seats t now pid w (next_name slots partner slot) seats;
  slots = counted slots slot;
  packets = begun_packets pid (next_name slots partner slot) (begun_seats t now pid w (next_name slots partner slot) seats);
}

-- what its process waits in
abbrev pub waiting_in : Direction → Pid → ℕ → ℕ → ℕ → Waiting
waiting_in directions.To partner dest src count = waitings.MoveTo partner dest src count
waiting_in directions.From partner dest src count = waitings.MoveFrom partner dest src count

-- the call that it is
abbrev pub call_in : Direction → Pid → ℕ → ℕ → ℕ → BriefCall
call_in directions.To partner dest src count = brief_calls.MoveTo partner dest src count
call_in directions.From partner dest src count = brief_calls.MoveFrom partner dest src count

-- its place in the partner's memory, and in the own one
abbrev pub theirs_of : Direction → ℕ → ℕ → ℕ
theirs_of directions.To dest src = dest
theirs_of directions.From dest src = src

abbrev pub own_of : Direction → ℕ → ℕ → ℕ
own_of directions.To dest src = src
own_of directions.From dest src = dest

abbrev pub verdict_in : List Seat → List (Option Alien) → Pid → Pid → Direction → (dest src count : ℕ) → Verdict
verdict_in seats slots pid partner way dest src count =
    verdict_by way (size_of (seat_in seats pid)) (theirs_of way dest src) (own_of way dest src) count
    (message_held pid (alien_from slots partner))

abbrev pub begun_by_fields : Times → ℕ → Pid → Direction → Pid → (dest src count : ℕ) → List Seat → List (Option Alien) → Begun
begun_by_fields t now pid way partner dest src count seats slots =
    begun_by t now pid (waiting_in way partner dest src count) (position (is_alien_from partner) slots) partner
    (verdict_in seats slots pid partner way dest src count) seats slots

-- the same of what a process calls for, and of a verdict on it
abbrev pub transfer_by : Times → ℕ → Pid → Transfer → Verdict → List Seat → List (Option Alien) → Begun
transfer_by t now pid x verdict seats slots =
    begun_by t now pid (waiting_in x.way x.partner x.dest x.src x.count) (position (is_alien_from x.partner) slots) x.partner verdict
    seats slots

abbrev pub transfer_begun : Times → ℕ → Pid → Transfer → List Seat → List (Option Alien) → Begun
transfer_begun t now pid x seats slots =
    transfer_by t now pid x (verdict_in seats slots pid x.partner x.way x.dest x.src x.count) seats slots

abbrev pub move_begun : Times → ℕ → Pid → Call → List Seat → List (Option Alien) → Begun
move_begun t now pid (calls.MoveTo partner dest src count) seats slots =
    begun_by_fields t now pid directions.To partner dest src count seats slots
move_begun t now pid (calls.MoveFrom partner dest src count) seats slots =
    begun_by_fields t now pid directions.From partner dest src count seats slots
move_begun t now pid c seats slots = record { answer = None; seats = seats; slots = slots; packets = [] }

-- the first round of this move may go out
abbrev pub CanBegin : List Seat → List (Option Alien) → Pid → Pid → Waiting → Type 0
CanBegin seats slots pid partner w = (s : Seat) (m : MoveName) → seat_in seats pid ≡ Some s →
    next_name slots partner (position (is_alien_from partner) slots) ≡ Some m →
    going (length s.memory) 0 (Some m) (activities.Blocked w) ≡ true

-- what the rule needs of the aliens
abbrev pub HasFitAliens : List (Option Alien) → Type 0
HasFitAliens slots = (host : ℕ) × ((i : ℕ) (a : Alien) → alien_at slots i ≡ Some a → IsFitAlien host a)

-- of each Send so few moves were begun that there may be more
abbrev pub HasFewMoves : List (Option Alien) → Type 0
HasFewMoves slots = (i : ℕ) (a : Alien) → alien_at slots i ≡ Some a → a.moves < STATION_EVENTS

-- The partner is of another station.
abbrev pub is_away : Pid → Call → Bool
is_away pid (calls.MoveTo partner dest src count) = not (same_host pid partner)
is_away pid (calls.MoveFrom partner dest src count) = not (same_host pid partner)
is_away pid c = false

-- Whatever queues and names there are that fit these processes and aliens: for every reading that the tables stand for the call is its
-- right entry, and they fit afterwards.
abbrev pub doing_of : List Seat → List (Option Alien) → List Step → Posts → Doing
doing_of seats slots ss out =
    record { tables = record { seats = seats; lists = []; slots = slots; names = [] }; steps = ss; out = out }

abbrev pub beside : Tables → Doing → Doing
beside t d = record d { tables = record t { seats = d.tables.seats; slots = d.tables.slots } }

abbrev pub IsBeginRule : Times → ℕ → Pid → Call → Option Outcome → (before after : Doing) → Type 0
IsBeginRule times now pid call answer before after = (t : Tables) → AreFit pid.host (beside t before).tables →
    IsCallRule times pid.host now pid call (given_by answer) (beside t before) (beside t after)
    × AreFit pid.host (beside t after).tables

-- What comes of a call of a move: its answer, the processes and aliens, the packets and the step, and that it is right.
pub record IsMoveBegun (times : Times) (now : ℕ) (pid : Pid) (call : Call) (given : Option Outcome) (before after : Doing) : Type 0 where
  pub answer : given ≡ (move_begun times now pid call before.tables.seats before.tables.slots).answer
  pub seats : after.tables.seats ≡ (move_begun times now pid call before.tables.seats before.tables.slots).seats
  pub slots : after.tables.slots ≡ (move_begun times now pid call before.tables.seats before.tables.slots).slots
  pub packets : after.out ≡ posted before.out (move_begun times now pid call before.tables.seats before.tables.slots).packets
  pub steps : after.steps ≡ before.steps ++ made.Call pid call ∷ []
  pub right : IsBeginRule times now pid call given before after
