-- What a packet that a station takes brings into the kernel as the station sees it: what happened elsewhere, and shows there
-- by nothing else.
use Rattle.std.specs.Prelude.{ℕ, zero, suc, Bool, false, max, nat_lt, List, [], ◌∷◌, ◌++◌, length, take, replicate, Option, Some, None, if◌then◌else◌}
use Rattle.std.specs.Option.{option_map_or}
use Rattle.vk_base.specs.declared.call.Call.{Call}
use Rattle.vk_base.specs.declared.call.Call.TheVariants as calls
use Rattle.vk_base.specs.declared.kernel.Direction.TheVariants as directions
use Rattle.vk_base.specs.declared.kernel.Exchange.{Exchange}
use Rattle.vk_base.specs.declared.kernel.Lookup.{Lookup}
use Rattle.vk_base.specs.declared.kernel.Move.{Move}
use Rattle.vk_base.specs.declared.kernel.Name.{Name}
use Rattle.vk_base.specs.declared.kernel.Process.{Process}
use Rattle.vk_base.specs.declared.kernel.Stage.TheVariants as stages
use Rattle.vk_base.specs.declared.kernel.State.TheVariants as states
use Rattle.vk_base.specs.declared.message.Message.{Message}
use Rattle.vk_base.specs.declared.pid.Pid.{Pid}
use Rattle.vk_base.specs.Calls.{new_move}
use Rattle.vk_base.specs.Changes.{change_process, change_exchange, change_lookup}
use Rattle.vk_base.specs.Kernel.{◌>>=◌, Kernel, name_of, without, holds_of, blocked_in, move_of, put_process, put_exchange, put_lookup}
use Rattle.vk_base.specs.Packets.{Packet, Send, Reply, Pending, Negative, MoveData, MoveAck, MoveRequest, MoveBytes, MoveNegative, AskPid, TellPid}
use Rattle.vk_base.specs.Pids.{same_pid}
use Rattle.vk_base.specs.Ranges.{range_of, bytes_in}

-- Processes.

-- A sender that is not of the configuration, which no true frame names. It is not alive, and only its number of Sends counts.
abbrev pub stranger : ℕ → Process
stranger number = record { alive = false; memory = []; state = states.Ready; sends = number; lookups = 0; moving = None }

-- a sender of which a Send of this number came
abbrev pub sender_heard : ℕ → Option Process → Process
sender_heard number None = stranger number
sender_heard number (Some p) = record p { sends = max p.sends number }

abbrev pub found_dead : Process → Process
found_dead p = record p { alive = false }

-- Exchanges.

-- a message that is on its way
abbrev pub posted : Pid → Message → List ℕ → Exchange
posted target message part =
    record {
      target = target;
      message = message;
      part = part;
      at = target;
      shown = message;
      stage = stages.Posted;
      moves = [];
      opened = 0;
      done = 0;
    }

abbrev pub answered_by : Message → ℕ → List ℕ → Exchange → Exchange
answered_by message dest bytes e = record e { stage = stages.Replied message dest bytes }

-- Moves of an exchange.

-- a move in its place, of which those before it need not be known
abbrev pub put_at : List Move → ℕ → Move → List Move
put_at [] zero m = m ∷ []
put_at [] (suc i) m = m ∷ put_at [] i m
put_at (x ∷ xs) zero m = m ∷ xs
put_at (x ∷ xs) (suc i) m = x ∷ put_at xs i m

abbrev pub put_move : List Move → ℕ → Move → List Move
put_move moves zero m = moves
put_move moves (suc i) m = put_at moves i m

-- the bytes of a move
abbrev pub set_bytes : List Move → ℕ → List ℕ → List Move
set_bytes [] i bytes = []
set_bytes (x ∷ xs) zero bytes = record x { bytes = bytes } ∷ xs
set_bytes (x ∷ xs) (suc i) bytes = x ∷ set_bytes xs i bytes

abbrev pub put_bytes : List Move → ℕ → List ℕ → List Move
put_bytes moves zero bytes = moves
put_bytes moves (suc i) bytes = set_bytes moves i bytes

-- these bytes from this offset on; what is before it is not looked at
abbrev pub bytes_from : ℕ → List ℕ → List ℕ
bytes_from offset bytes = replicate offset 0 ++ bytes

-- the move to the sender of which these bytes come, and the move from it that is asked for
abbrev pub move_to_sender : (mover : Pid) (dest total offset : ℕ) (bytes : List ℕ) → Move
move_to_sender mover dest total offset bytes =
    record { mover = mover; direction = directions.To; dest = dest; src = 0; count = total; bytes = bytes_from offset bytes }

abbrev pub move_from_sender : (mover : Pid) (src total : ℕ) → Move
move_from_sender mover src total =
    record { mover = mover; direction = directions.From; dest = 0; src = src; count = total; bytes = [] }

abbrev pub with_data : ℕ → Move → Exchange → Exchange
with_data moving m e = record e { moves = put_move e.moves moving m }

-- The move in which a process is blocked, as its own call says; the bytes of one to its partner stand in its memory.
abbrev pub move_of_call : Pid → List ℕ → Call → Option Move
move_of_call mover memory (calls.MoveTo partner dest src count) =
    Some (new_move mover directions.To dest src count (bytes_in (range_of src count) memory))
move_of_call mover memory (calls.MoveFrom partner dest src count) = Some (new_move mover directions.From dest src count [])
move_of_call mover memory c = None

abbrev pub running_move : Kernel → Pid → Option Move
running_move k mover = k.procs mover >>= λ p. blocked_in p.state >>= move_of_call mover p.memory

-- It is put where the exchange does not have it: a forged Send made the exchange anew since.
abbrev pub is_moved_by : Pid → Move → Bool
is_moved_by mover m = same_pid m.mover mover

abbrev pub with_running : ℕ → Pid → Option Move → Exchange → Exchange
with_running moving mover own e = record e {
  moves = if holds_of (is_moved_by mover) (move_of e moving) then e.moves else option_map_or (put_move e.moves moving) own e.moves;
}

-- how far the sender's station is with a move
abbrev pub with_progress : ℕ → ℕ → Exchange → Exchange
with_progress moving received e = record e { opened = moving; done = received }

-- a request for a move that is open, or for an earlier one, changes nothing
abbrev pub with_request : ℕ → Move → Exchange → Exchange
with_request moving m e = record e { moves = if nat_lt e.opened moving then put_move e.moves moving m else e.moves }

-- bytes that come are the next ones of their move
abbrev pub with_bytes_of : ℕ → ℕ → List ℕ → Exchange → Exchange
with_bytes_of moving offset bytes e =
    record e { moves = put_bytes e.moves moving (bytes_from offset bytes); opened = moving; done = offset }

-- Lookups.
abbrev pub lookup_asked : ℕ → Lookup
lookup_asked logical = record { logical = logical; candidates = [] }

abbrev pub lookup_told : Pid → Lookup → Lookup
lookup_told found l = record l { candidates = l.candidates ++ found ∷ [] }

-- Each packet. Of a move it is the move; that a Send is pending, or a mover's partner gone, brings nothing.
abbrev pub brought : Kernel → Packet → Kernel
brought k (Send from to number message part) = record k {
  procs = put_process k.procs from (sender_heard number (k.procs from));
  exchanges = put_exchange k.exchanges (name_of from number) (posted to message part);
  arrived = without (name_of from number) k.arrived;
}
brought k (Reply from to number message dest bytes) =
    record k { exchanges = change_exchange k.exchanges (name_of to number) (answered_by message dest bytes) }
brought k (Pending from to number) = k
brought k (Negative from to number) = record k { procs = change_process k.procs from found_dead }
brought k (MoveData from to number moving dest total offset bytes) =
    record k {
      exchanges = change_exchange k.exchanges (name_of to number)
          (with_data moving (move_to_sender from dest total offset bytes));
    }
brought k (MoveAck from to number moving received) =
    record k {
      exchanges = change_exchange k.exchanges (name_of from number)
          (λ e. with_progress moving received (with_running moving to (running_move k to) e));
    }
brought k (MoveRequest from to number moving src total offset) =
    record k { exchanges = change_exchange k.exchanges (name_of to number) (with_request moving (move_from_sender from src total)) }
brought k (MoveBytes from to number moving total offset bytes) =
    record k {
      exchanges = change_exchange k.exchanges (name_of from number)
          (λ e. with_bytes_of moving offset bytes (with_running moving to (running_move k to) e));
    }
brought k (MoveNegative from to number moving) = k
brought k (AskPid asker lookup logical) = record k { lookups = put_lookup k.lookups asker lookup (lookup_asked logical) }
brought k (TellPid found asker lookup) = record k { lookups = change_lookup k.lookups asker lookup (lookup_told found) }

-- What it brings for its event alone: a mover's own move, where the exchange did not have it. Afterwards an exchange has as
-- many moves as before, so that the next one has its number.
abbrev pub as_many_moves : Option Exchange → Exchange → Exchange
as_many_moves None e = e
as_many_moves (Some before) e = record e { moves = take (length before.moves) e.moves }

abbrev pub without_running : Kernel → Name → Kernel → Kernel
without_running before name k = record k { exchanges = change_exchange k.exchanges name (as_many_moves (before.exchanges name)) }

-- the kernel after the event's steps, where it was `before` when the packet came
abbrev pub settled : Kernel → Packet → Kernel → Kernel
settled before (MoveAck from to number moving received) k = without_running before (name_of from number) k
settled before (MoveBytes from to number moving total offset bytes) k = without_running before (name_of from number) k
settled before p k = k
