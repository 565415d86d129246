-- What bytes spell: the packet of the first byte's kind whose fields stand behind it in order. A part, or bytes, take all that is
-- left; behind any other last field nothing is left.
use Rattle.std.specs.Prelude.{ℕ, ◌==◌, List, [], ◌∷◌, length, Option, Some, None, if◌then◌else◌}
use Rattle.vk_types.specs.Types.{Pid}
use Rattle.vk_base.specs.Options.{◌>>=◌}
use Rattle.vk_base.specs.Packets.{Packet, Send, Reply, Pending, Negative, MoveData, MoveAck, MoveRequest, MoveBytes, MoveNegative, AskPid, TellPid}
use Rattle.vk_packet.specs.Rules.{is_lawful}
use Rattle.vk_wire.specs.Fields.{number_at, pid_at, message_at}

-- what every packet of an exchange begins with, and every packet of a move: from, to, number, and the move
unfoldable pub exchange_at : List ℕ → Option (Pid × Pid × ℕ × List ℕ)
exchange_at bytes = do
  from ← pid_at bytes
  to ← pid_at from.1
  number ← number_at 8 to.1
  Some (from.0, to.0, number.0, number.1)

unfoldable pub move_at : List ℕ → Option (Pid × Pid × ℕ × ℕ × List ℕ)
move_at bytes = do
  front ← exchange_at bytes
  moving ← number_at 8 front.3
  Some (front.0, front.1, front.2, moving.0, moving.1)

-- the packet, where no byte is left
abbrev pub ended : List ℕ → Packet → Option Packet
ended [] packet = Some packet
ended (b ∷ bs) packet = None

unfoldable pub send_of : List ℕ → Option Packet
send_of bytes = do
  front ← exchange_at bytes
  message ← message_at front.3
  Some (Send front.0 front.1 front.2 message.0 message.1)

unfoldable pub reply_of : List ℕ → Option Packet
reply_of bytes = do
  front ← exchange_at bytes
  message ← message_at front.3
  dest ← number_at 4 message.1
  count ← number_at 2 dest.1
  if count.0 == length count.1 then Some (Reply front.0 front.1 front.2 message.0 dest.0 count.1) else None

unfoldable pub pending_of : List ℕ → Option Packet
pending_of bytes = do
  front ← exchange_at bytes
  ended front.3 (Pending front.0 front.1 front.2)

unfoldable pub negative_of : List ℕ → Option Packet
negative_of bytes = do
  front ← exchange_at bytes
  ended front.3 (Negative front.0 front.1 front.2)

unfoldable pub move_data_of : List ℕ → Option Packet
move_data_of bytes = do
  front ← move_at bytes
  dest ← number_at 4 front.4
  total ← number_at 4 dest.1
  offset ← number_at 4 total.1
  Some (MoveData front.0 front.1 front.2 front.3 dest.0 total.0 offset.0 offset.1)

unfoldable pub move_ack_of : List ℕ → Option Packet
move_ack_of bytes = do
  front ← move_at bytes
  received ← number_at 4 front.4
  ended received.1 (MoveAck front.0 front.1 front.2 front.3 received.0)

unfoldable pub move_request_of : List ℕ → Option Packet
move_request_of bytes = do
  front ← move_at bytes
  src ← number_at 4 front.4
  total ← number_at 4 src.1
  offset ← number_at 4 total.1
  ended offset.1 (MoveRequest front.0 front.1 front.2 front.3 src.0 total.0 offset.0)

unfoldable pub move_bytes_of : List ℕ → Option Packet
move_bytes_of bytes = do
  front ← move_at bytes
  total ← number_at 4 front.4
  offset ← number_at 4 total.1
  Some (MoveBytes front.0 front.1 front.2 front.3 total.0 offset.0 offset.1)

unfoldable pub move_negative_of : List ℕ → Option Packet
move_negative_of bytes = do
  front ← move_at bytes
  ended front.4 (MoveNegative front.0 front.1 front.2 front.3)

unfoldable pub ask_pid_of : List ℕ → Option Packet
ask_pid_of bytes = do
  asker ← pid_at bytes
  lookup ← number_at 8 asker.1
  logical ← number_at 4 lookup.1
  ended logical.1 (AskPid asker.0 lookup.0 logical.0)

unfoldable pub tell_pid_of : List ℕ → Option Packet
tell_pid_of bytes = do
  found ← pid_at bytes
  asker ← pid_at found.1
  lookup ← number_at 8 asker.1
  ended lookup.1 (TellPid found.0 asker.0 lookup.0)

unfoldable pub kind_of : ℕ → List ℕ → Option Packet
kind_of kind bytes =
    if kind == 1 then send_of bytes
    else if kind == 2 then reply_of bytes
    else if kind == 3 then pending_of bytes
    else if kind == 4 then negative_of bytes
    else if kind == 5 then move_data_of bytes
    else if kind == 6 then move_ack_of bytes
    else if kind == 7 then move_request_of bytes
    else if kind == 8 then move_bytes_of bytes
    else if kind == 9 then move_negative_of bytes
    else if kind == 10 then ask_pid_of bytes
    else if kind == 11 then tell_pid_of bytes
    else None

unfoldable pub fields_of : List ℕ → Option Packet
fields_of bytes = do
  kind ← number_at 1 bytes
  kind_of kind.0 kind.1

-- the packet that the bytes are, where they are one
unfoldable pub packet_of : List ℕ → Option Packet
packet_of bytes = fields_of bytes >>= λ p. if is_lawful p then Some p else None
