-- What a frame's line spells, where it is told for which station the frame is and which bytes stand at its packet's end: of a report's
-- line of the frame the one, and of memory the others.
use Rattle.std.specs.Prelude.{ℕ, ◌+◌, ◌-◌, ◌^◌, ◌==◌, List, [], ◌∷◌, length, take, drop, position, codes, bytes_eq, Option, Some, None, if◌then◌else◌}
use Rattle.vk_types.specs.Types.{Pid}
use Rattle.vk_base.specs.Options.{◌>>=◌}
use Rattle.vk_base.specs.Packets.{Packet, Send, Reply, Pending, Negative, MoveData, MoveAck, MoveRequest, MoveBytes, MoveNegative, AskPid, TellPid}
use Rattle.vk_frame.specs.declared.header.Header.{Header}
use Rattle.vk_text.specs.Calls.{ended, first_as}
use Rattle.vk_text.specs.Words.{count_of, message_of, number_of, pid_of}

-- a number of 64 bits
abbrev pub long_of : List ℕ → Option ℕ
long_of word = number_of (2 ^ 64 - 1) word

-- `FROM TO NUMBER`, and the words behind
unfoldable pub exchange_of : List (List ℕ) → Option (Pid × Pid × ℕ × List (List ℕ))
exchange_of ws =
    first_as pid_of ws >>= λ (from, ws). first_as pid_of ws >>= λ (to, ws).
    first_as long_of ws >>= λ (number, ws). Some (from, to, number, ws)

-- `FROM TO NUMBER MOVE`, and the words behind
unfoldable pub move_of : List (List ℕ) → Option (Pid × Pid × ℕ × ℕ × List (List ℕ))
move_of ws =
    exchange_of ws >>= λ (from, to, number, ws). first_as long_of ws >>= λ (moving, ws). Some (from, to, number, moving, ws)

unfoldable pub send_of : List ℕ → List (List ℕ) → Option Packet
send_of bytes ws =
    exchange_of ws >>= λ (from, to, number, ws). first_as message_of ws >>= λ (message, ws). ended ws (Send from to number message bytes)

-- the count is that of the bytes
unfoldable pub reply_of : List ℕ → List (List ℕ) → Option Packet
reply_of bytes ws =
    exchange_of ws >>= λ (from, to, number, ws). first_as message_of ws >>= λ (message, ws).
    first_as count_of ws >>= λ (dest, ws). first_as count_of ws >>= λ (count, ws).
    if count == length bytes then ended ws (Reply from to number message dest bytes) else None

unfoldable pub short_of : (Pid → Pid → ℕ → Packet) → List (List ℕ) → Option Packet
short_of make ws = exchange_of ws >>= λ (from, to, number, ws). ended ws (make from to number)

unfoldable pub move_data_of : List ℕ → List (List ℕ) → Option Packet
move_data_of bytes ws =
    move_of ws >>= λ (from, to, number, moving, ws). first_as count_of ws >>= λ (dest, ws).
    first_as count_of ws >>= λ (total, ws). first_as count_of ws >>= λ (offset, ws).
    ended ws (MoveData from to number moving dest total offset bytes)

unfoldable pub move_ack_of : List (List ℕ) → Option Packet
move_ack_of ws =
    move_of ws >>= λ (from, to, number, moving, ws). first_as count_of ws >>= λ (received, ws).
    ended ws (MoveAck from to number moving received)

unfoldable pub move_request_of : List (List ℕ) → Option Packet
move_request_of ws =
    move_of ws >>= λ (from, to, number, moving, ws). first_as count_of ws >>= λ (src, ws).
    first_as count_of ws >>= λ (total, ws). first_as count_of ws >>= λ (offset, ws).
    ended ws (MoveRequest from to number moving src total offset)

unfoldable pub move_bytes_of : List ℕ → List (List ℕ) → Option Packet
move_bytes_of bytes ws =
    move_of ws >>= λ (from, to, number, moving, ws). first_as count_of ws >>= λ (total, ws).
    first_as count_of ws >>= λ (offset, ws). ended ws (MoveBytes from to number moving total offset bytes)

unfoldable pub move_negative_of : List (List ℕ) → Option Packet
move_negative_of ws = move_of ws >>= λ (from, to, number, moving, ws). ended ws (MoveNegative from to number moving)

unfoldable pub ask_pid_of : List (List ℕ) → Option Packet
ask_pid_of ws =
    first_as pid_of ws >>= λ (asker, ws). first_as long_of ws >>= λ (lookup, ws).
    first_as count_of ws >>= λ (logical, ws). ended ws (AskPid asker lookup logical)

unfoldable pub tell_pid_of : List (List ℕ) → Option Packet
tell_pid_of ws = exchange_of ws >>= λ (found, asker, lookup, ws). ended ws (TellPid found asker lookup)

-- the packet that these words spell, with these bytes at its end
abbrev pub packet_of : List ℕ → List (List ℕ) → Option Packet
packet_of bytes [] = None
packet_of bytes (w ∷ ws) =
    if bytes_eq w (codes "send") then send_of bytes ws
    else if bytes_eq w (codes "reply") then reply_of bytes ws
    else if bytes_eq w (codes "pending") then short_of Pending ws
    else if bytes_eq w (codes "negative") then short_of Negative ws
    else if bytes_eq w (codes "movedata") then move_data_of bytes ws
    else if bytes_eq w (codes "moveack") then move_ack_of ws
    else if bytes_eq w (codes "moverequest") then move_request_of ws
    else if bytes_eq w (codes "movebytes") then move_bytes_of bytes ws
    else if bytes_eq w (codes "movenegative") then move_negative_of ws
    else if bytes_eq w (codes "askpid") then ask_pid_of ws
    else if bytes_eq w (codes "tellpid") then tell_pid_of ws
    else None

-- `H:E.O`
unfoldable pub place_of : List ℕ → Option (ℕ × ℕ × ℕ)
place_of word =
    position (λ c. c == 58) word >>= λ colon. long_of (take colon word) >>= λ host.
    position (λ c. c == 46) (drop (colon + 1) word) >>= λ point. long_of (take point (drop (colon + 1) word)) >>= λ event.
    long_of (drop (point + 1) (drop (colon + 1) word)) >>= λ output. Some (host, event, output)

-- the frame that these words spell, for this station, with these bytes at its packet's end
unfoldable pub frame_of : (destination : ℕ) (bytes : List ℕ) → List (List ℕ) → Option (Header × Packet)
frame_of destination bytes ws =
    first_as place_of ws >>= λ (place, ws). first_as long_of ws >>= λ (stamp, ws). first_as long_of ws >>= λ (number, ws).
    packet_of bytes ws >>= λ packet. Some (
      record {
        source = place.0;
        destination = destination;
        stamp = stamp;
        number = number;
        event = place.1;
        output = place.2;
      },
      packet,
    )
