-- The line of a frame is read as the frame.
use Rattle.std.proofs.Common.{◌≡◌, ℕ, ◌+◌, ◌-◌, ◌%◌, ◌^◌, ◌<◌, ◌≤◌, ◌==◌, ◌&&◌, nat_lt, nat_le, Bool, true, List, [], ◌∷◌, ◌++◌, length, decimal, codes, Some, refl, arith, ap, ◌∙◌}
use Rattle.std.specs.Int.{is_in_range}
use Rattle.std.specs.List.{AllByRecursion, list_all}
use Rattle.std.proofs.lemmas.Bool.{and_parts, eq-eqb, leb-true, ltb-true}
use Rattle.std.proofs.lemmas.List.Elements.{All-append}
use Rattle.vk_types.specs.Types.{Message, Pid}
use Rattle.vk_base.specs.Messages.{IsMessage}
use Rattle.vk_base.specs.declared.call.Call.TheVariants as calls
use Rattle.vk_base.specs.Packets.{Packet, Send, Reply, Pending, Negative, MoveData, MoveAck, MoveRequest, MoveBytes, MoveNegative, AskPid, TellPid}
use Rattle.vk_base.specs.Pids.{IsPid}
use Rattle.vk_base.specs.declared.limits.TheConstants.{DATA_BYTES, EVERY_STATION, LAST_NUMBER, MOVE_BYTES, SEGMENT_BYTES, SHORT_NUMBER}
use Rattle.vk_frame.specs.declared.header.Header.{Header}
use Rattle.vk_frame.specs.Rules as headers
use Rattle.vk_packet.specs.Rules.{IsPacket, fits, is_lawful, is_number, is_place, piece_len}
use Rattle.vk_text.specs.Spelling.{call_words, message_text, pid_text}
use Rattle.vk_text.proofs.Messages.{message_read}
use Rattle.vk_text.proofs.PlainWords.{IsPlain, IsVisible, call_plain, count_plain, letters, no_spaces, number_plain, pid_plain}
use Rattle.vk_text.proofs.ReadBack.{joined_words}
use Rattle.vk_text.proofs.Spelled.{count_read, pid_read}
use Rattle.vk_frame_text.specs.Frames.{frame_text, frame_words, packet_words, place_text}
use Rattle.vk_frame_text.specs.Laws.{FrameLinesAreTheirFrames, last_bytes}
use Rattle.vk_frame_text.specs.Reading.{ask_pid_of, exchange_of, frame_of, move_ack_of, move_bytes_of, move_data_of, move_negative_of, move_of, move_request_of, packet_of, reply_of, send_of, short_of, tell_pid_of}
use Rattle.vk_frame_text.proofs.Places.{long_read, place_read}

-- The ranges of what a packet has.

number_small : (n : ℕ) → is_number n ≡ true → n < 2 ^ 64
number_small n h = let low = ltb-true n (2 ^ 63) (and_parts (nat_lt 0 n) (nat_lt n (2 ^ 63)) h).1 in omega (arith, low)

first_small : (n : ℕ) (ns : List ℕ) (b : Bool) → (list_all is_number (n ∷ ns) && b) ≡ true → n < 2 ^ 64
first_small n ns b h =
    number_small n (and_parts (is_number n) (list_all is_number ns) (and_parts (list_all is_number (n ∷ ns)) b h).0).0

second_small : (n m : ℕ) (ns : List ℕ) (b : Bool) → (list_all is_number (n ∷ m ∷ ns) && b) ≡ true → m < 2 ^ 64
second_small n m ns b h =
    let rest = (and_parts (is_number n) (list_all is_number (m ∷ ns)) (and_parts (list_all is_number (n ∷ m ∷ ns)) b h).0).1 in
    number_small m (and_parts (is_number m) (list_all is_number ns) rest).0

place_small : (total offset : ℕ) → is_place total offset ≡ true → (total < 2 ^ 32) × (offset < 2 ^ 32)
place_small total offset h =
    let all = and_parts (nat_lt 0 total && nat_le total MOVE_BYTES && (offset % DATA_BYTES == 0)) (nat_lt offset total) h in
    let front = and_parts (nat_lt 0 total && nat_le total MOVE_BYTES) (offset % DATA_BYTES == 0) all.0 in
    let most = leb-true total MOVE_BYTES (and_parts (nat_lt 0 total) (nat_le total MOVE_BYTES) front.0).1 in
    let low = ltb-true offset total all.1 in
    (omega (arith, most), omega (arith, most, low))

-- What a packet's words are read as.

exchange_read : (from to : Pid) (number : ℕ) (ws : List (List ℕ)) → IsPid from → IsPid to → number < 2 ^ 64
    → exchange_of (pid_text from ∷ pid_text to ∷ decimal number ∷ ws) ≡ Some (from, to, number, ws)
unfolding exchange_of
exchange_read from to number ws froms tos small = rw (pid_read from froms, pid_read to tos, long_read number small) refl

move_read : (from to : Pid) (number moving : ℕ) (ws : List (List ℕ)) → IsPid from → IsPid to → number < 2 ^ 64 → moving < 2 ^ 64
    → move_of (pid_text from ∷ pid_text to ∷ decimal number ∷ decimal moving ∷ ws) ≡ Some (from, to, number, moving, ws)
unfolding move_of
move_read from to number moving ws froms tos small moves =
    rw (exchange_read from to number (decimal moving ∷ ws) froms tos small, long_read moving moves) refl

same_count : (n : ℕ) → (n == n) ≡ true
same_count n = eq-eqb n n refl

packet_read : (p : Packet) → IsPacket p → is_lawful p ≡ true → packet_of (last_bytes p) (packet_words p) ≡ Some p
unfolding packet_words send_of reply_of short_of move_data_of move_ack_of move_request_of move_bytes_of move_negative_of ask_pid_of tell_pid_of
packet_read (Send from to number message part) h lawful =
    rw (
      exchange_read from to number _ h.0 h.1 (first_small number [] _ lawful),
      message_read message h.2.0 h.2.1,
    ) refl
packet_read (Reply from to number message dest bytes) h lawful =
    let few = leb-true (length bytes) SEGMENT_BYTES (and_parts (list_all is_number (number ∷ [])) _ lawful).1 in
    rw (
      exchange_read from to number _ h.0 h.1 (first_small number [] _ lawful),
      message_read message h.2.0 h.2.1,
      count_read dest h.3,
      count_read (length bytes) (omega (arith, few)),
      same_count (length bytes),
    ) refl
packet_read (Pending from to number) h lawful = rw (exchange_read from to number [] h.0 h.1 (first_small number [] _ lawful)) refl
packet_read (Negative from to number) h lawful = rw (exchange_read from to number [] h.0 h.1 (first_small number [] _ lawful)) refl
packet_read (MoveData from to number moving dest total offset bytes) h lawful =
    let placed = (and_parts (is_place total offset) (length bytes == piece_len total offset)
    (and_parts (list_all is_number (number ∷ moving ∷ [])) _ lawful).1).0 in
    let small = place_small total offset placed in
    rw (
      move_read from to number moving _ h.0 h.1 (first_small number (moving ∷ []) _ lawful) (second_small number moving [] _ lawful),
      count_read dest h.2,
      count_read total small.0,
      count_read offset small.1,
    ) refl
packet_read (MoveAck from to number moving received) h lawful =
    let few = leb-true received MOVE_BYTES (and_parts (list_all is_number (number ∷ moving ∷ [])) _ lawful).1 in
    rw (
      move_read from to number moving _ h.0 h.1 (first_small number (moving ∷ []) _ lawful) (second_small number moving [] _ lawful),
      count_read received (omega (arith, few)),
    ) refl
packet_read (MoveRequest from to number moving src total offset) h lawful =
    let small = place_small total offset (and_parts (list_all is_number (number ∷ moving ∷ [])) _ lawful).1 in
    rw (
      move_read from to number moving _ h.0 h.1 (first_small number (moving ∷ []) _ lawful) (second_small number moving [] _ lawful),
      count_read src h.2,
      count_read total small.0,
      count_read offset small.1,
    ) refl
packet_read (MoveBytes from to number moving total offset bytes) h lawful =
    let placed = (and_parts (is_place total offset) (length bytes == piece_len total offset)
    (and_parts (list_all is_number (number ∷ moving ∷ [])) _ lawful).1).0 in
    let small = place_small total offset placed in
    rw (
      move_read from to number moving _ h.0 h.1 (first_small number (moving ∷ []) _ lawful) (second_small number moving [] _ lawful),
      count_read total small.0,
      count_read offset small.1,
    ) refl
packet_read (MoveNegative from to number moving) h lawful =
    rw (move_read from to number moving [] h.0 h.1 (first_small number (moving ∷ []) _ lawful) (second_small number moving [] _ lawful)) refl
packet_read (AskPid asker lookup logical) h lawful =
    rw (pid_read asker h.0, long_read lookup (first_small lookup [] _ lawful), count_read logical h.1) refl
packet_read (TellPid found asker lookup) h lawful = rw (exchange_read found asker lookup [] h.0 h.1 (first_small lookup [] _ lawful)) refl

-- The ranges of what a header has.

pub record AreSmall (h : Header) : Type 0 where
  pub source : h.source < 2 ^ 64
  pub stamp : h.stamp < 2 ^ 64
  pub number : h.number < 2 ^ 64
  pub event : h.event < 2 ^ 64
  pub output : h.output < 2 ^ 64

up_to : (least most n : ℕ) → is_in_range least most n ≡ true → n ≤ most
up_to least most n h = leb-true n most (and_parts (nat_le least n) (nat_le n most) h).1

are_small : (h : Header) → headers.is_lawful h ≡ true → AreSmall h
are_small h lawful =
    let one = is_in_range 1 (EVERY_STATION - 1) h.source in
    let two = is_in_range 1 EVERY_STATION h.destination in
    let three = nat_lt h.stamp (2 ^ 63) in
    let four = nat_lt h.number (2 ^ 63) in
    let five = is_in_range 1 LAST_NUMBER h.event in
    let six = is_in_range 1 SHORT_NUMBER h.output in
    let last = and_parts (one && two && three && four && five) six lawful in
    let fifth = and_parts (one && two && three && four) five last.0 in
    let fourth = and_parts (one && two && three) four fifth.0 in
    let third = and_parts (one && two) three fourth.0 in
    let first = and_parts one two third.0 in
    let source = up_to 1 (EVERY_STATION - 1) h.source first.0 in
    let stamp = ltb-true h.stamp (2 ^ 63) third.1 in
    let number = ltb-true h.number (2 ^ 63) fourth.1 in
    let event = up_to 1 LAST_NUMBER h.event fifth.1 in
    let output = up_to 1 SHORT_NUMBER h.output last.1 in
    record {
      source = omega (arith, source);
      stamp = omega (arith, stamp);
      number = omega (arith, number);
      event = omega (arith, event);
      output = omega (arith, output);
    }

-- No word has a space.

message_plain : (message : Message) (p : Pid) → IsMessage message → IsPid p → IsPlain (message_text message)
unfolding call_words
message_plain message p fits pid = (call_plain (calls.Reply message p) (fits, pid)).1.0

packet_plain : (p : Packet) → IsPacket p → is_lawful p ≡ true → AllByRecursion IsPlain (packet_words p)
unfolding packet_words
packet_plain (Send from to number message part) h lawful = (
  letters (codes "send") refl,
  (pid_plain from h.0, (pid_plain to h.1, (number_plain number (first_small number [] _ lawful), (message_plain message from h.2 h.0, tt)))),
)
packet_plain (Reply from to number message dest bytes) h lawful =
    let few = leb-true (length bytes) SEGMENT_BYTES (and_parts (list_all is_number (number ∷ [])) _ lawful).1 in (
      letters (codes "reply") refl,
      (
        pid_plain from h.0,
        (
          pid_plain to h.1,
          (
            number_plain number (first_small number [] _ lawful),
            (message_plain message from h.2 h.0, (count_plain dest h.3, (number_plain (length bytes) (omega (arith, few)), tt))),
          ),
        ),
      ),
    )
packet_plain (Pending from to number) h lawful = (
  letters (codes "pending") refl,
  (pid_plain from h.0, (pid_plain to h.1, (number_plain number (first_small number [] _ lawful), tt))),
)
packet_plain (Negative from to number) h lawful = (
  letters (codes "negative") refl,
  (pid_plain from h.0, (pid_plain to h.1, (number_plain number (first_small number [] _ lawful), tt))),
)
packet_plain (MoveData from to number moving dest total offset bytes) h lawful =
    let placed = (and_parts (is_place total offset) (length bytes == piece_len total offset)
    (and_parts (list_all is_number (number ∷ moving ∷ [])) _ lawful).1).0 in
    let small = place_small total offset placed in (
      letters (codes "movedata") refl,
      (
        pid_plain from h.0,
        (
          pid_plain to h.1,
          (
            number_plain number (first_small number (moving ∷ []) _ lawful),
            (
              number_plain moving (second_small number moving [] _ lawful),
              (count_plain dest h.2, (count_plain total small.0, (count_plain offset small.1, tt))),
            ),
          ),
        ),
      ),
    )
packet_plain (MoveAck from to number moving received) h lawful =
    let few = leb-true received MOVE_BYTES (and_parts (list_all is_number (number ∷ moving ∷ [])) _ lawful).1 in (
      letters (codes "moveack") refl,
      (
        pid_plain from h.0,
        (
          pid_plain to h.1,
          (
            number_plain number (first_small number (moving ∷ []) _ lawful),
            (number_plain moving (second_small number moving [] _ lawful), (number_plain received (omega (arith, few)), tt)),
          ),
        ),
      ),
    )
packet_plain (MoveRequest from to number moving src total offset) h lawful =
    let small = place_small total offset (and_parts (list_all is_number (number ∷ moving ∷ [])) _ lawful).1 in (
      letters (codes "moverequest") refl,
      (
        pid_plain from h.0,
        (
          pid_plain to h.1,
          (
            number_plain number (first_small number (moving ∷ []) _ lawful),
            (
              number_plain moving (second_small number moving [] _ lawful),
              (count_plain src h.2, (count_plain total small.0, (count_plain offset small.1, tt))),
            ),
          ),
        ),
      ),
    )
packet_plain (MoveBytes from to number moving total offset bytes) h lawful =
    let placed = (and_parts (is_place total offset) (length bytes == piece_len total offset)
    (and_parts (list_all is_number (number ∷ moving ∷ [])) _ lawful).1).0 in
    let small = place_small total offset placed in (
      letters (codes "movebytes") refl,
      (
        pid_plain from h.0,
        (
          pid_plain to h.1,
          (
            number_plain number (first_small number (moving ∷ []) _ lawful),
            (
              number_plain moving (second_small number moving [] _ lawful),
              (count_plain total small.0, (count_plain offset small.1, tt)),
            ),
          ),
        ),
      ),
    )
packet_plain (MoveNegative from to number moving) h lawful = (
  letters (codes "movenegative") refl,
  (
    pid_plain from h.0,
    (
      pid_plain to h.1,
      (number_plain number (first_small number (moving ∷ []) _ lawful), (number_plain moving (second_small number moving [] _ lawful), tt)),
    ),
  ),
)
packet_plain (AskPid asker lookup logical) h lawful = (
  letters (codes "askpid") refl,
  (pid_plain asker h.0, (number_plain lookup (first_small lookup [] _ lawful), (count_plain logical h.1, tt))),
)
packet_plain (TellPid found asker lookup) h lawful = (
  letters (codes "tellpid") refl,
  (pid_plain found h.0, (pid_plain asker h.1, (number_plain lookup (first_small lookup [] _ lawful), tt))),
)

place_plain : (h : Header) → AreSmall h → IsPlain (place_text h)
place_plain h small =
    let front = decimal h.source ++ codes ":" in
    let event = front ++ decimal h.event in
    All-append IsVisible (event ++ codes ".") (decimal h.output)
    (All-append IsVisible event (codes ".")
    (All-append IsVisible front (decimal h.event)
    (All-append IsVisible (decimal h.source) (codes ":") (number_plain h.source small.source) (letters (codes ":") refl))
    (number_plain h.event small.event)) (letters (codes ".") refl)) (number_plain h.output small.output)

frame_plain : (h : Header) (p : Packet) → AreSmall h → IsPacket p → is_lawful p ≡ true → AllByRecursion IsPlain (frame_words h p)
frame_plain h p small packet lawful =
    (place_plain h small, (number_plain h.stamp small.stamp, (number_plain h.number small.number, packet_plain p packet lawful)))

frame_read : (h : Header) (p : Packet) → AreSmall h → IsPacket p → is_lawful p ≡ true
    → frame_of h.destination (last_bytes p) (frame_words h p) ≡ Some (h, p)
unfolding frame_of
frame_read h p small packet lawful =
    rw (
      place_read h.source h.event h.output small.source small.event small.output,
      long_read h.stamp small.stamp,
      long_read h.number small.number,
      packet_read p packet lawful,
    ) refl

pub lines_are_frames : FrameLinesAreTheirFrames
unfolding frame_text
lines_are_frames h p header packet lawful =
    let small = are_small h header in
    ap (frame_of h.destination (last_bytes p))
    (joined_words (frame_words h p) (omega arith) (no_spaces (frame_words h p) (frame_plain h p small packet lawful)))
    ∙ frame_read h p small packet lawful
