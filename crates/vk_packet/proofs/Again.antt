-- What is spelled is read again.
use Rattle.std.proofs.Common.{◌≡◌, ℕ, ◌<◌, ◌^◌, ◌%◌, ◌==◌, ◌&&◌, nat_lt, nat_le, true, List, [], ◌∷◌, ◌++◌, length, Some, refl, sym, ap, ◌∙◌, append_assoc, arith, eq-eqb}
use Rattle.std.proofs.lemmas.Bool.{and_parts, ltb-true, leb-true}
use Rattle.std.proofs.lemmas.List.{append-nil}
use Rattle.std.specs.List.{AllByRecursion, list_all}
use Rattle.byteorder.specs.Endian.{big_bytes}
use Rattle.vk_types.specs.Types.{Message, Pid}
use Rattle.vk_base.specs.Messages.{IsMessage}
use Rattle.vk_base.specs.Packets.{Packet, Send, Reply, Pending, Negative, MoveData, MoveAck, MoveRequest, MoveBytes, MoveNegative, AskPid, TellPid}
use Rattle.vk_base.specs.Pids.{IsPid}
use Rattle.vk_wire.specs.Fields.{pid_bytes}
use Rattle.vk_wire.proofs.Fronts.{number_again, pid_again, message_again}
use Rattle.vk_packet.specs.Laws.{WrittenIsRead}
use Rattle.vk_packet.specs.Reading.{exchange_at, move_at, send_of, reply_of, pending_of, negative_of, move_data_of, move_ack_of, move_request_of, move_bytes_of, move_negative_of, ask_pid_of, tell_pid_of, kind_of, fields_of, packet_of}
use Rattle.vk_packet.specs.Rules.{numbers_of, is_number, is_place, fits, is_lawful}
use Rattle.vk_packet.specs.Spelling.{exchange_bytes, move_bytes, packet_bytes}

exchange_again : (from to : Pid) (number : ℕ) (rest : List ℕ) → IsPid from → IsPid to → number < 256 ^ 8 →
    exchange_at (exchange_bytes from to number ++ rest) ≡ Some (from, to, number, rest)
unfolding exchange_at exchange_bytes
exchange_again from to number rest f t n =
    rw (
      pid_again from (pid_bytes to ++ (big_bytes 8 number ++ rest)) f,
      pid_again to (big_bytes 8 number ++ rest) t,
      number_again 8 number rest n,
    ) refl

move_again : (from to : Pid) (number moving : ℕ) (rest : List ℕ) → IsPid from → IsPid to → number < 256 ^ 8 → moving < 256 ^ 8 →
    move_at (move_bytes from to number moving ++ rest) ≡ Some (from, to, number, moving, rest)
unfolding move_at move_bytes
move_again from to number moving rest f t n m =
    ap move_at (append_assoc (exchange_bytes from to number) (big_bytes 8 moving) rest)
    ∙ rw (exchange_again from to number (big_bytes 8 moving ++ rest) f t n, number_again 8 moving rest m) refl

-- three, four or five texts, one behind the other
regroup3 : (a b c : List ℕ) → a ++ b ++ c ≡ a ++ (b ++ c)
regroup3 a b c = append_assoc a b c

regroup4 : (a b c d : List ℕ) → a ++ b ++ c ++ d ≡ a ++ (b ++ (c ++ d))
regroup4 a b c d = append_assoc (a ++ b) c d ∙ append_assoc a b (c ++ d)

regroup5 : (a b c d e : List ℕ) → a ++ b ++ c ++ d ++ e ≡ a ++ (b ++ (c ++ (d ++ e)))
regroup5 a b c d e = append_assoc (a ++ b ++ c) d e ∙ regroup4 a b c (d ++ e)

send_again : (from to : Pid) (number : ℕ) (message : Message) (part : List ℕ) → IsPid from → IsPid to → number < 256 ^ 8 →
    IsMessage message → send_of (exchange_bytes from to number ++ message.0 ++ part) ≡ Some (Send from to number message part)
unfolding send_of
send_again from to number message part f t n m =
    ap send_of (regroup3 (exchange_bytes from to number) message.0 part)
    ∙ rw (exchange_again from to number (message.0 ++ part) f t n, message_again message part m) refl

reply_again : (from to : Pid) (number : ℕ) (message : Message) (dest : ℕ) (bytes : List ℕ) → IsPid from → IsPid to → number < 256 ^ 8 →
    IsMessage message → dest < 256 ^ 4 → length bytes < 256 ^ 2 →
    reply_of (exchange_bytes from to number ++ message.0 ++ big_bytes 4 dest ++ big_bytes 2 (length bytes) ++ bytes) ≡ Some
    (Reply from to number message dest bytes)
unfolding reply_of
reply_again from to number message dest bytes f t n m d c =
    let counted = big_bytes 2 (length bytes) ++ bytes in
    ap reply_of (regroup5 (exchange_bytes from to number) message.0 (big_bytes 4 dest) (big_bytes 2 (length bytes)) bytes)
    ∙ rw (
      exchange_again from to number (message.0 ++ (big_bytes 4 dest ++ counted)) f t n,
      message_again message (big_bytes 4 dest ++ counted) m,
      number_again 4 dest counted d,
      number_again 2 (length bytes) bytes c,
      eq-eqb (length bytes) (length bytes) refl,
    ) refl

pending_again : (from to : Pid) (number : ℕ) → IsPid from → IsPid to → number < 256 ^ 8 →
    pending_of (exchange_bytes from to number) ≡ Some (Pending from to number)
unfolding pending_of
pending_again from to number f t n =
    ap pending_of (sym (append-nil (exchange_bytes from to number))) ∙ rw (exchange_again from to number [] f t n) refl

negative_again : (from to : Pid) (number : ℕ) → IsPid from → IsPid to → number < 256 ^ 8 →
    negative_of (exchange_bytes from to number) ≡ Some (Negative from to number)
unfolding negative_of
negative_again from to number f t n =
    ap negative_of (sym (append-nil (exchange_bytes from to number))) ∙ rw (exchange_again from to number [] f t n) refl

move_data_again : (from to : Pid) (number moving dest total offset : ℕ) (bytes : List ℕ) → IsPid from → IsPid to → number < 256 ^ 8 →
    moving < 256 ^ 8 → dest < 256 ^ 4 → total < 256 ^ 4 → offset < 256 ^ 4 →
    move_data_of (move_bytes from to number moving ++ big_bytes 4 dest ++ big_bytes 4 total ++ big_bytes 4 offset ++ bytes) ≡ Some
    (MoveData from to number moving dest total offset bytes)
unfolding move_data_of
move_data_again from to number moving dest total offset bytes f t n m d a o =
    let place = big_bytes 4 total ++ (big_bytes 4 offset ++ bytes) in
    ap move_data_of (regroup5 (move_bytes from to number moving) (big_bytes 4 dest) (big_bytes 4 total) (big_bytes 4 offset) bytes)
    ∙ rw (
      move_again from to number moving (big_bytes 4 dest ++ place) f t n m,
      number_again 4 dest place d,
      number_again 4 total (big_bytes 4 offset ++ bytes) a,
      number_again 4 offset bytes o,
    ) refl

move_ack_again : (from to : Pid) (number moving received : ℕ) → IsPid from → IsPid to → number < 256 ^ 8 → moving < 256 ^ 8 →
    received < 256 ^ 4 →
    move_ack_of (move_bytes from to number moving ++ big_bytes 4 received) ≡ Some (MoveAck from to number moving received)
unfolding move_ack_of
move_ack_again from to number moving received f t n m r =
    rw (move_again from to number moving (big_bytes 4 received) f t n m, number_again 4 received [] r) refl

move_request_again : (from to : Pid) (number moving src total offset : ℕ) → IsPid from → IsPid to → number < 256 ^ 8 → moving < 256 ^ 8 →
    src < 256 ^ 4 → total < 256 ^ 4 → offset < 256 ^ 4 →
    move_request_of (move_bytes from to number moving ++ big_bytes 4 src ++ big_bytes 4 total ++ big_bytes 4 offset) ≡ Some
    (MoveRequest from to number moving src total offset)
unfolding move_request_of
move_request_again from to number moving src total offset f t n m s a o =
    let place = big_bytes 4 total ++ big_bytes 4 offset in
    ap move_request_of (regroup4 (move_bytes from to number moving) (big_bytes 4 src) (big_bytes 4 total) (big_bytes 4 offset))
    ∙ rw (
      move_again from to number moving (big_bytes 4 src ++ place) f t n m,
      number_again 4 src place s,
      number_again 4 total (big_bytes 4 offset) a,
      number_again 4 offset [] o,
    ) refl

move_bytes_again : (from to : Pid) (number moving total offset : ℕ) (bytes : List ℕ) → IsPid from → IsPid to → number < 256 ^ 8 →
    moving < 256 ^ 8 → total < 256 ^ 4 → offset < 256 ^ 4 →
    move_bytes_of (move_bytes from to number moving ++ big_bytes 4 total ++ big_bytes 4 offset ++ bytes) ≡ Some
    (MoveBytes from to number moving total offset bytes)
unfolding move_bytes_of
move_bytes_again from to number moving total offset bytes f t n m a o =
    ap move_bytes_of (regroup4 (move_bytes from to number moving) (big_bytes 4 total) (big_bytes 4 offset) bytes)
    ∙ rw (
      move_again from to number moving (big_bytes 4 total ++ (big_bytes 4 offset ++ bytes)) f t n m,
      number_again 4 total (big_bytes 4 offset ++ bytes) a,
      number_again 4 offset bytes o,
    ) refl

move_negative_again : (from to : Pid) (number moving : ℕ) → IsPid from → IsPid to → number < 256 ^ 8 → moving < 256 ^ 8 →
    move_negative_of (move_bytes from to number moving) ≡ Some (MoveNegative from to number moving)
unfolding move_negative_of
move_negative_again from to number moving f t n m =
    ap move_negative_of (sym (append-nil (move_bytes from to number moving))) ∙ rw (move_again from to number moving [] f t n m) refl

ask_pid_again : (asker : Pid) (lookup logical : ℕ) → IsPid asker → lookup < 256 ^ 8 → logical < 256 ^ 4 →
    ask_pid_of (pid_bytes asker ++ big_bytes 8 lookup ++ big_bytes 4 logical) ≡ Some (AskPid asker lookup logical)
unfolding ask_pid_of
ask_pid_again asker lookup logical a n l =
    rw (
      pid_again asker (big_bytes 8 lookup ++ big_bytes 4 logical) a,
      number_again 8 lookup (big_bytes 4 logical) n,
      number_again 4 logical [] l,
    ) refl

tell_pid_again : (found asker : Pid) (lookup : ℕ) → IsPid found → IsPid asker → lookup < 256 ^ 8 →
    tell_pid_of (pid_bytes found ++ pid_bytes asker ++ big_bytes 8 lookup) ≡ Some (TellPid found asker lookup)
unfolding tell_pid_of
tell_pid_again found asker lookup f a n =
    rw (pid_again found (pid_bytes asker ++ big_bytes 8 lookup) f, pid_again asker (big_bytes 8 lookup) a, number_again 8 lookup [] n) refl

fields_again : (kind : ℕ) (bytes : List ℕ) (p : Packet) → kind % 256 ≡ kind → kind < 256 ^ 1 → kind_of kind bytes ≡ Some p →
    fields_of (kind ∷ bytes) ≡ Some p
unfolding fields_of
fields_again kind bytes p byte below e =
    ap (λ (n : ℕ). fields_of (n ∷ bytes)) (sym byte) ∙ rw (number_again 1 kind bytes below) e

packet_again : (p : Packet) → is_lawful p ≡ true → fields_of (packet_bytes p) ≡ Some p → packet_of (packet_bytes p) ≡ Some p
unfolding packet_of
packet_again p lawful e = rw (e, lawful) refl

-- what lawful numbers and places are below
number_below : (n : ℕ) → is_number n ≡ true → n < 256 ^ 8
number_below n e = let below = ltb-true n (2 ^ 63) (and_parts (nat_lt 0 n) (nat_lt n (2 ^ 63)) e).1 in omega (arith, below)

record Below (p : Packet) : Type 0 where
  pub numbers : AllByRecursion (λ n. n < 256 ^ 8) (numbers_of p)
  pub fits : fits p ≡ true

numbers_below : (ns : List ℕ) → list_all is_number ns ≡ true → AllByRecursion (λ n. n < 256 ^ 8) ns
numbers_below [] e = tt
numbers_below (n ∷ ns) e = let both = and_parts (is_number n) (list_all is_number ns) e in (number_below n both.0, numbers_below ns both.1)

below : (p : Packet) → is_lawful p ≡ true → Below p
below p e = let both = and_parts (list_all is_number (numbers_of p)) (fits p) e in
    record { numbers = numbers_below (numbers_of p) both.0; fits = both.1 }

place_below : (total offset : ℕ) → is_place total offset ≡ true → (total < 256 ^ 4) × (offset < 256 ^ 4)
place_below total offset e =
    let last = and_parts (nat_lt 0 total && nat_le total 65536 && (offset % 1024 == 0)) (nat_lt offset total) e in
    let first = and_parts (nat_lt 0 total && nat_le total 65536) (offset % 1024 == 0) last.0 in
    let most = leb-true total 65536 (and_parts (nat_lt 0 total) (nat_le total 65536) first.0).1 in
    let less = ltb-true offset total last.1 in
    (omega (arith, most), omega (arith, most, less))

pub written_is_read : WrittenIsRead
unfolding kind_of
written_is_read (Send from to number message part) is e =
    let b = below (Send from to number message part) e in
    packet_again _ e (fields_again 1 _ _ refl (omega arith) (send_again from to number message part is.0 is.1 b.numbers.0 is.2))
written_is_read (Reply from to number message dest bytes) is e =
    let b = below (Reply from to number message dest bytes) e in
    let few = leb-true (length bytes) 512 b.fits in
    packet_again _ e (fields_again 2 _ _ refl (omega arith)
    (reply_again from to number message dest bytes is.0 is.1 b.numbers.0 is.2 (let d = is.3 in omega (arith, d)) (omega (arith, few))))
written_is_read (Pending from to number) is e =
    let b = below (Pending from to number) e in
    packet_again _ e (fields_again 3 _ _ refl (omega arith) (pending_again from to number is.0 is.1 b.numbers.0))
written_is_read (Negative from to number) is e =
    let b = below (Negative from to number) e in
    packet_again _ e (fields_again 4 _ _ refl (omega arith) (negative_again from to number is.0 is.1 b.numbers.0))
written_is_read (MoveData from to number moving dest total offset bytes) is e =
    let b = below (MoveData from to number moving dest total offset bytes) e in
    let place = place_below total offset (and_parts (is_place total offset) _ b.fits).0 in
    packet_again _ e (fields_again 5 _ _ refl (omega arith)
    (move_data_again from to number moving dest total offset bytes is.0 is.1 b.numbers.0 b.numbers.1.0
    (let d = is.2 in omega (arith, d)) place.0 place.1))
written_is_read (MoveAck from to number moving received) is e =
    let b = below (MoveAck from to number moving received) e in
    let few = leb-true received 65536 b.fits in
    packet_again _ e (fields_again 6 _ _ refl (omega arith)
    (move_ack_again from to number moving received is.0 is.1 b.numbers.0 b.numbers.1.0 (omega (arith, few))))
written_is_read (MoveRequest from to number moving src total offset) is e =
    let b = below (MoveRequest from to number moving src total offset) e in
    let place = place_below total offset b.fits in
    packet_again _ e (fields_again 7 _ _ refl (omega arith)
    (move_request_again from to number moving src total offset is.0 is.1 b.numbers.0 b.numbers.1.0 (let s = is.2 in omega (arith, s))
    place.0 place.1))
written_is_read (MoveBytes from to number moving total offset bytes) is e =
    let b = below (MoveBytes from to number moving total offset bytes) e in
    let place = place_below total offset (and_parts (is_place total offset) _ b.fits).0 in
    packet_again _ e (fields_again 8 _ _ refl (omega arith)
    (move_bytes_again from to number moving total offset bytes is.0 is.1 b.numbers.0 b.numbers.1.0 place.0 place.1))
written_is_read (MoveNegative from to number moving) is e =
    let b = below (MoveNegative from to number moving) e in
    packet_again _ e (fields_again 9 _ _ refl (omega arith) (move_negative_again from to number moving is.0 is.1 b.numbers.0 b.numbers.1.0))
written_is_read (AskPid asker lookup logical) is e =
    let b = below (AskPid asker lookup logical) e in
    packet_again _ e
    (fields_again 10 _ _ refl (omega arith) (ask_pid_again asker lookup logical is.0 b.numbers.0 (let l = is.1 in omega (arith, l))))
written_is_read (TellPid found asker lookup) is e =
    let b = below (TellPid found asker lookup) e in
    packet_again _ e (fields_again 11 _ _ refl (omega arith) (tell_pid_again found asker lookup is.0 is.1 b.numbers.0))
