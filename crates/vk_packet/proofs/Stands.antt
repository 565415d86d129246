-- What is read as a packet is spelled so.
use Rattle.std.proofs.Common.{◌≡◌, ℕ, ◌==◌, Bool, true, false, List, [], ◌∷◌, ◌++◌, drop, length, slice_index, Option, Some, if◌then◌else◌, refl, sym, ap, subst, ◌∙◌, append_assoc, ◌%◌, arith}
use Rattle.std.proofs.Math.Nat.{mod-eq_of_lt}
use Rattle.std.proofs.lemmas.Bool.{eqb-true}
use Rattle.std.proofs.lemmas.List.{append-nil}
use Rattle.std.proofs.lemmas.Option.{cond_some, same_Some, none-some}
use Rattle.byteorder.specs.Endian.{big_bytes}
use Rattle.vk_types.specs.Types.{Pid}
use Rattle.vk_base.specs.Packets.{Packet, Send, Reply, Pending, Negative, MoveData, MoveAck, MoveRequest, MoveBytes, MoveNegative, AskPid, TellPid}
use Rattle.vk_base.specs.Pids.{IsPid}
use Rattle.vk_base.proofs.OptionLemmas.{bind_is}
use Rattle.vk_wire.specs.Fields.{IsBytes, pid_bytes, number_at, pid_at, message_at}
use Rattle.vk_wire.proofs.Fronts.{number_stands, pid_stands, message_stands}
use Rattle.vk_packet.specs.Laws.{NothingElseIsRead}
use Rattle.vk_packet.specs.Reading.{exchange_at, move_at, ended, send_of, reply_of, pending_of, negative_of, move_data_of, move_ack_of, move_request_of, move_bytes_of, move_negative_of, ask_pid_of, tell_pid_of, kind_of, fields_of, packet_of}
use Rattle.vk_packet.specs.Rules.{IsPacket, is_lawful}
use Rattle.vk_packet.specs.Spelling.{exchange_bytes, move_bytes, packet_bytes}

-- a text, and a field more
joined : (bytes a mid b rest : List ℕ) → bytes ≡ a ++ mid → mid ≡ b ++ rest → bytes ≡ a ++ b ++ rest
joined bytes a mid b rest e f = e ∙ ap (λ (l : List ℕ). a ++ l) f ∙ sym (append_assoc a b rest)

record Exchange (bytes : List ℕ) (x : Pid × Pid × ℕ × List ℕ) : Type 0 where
  bytes_are : bytes ≡ exchange_bytes x.0 x.1 x.2 ++ x.3
  from : IsPid x.0
  to : IsPid x.1
  rest_bytes : IsBytes x.3

exchange_stands : (bytes : List ℕ) (x : Pid × Pid × ℕ × List ℕ) → IsBytes bytes → exchange_at bytes ≡ Some x → Exchange bytes x
unfolding exchange_at exchange_bytes
exchange_stands bytes x b e =
    let from = bind_is (pid_at bytes) _ x e in
    let to = bind_is (pid_at from.0.1) _ x from.2 in
    let number = bind_is (number_at 8 to.0.1) _ x to.2 in
    let f = pid_stands bytes from.0 b from.1 in
    let t = pid_stands from.0.1 to.0 f.rest_bytes to.1 in
    let n = number_stands 8 to.0.1 number.0 t.rest_bytes number.1 in
    let pair = joined bytes (pid_bytes from.0.0) from.0.1 (pid_bytes to.0.0) to.0.1 f.bytes_are t.bytes_are in
    subst (Exchange bytes) (same_Some _ x number.2) (record {
      bytes_are = joined bytes (pid_bytes from.0.0 ++ pid_bytes to.0.0) to.0.1 (big_bytes 8 number.0.0) number.0.1 pair n.bytes_are;
      from = f.is;
      to = t.is;
      rest_bytes = n.rest_bytes;
    })

record Move (bytes : List ℕ) (x : Pid × Pid × ℕ × ℕ × List ℕ) : Type 0 where
  bytes_are : bytes ≡ move_bytes x.0 x.1 x.2 x.3 ++ x.4
  from : IsPid x.0
  to : IsPid x.1
  rest_bytes : IsBytes x.4

move_stands : (bytes : List ℕ) (x : Pid × Pid × ℕ × ℕ × List ℕ) → IsBytes bytes → move_at bytes ≡ Some x → Move bytes x
unfolding move_at move_bytes
move_stands bytes x b e =
    let front = bind_is (exchange_at bytes) _ x e in
    let moving = bind_is (number_at 8 front.0.3) _ x front.2 in
    let f = exchange_stands bytes front.0 b front.1 in
    let m = number_stands 8 front.0.3 moving.0 f.rest_bytes moving.1 in
    subst (Move bytes) (same_Some _ x moving.2) (record {
      bytes_are =
          joined bytes (exchange_bytes front.0.0 front.0.1 front.0.2) front.0.3 (big_bytes 8 moving.0.0) moving.0.1 f.bytes_are m.bytes_are;
      from = f.from;
      to = f.to;
      rest_bytes = m.rest_bytes;
    })

record Stands (kind : ℕ) (bytes : List ℕ) (p : Packet) : Type 0 where
  bytes_are : kind ∷ bytes ≡ packet_bytes p
  is : IsPacket p

-- the kind, and what stands behind it
abbrev kind_byte : Packet → ℕ
kind_byte p = slice_index (packet_bytes p) 0

abbrev behind : Packet → List ℕ
behind p = drop 1 (packet_bytes p)

kind_first : (p : Packet) → kind_byte p ∷ behind p ≡ packet_bytes p
kind_first (Send from to number message part) = refl
kind_first (Reply from to number message dest bytes) = refl
kind_first (Pending from to number) = refl
kind_first (Negative from to number) = refl
kind_first (MoveData from to number moving dest total offset bytes) = refl
kind_first (MoveAck from to number moving received) = refl
kind_first (MoveRequest from to number moving src total offset) = refl
kind_first (MoveBytes from to number moving total offset bytes) = refl
kind_first (MoveNegative from to number moving) = refl
kind_first (AskPid asker lookup logical) = refl
kind_first (TellPid found asker lookup) = refl

-- the packet that was found is this one
whole : (bytes : List ℕ) (q p : Packet) → Some q ≡ Some p → bytes ≡ behind q → IsPacket q → Stands (kind_byte q) bytes p
whole bytes q p e is fits =
    subst (Stands (kind_byte q) bytes) (same_Some q p e)
    (record { bytes_are = ap (λ (l : List ℕ). kind_byte q ∷ l) is ∙ kind_first q; is = fits })

-- the same where no byte is left
closed : (bytes rest : List ℕ) (q p : Packet) → ended rest q ≡ Some p → bytes ≡ behind q ++ rest → IsPacket q → Stands (kind_byte q) bytes p
closed bytes [] q p e is fits = whole bytes q p e (is ∙ append-nil (behind q)) fits
closed bytes (b ∷ bs) q p e is fits = absurd (none-some p e)

send_stands : (bytes : List ℕ) (p : Packet) → IsBytes bytes → send_of bytes ≡ Some p → Stands 1 bytes p
unfolding send_of
send_stands bytes p b e =
    let front = bind_is (exchange_at bytes) _ p e in
    let message = bind_is (message_at front.0.3) _ p front.2 in
    let f = exchange_stands bytes front.0 b front.1 in
    let m = message_stands front.0.3 message.0 f.rest_bytes message.1 in
    whole bytes (Send front.0.0 front.0.1 front.0.2 message.0.0 message.0.1) p message.2 (joined bytes _ _ _ _ f.bytes_are m.bytes_are)
    (f.from, f.to, m.is, m.rest_bytes)

reply_stands : (bytes : List ℕ) (p : Packet) → IsBytes bytes → reply_of bytes ≡ Some p → Stands 2 bytes p
unfolding reply_of
reply_stands bytes p b e =
    let front = bind_is (exchange_at bytes) _ p e in
    let message = bind_is (message_at front.0.3) _ p front.2 in
    let dest = bind_is (number_at 4 message.0.1) _ p message.2 in
    let count = bind_is (number_at 2 dest.0.1) _ p dest.2 in
    let chosen = cond_some (count.0.0 == length count.0.1) _ p count.2 in
    let f = exchange_stands bytes front.0 b front.1 in
    let m = message_stands front.0.3 message.0 f.rest_bytes message.1 in
    let d = number_stands 4 message.0.1 dest.0 m.rest_bytes dest.1 in
    let n = number_stands 2 dest.0.1 count.0 d.rest_bytes count.1 in
    let counted : dest.0.1 ≡ big_bytes 2 (length count.0.1) ++ count.0.1 =
    subst (λ (n : ℕ). dest.0.1 ≡ big_bytes 2 n ++ count.0.1) (eqb-true count.0.0 (length count.0.1) chosen.0) n.bytes_are in
    let text = exchange_bytes front.0.0 front.0.1 front.0.2 in
    let one = joined bytes text front.0.3 message.0.0.0 message.0.1 f.bytes_are m.bytes_are in
    let two = joined bytes (text ++ message.0.0.0) message.0.1 (big_bytes 4 dest.0.0) dest.0.1 one d.bytes_are in
    let three =
    joined bytes (text ++ message.0.0.0 ++ big_bytes 4 dest.0.0) dest.0.1 (big_bytes 2 (length count.0.1)) count.0.1 two counted in
    whole bytes (Reply front.0.0 front.0.1 front.0.2 message.0.0 dest.0.0 count.0.1) p (ap Some chosen.1) three
    (f.from, f.to, m.is, d.below, n.rest_bytes)

pending_stands : (bytes : List ℕ) (p : Packet) → IsBytes bytes → pending_of bytes ≡ Some p → Stands 3 bytes p
unfolding pending_of
pending_stands bytes p b e =
    let front = bind_is (exchange_at bytes) _ p e in
    let f = exchange_stands bytes front.0 b front.1 in
    closed bytes front.0.3 (Pending front.0.0 front.0.1 front.0.2) p front.2 f.bytes_are (f.from, f.to)

negative_stands : (bytes : List ℕ) (p : Packet) → IsBytes bytes → negative_of bytes ≡ Some p → Stands 4 bytes p
unfolding negative_of
negative_stands bytes p b e =
    let front = bind_is (exchange_at bytes) _ p e in
    let f = exchange_stands bytes front.0 b front.1 in
    closed bytes front.0.3 (Negative front.0.0 front.0.1 front.0.2) p front.2 f.bytes_are (f.from, f.to)

move_data_stands : (bytes : List ℕ) (p : Packet) → IsBytes bytes → move_data_of bytes ≡ Some p → Stands 5 bytes p
unfolding move_data_of
move_data_stands bytes p b e =
    let front = bind_is (move_at bytes) _ p e in
    let dest = bind_is (number_at 4 front.0.4) _ p front.2 in
    let total = bind_is (number_at 4 dest.0.1) _ p dest.2 in
    let offset = bind_is (number_at 4 total.0.1) _ p total.2 in
    let f = move_stands bytes front.0 b front.1 in
    let d = number_stands 4 front.0.4 dest.0 f.rest_bytes dest.1 in
    let t = number_stands 4 dest.0.1 total.0 d.rest_bytes total.1 in
    let o = number_stands 4 total.0.1 offset.0 t.rest_bytes offset.1 in
    let text = move_bytes front.0.0 front.0.1 front.0.2 front.0.3 in
    let one = joined bytes text front.0.4 (big_bytes 4 dest.0.0) dest.0.1 f.bytes_are d.bytes_are in
    let two = joined bytes (text ++ big_bytes 4 dest.0.0) dest.0.1 (big_bytes 4 total.0.0) total.0.1 one t.bytes_are in
    let three = joined bytes (text ++ big_bytes 4 dest.0.0 ++ big_bytes 4 total.0.0) total.0.1 (big_bytes 4 offset.0.0) offset.0.1 two
    o.bytes_are in
    whole bytes (MoveData front.0.0 front.0.1 front.0.2 front.0.3 dest.0.0 total.0.0 offset.0.0 offset.0.1) p offset.2 three
    (f.from, f.to, d.below, o.rest_bytes)

move_ack_stands : (bytes : List ℕ) (p : Packet) → IsBytes bytes → move_ack_of bytes ≡ Some p → Stands 6 bytes p
unfolding move_ack_of
move_ack_stands bytes p b e =
    let front = bind_is (move_at bytes) _ p e in
    let received = bind_is (number_at 4 front.0.4) _ p front.2 in
    let f = move_stands bytes front.0 b front.1 in
    let r = number_stands 4 front.0.4 received.0 f.rest_bytes received.1 in
    let text = move_bytes front.0.0 front.0.1 front.0.2 front.0.3 in
    let one = joined bytes text front.0.4 (big_bytes 4 received.0.0) received.0.1 f.bytes_are r.bytes_are in
    closed bytes received.0.1 (MoveAck front.0.0 front.0.1 front.0.2 front.0.3 received.0.0) p received.2 one (f.from, f.to)

move_request_stands : (bytes : List ℕ) (p : Packet) → IsBytes bytes → move_request_of bytes ≡ Some p → Stands 7 bytes p
unfolding move_request_of
move_request_stands bytes p b e =
    let front = bind_is (move_at bytes) _ p e in
    let src = bind_is (number_at 4 front.0.4) _ p front.2 in
    let total = bind_is (number_at 4 src.0.1) _ p src.2 in
    let offset = bind_is (number_at 4 total.0.1) _ p total.2 in
    let f = move_stands bytes front.0 b front.1 in
    let s = number_stands 4 front.0.4 src.0 f.rest_bytes src.1 in
    let t = number_stands 4 src.0.1 total.0 s.rest_bytes total.1 in
    let o = number_stands 4 total.0.1 offset.0 t.rest_bytes offset.1 in
    let text = move_bytes front.0.0 front.0.1 front.0.2 front.0.3 in
    let one = joined bytes text front.0.4 (big_bytes 4 src.0.0) src.0.1 f.bytes_are s.bytes_are in
    let two = joined bytes (text ++ big_bytes 4 src.0.0) src.0.1 (big_bytes 4 total.0.0) total.0.1 one t.bytes_are in
    let three =
    joined bytes (text ++ big_bytes 4 src.0.0 ++ big_bytes 4 total.0.0) total.0.1 (big_bytes 4 offset.0.0) offset.0.1 two o.bytes_are in
    closed bytes offset.0.1 (MoveRequest front.0.0 front.0.1 front.0.2 front.0.3 src.0.0 total.0.0 offset.0.0) p offset.2 three
    (f.from, f.to, s.below)

move_bytes_stands : (bytes : List ℕ) (p : Packet) → IsBytes bytes → move_bytes_of bytes ≡ Some p → Stands 8 bytes p
unfolding move_bytes_of
move_bytes_stands bytes p b e =
    let front = bind_is (move_at bytes) _ p e in
    let total = bind_is (number_at 4 front.0.4) _ p front.2 in
    let offset = bind_is (number_at 4 total.0.1) _ p total.2 in
    let f = move_stands bytes front.0 b front.1 in
    let t = number_stands 4 front.0.4 total.0 f.rest_bytes total.1 in
    let o = number_stands 4 total.0.1 offset.0 t.rest_bytes offset.1 in
    let text = move_bytes front.0.0 front.0.1 front.0.2 front.0.3 in
    let one = joined bytes text front.0.4 (big_bytes 4 total.0.0) total.0.1 f.bytes_are t.bytes_are in
    let two = joined bytes (text ++ big_bytes 4 total.0.0) total.0.1 (big_bytes 4 offset.0.0) offset.0.1 one o.bytes_are in
    whole bytes (MoveBytes front.0.0 front.0.1 front.0.2 front.0.3 total.0.0 offset.0.0 offset.0.1) p offset.2 two
    (f.from, f.to, o.rest_bytes)

move_negative_stands : (bytes : List ℕ) (p : Packet) → IsBytes bytes → move_negative_of bytes ≡ Some p → Stands 9 bytes p
unfolding move_negative_of
move_negative_stands bytes p b e =
    let front = bind_is (move_at bytes) _ p e in
    let f = move_stands bytes front.0 b front.1 in
    closed bytes front.0.4 (MoveNegative front.0.0 front.0.1 front.0.2 front.0.3) p front.2 f.bytes_are (f.from, f.to)

ask_pid_stands : (bytes : List ℕ) (p : Packet) → IsBytes bytes → ask_pid_of bytes ≡ Some p → Stands 10 bytes p
unfolding ask_pid_of
ask_pid_stands bytes p b e =
    let asker = bind_is (pid_at bytes) _ p e in
    let lookup = bind_is (number_at 8 asker.0.1) _ p asker.2 in
    let logical = bind_is (number_at 4 lookup.0.1) _ p lookup.2 in
    let a = pid_stands bytes asker.0 b asker.1 in
    let n = number_stands 8 asker.0.1 lookup.0 a.rest_bytes lookup.1 in
    let l = number_stands 4 lookup.0.1 logical.0 n.rest_bytes logical.1 in
    let text = pid_bytes asker.0.0 in
    let one = joined bytes text asker.0.1 (big_bytes 8 lookup.0.0) lookup.0.1 a.bytes_are n.bytes_are in
    let two = joined bytes (text ++ big_bytes 8 lookup.0.0) lookup.0.1 (big_bytes 4 logical.0.0) logical.0.1 one l.bytes_are in
    closed bytes logical.0.1 (AskPid asker.0.0 lookup.0.0 logical.0.0) p logical.2 two (a.is, l.below)

tell_pid_stands : (bytes : List ℕ) (p : Packet) → IsBytes bytes → tell_pid_of bytes ≡ Some p → Stands 11 bytes p
unfolding tell_pid_of
tell_pid_stands bytes p b e =
    let name = bind_is (pid_at bytes) _ p e in
    let asker = bind_is (pid_at name.0.1) _ p name.2 in
    let lookup = bind_is (number_at 8 asker.0.1) _ p asker.2 in
    let f = pid_stands bytes name.0 b name.1 in
    let a = pid_stands name.0.1 asker.0 f.rest_bytes asker.1 in
    let n = number_stands 8 asker.0.1 lookup.0 a.rest_bytes lookup.1 in
    let text = pid_bytes name.0.0 in
    let one = joined bytes text name.0.1 (pid_bytes asker.0.0) asker.0.1 f.bytes_are a.bytes_are in
    let two = joined bytes (text ++ pid_bytes asker.0.0) asker.0.1 (big_bytes 8 lookup.0.0) lookup.0.1 one n.bytes_are in
    closed bytes lookup.0.1 (TellPid name.0.0 asker.0.0 lookup.0.0) p lookup.2 two (f.is, a.is)

-- a kind is this one, or one of the others
this_or_other : (R : Type 0) (kind k : ℕ) (x y : Option Packet) (p : Packet) → (kind ≡ k → x ≡ Some p → R) → (y ≡ Some p → R) →
    (if kind == k then x else y) ≡ Some p → R
this_or_other R kind k x y p this other e = by_test (kind == k) refl e
  where
    by_test : (t : Bool) → (kind == k) ≡ t → (if t then x else y) ≡ Some p → R
    by_test true is e = this (eqb-true kind k is) e
    by_test false is e = other e

of_kind : (kind k : ℕ) (bytes : List ℕ) (p : Packet) → kind ≡ k → Stands k bytes p → Stands kind bytes p
of_kind kind k bytes p e s = subst (λ (n : ℕ). Stands n bytes p) (sym e) s

kind_stands : (kind : ℕ) (bytes : List ℕ) (p : Packet) → IsBytes bytes → kind_of kind bytes ≡ Some p → Stands kind bytes p
unfolding kind_of
kind_stands kind bytes p b =
    let R = Stands kind bytes p in
    this_or_other R kind 1 _ _ p (λ k e. of_kind kind 1 bytes p k (send_stands bytes p b e))
    (this_or_other R kind 2 _ _ p (λ k e. of_kind kind 2 bytes p k (reply_stands bytes p b e))
    (this_or_other R kind 3 _ _ p (λ k e. of_kind kind 3 bytes p k (pending_stands bytes p b e))
    (this_or_other R kind 4 _ _ p (λ k e. of_kind kind 4 bytes p k (negative_stands bytes p b e))
    (this_or_other R kind 5 _ _ p (λ k e. of_kind kind 5 bytes p k (move_data_stands bytes p b e))
    (this_or_other R kind 6 _ _ p (λ k e. of_kind kind 6 bytes p k (move_ack_stands bytes p b e))
    (this_or_other R kind 7 _ _ p (λ k e. of_kind kind 7 bytes p k (move_request_stands bytes p b e))
    (this_or_other R kind 8 _ _ p (λ k e. of_kind kind 8 bytes p k (move_bytes_stands bytes p b e))
    (this_or_other R kind 9 _ _ p (λ k e. of_kind kind 9 bytes p k (move_negative_stands bytes p b e))
    (this_or_other R kind 10 _ _ p (λ k e. of_kind kind 10 bytes p k (ask_pid_stands bytes p b e))
    (this_or_other R kind 11 _ _ p (λ k e. of_kind kind 11 bytes p k (tell_pid_stands bytes p b e)) (λ e. absurd (none-some p e))))))))))))

fields_stand : (bytes : List ℕ) (p : Packet) → IsBytes bytes → fields_of bytes ≡ Some p → (bytes ≡ packet_bytes p) × IsPacket p
unfolding fields_of
fields_stand bytes p b e =
    let kind = bind_is (number_at 1 bytes) _ p e in
    let k = number_stands 1 bytes kind.0 b kind.1 in
    let s = kind_stands kind.0.0 kind.0.1 p k.rest_bytes kind.2 in
    let byte : kind.0.0 % 256 ≡ kind.0.0 = mod-eq_of_lt (omega (arith, k.below)) in
    (k.bytes_are ∙ ap (λ (n : ℕ). n ∷ kind.0.1) byte ∙ s.bytes_are, s.is)

pub nothing_else_is_read : NothingElseIsRead
unfolding packet_of
nothing_else_is_read bytes p b e =
    let found = bind_is (fields_of bytes) _ p e in
    let lawful = cond_some (is_lawful found.0) found.0 p found.2 in
    let s = fields_stand bytes found.0 b found.1 in
    subst (λ (p : Packet). (bytes ≡ packet_bytes p) × (is_lawful p ≡ true) × IsPacket p) lawful.1 (s.0, lawful.0, s.1)
