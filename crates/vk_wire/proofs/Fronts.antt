-- What stands first in bytes is read exactly where its spelling does.
use Rattle.std.proofs.Common.{◌≡◌, ℕ, ◌^◌, ◌<◌, nat_le, true, List, ◌++◌, length, drop, Some, refl, sym, ap, subst, ◌∙◌, arith}
use borrow.Author.Tests.{le-leb, leb-true}
use Rattle.std.proofs.lemmas.List.{append_assoc, drop_at, length-append, length-take-le, take-append-drop, take_at}
use Rattle.std.proofs.lemmas.Option.{cond_some, same_Some}
use Rattle.byteorder.specs.Endian.{big_bytes, big_number}
use Rattle.byteorder.specs.Numbers.{big_from-lt, big_number-reads_back, length-bytes_high_first}
use Rattle.vk_types.specs.Types.{Message, Pid}
use Rattle.vk_base.proofs.PidLemmas.{numbers_of, own_numbers}
use Rattle.vk_base.proofs.OptionLemmas.{bind_is}
use Rattle.vk_base.specs.Messages.{IsMessage}
use Rattle.vk_base.specs.Pids.{IsPid, pid_of_numbers}
use Rattle.vk_wire.specs.Fields.{IsBytes, pid_bytes, number_at, pid_at, message_at, NumbersAreSpelledOnce, PidsAreSpelledOnce, MessagesAreSpelledOnce}
use Rattle.vk_wire.proofs.Numbers.{first_bytes, take_bytes, drop_bytes}

-- what a number that stands first leaves
pub record NumberStands (n : ℕ) (bytes : List ℕ) (x : ℕ) (rest : List ℕ) : Type 0 where
  pub bytes_are : bytes ≡ big_bytes n x ++ rest
  pub below : x < 256 ^ n
  pub rest_bytes : IsBytes rest

pub number_stands : (n : ℕ) (bytes : List ℕ) (r : ℕ × List ℕ) → IsBytes bytes → number_at n bytes ≡ Some r → NumberStands n bytes r.0 r.1
unfolding number_at
number_stands n bytes r h e =
    let is = cond_some (nat_le n (length bytes)) (big_number n bytes, drop n bytes) r e in
    let long = leb-true n (length bytes) is.0 in
    subst (λ (r : ℕ × List ℕ). NumberStands n bytes r.0 r.1) is.1 (record {
      bytes_are = sym (take-append-drop n bytes) ∙ ap (λ (front : List ℕ). front ++ drop n bytes) (first_bytes n bytes h long);
      below = big_from-lt 0 n bytes h;
      rest_bytes = drop_bytes n bytes h;
    })

pub number_again : (n x : ℕ) (rest : List ℕ) → x < 256 ^ n → number_at n (big_bytes n x ++ rest) ≡ Some (x, rest)
unfolding number_at
number_again n x rest h =
    let len = length-bytes_high_first n x in
    let long : nat_le n (length (big_bytes n x ++ rest)) ≡ true =
    le-leb n (length (big_bytes n x ++ rest)) (let e = length-append (big_bytes n x) rest in omega (arith, len, e)) in
    rw (long, big_number-reads_back n x rest h, drop_at (big_bytes n x) rest n len) refl

pub numbers : (n : ℕ) → NumbersAreSpelledOnce n
numbers n = record {
  read = λ bytes rest x h e. let s = number_stands n bytes (x, rest) h e in (s.bytes_are, s.below);
  written = number_again n;
}

pub record PidStands (bytes : List ℕ) (p : Pid) (rest : List ℕ) : Type 0 where
  pub bytes_are : bytes ≡ pid_bytes p ++ rest
  pub is : IsPid p
  pub rest_bytes : IsBytes rest

pid_stands_by : (bytes : List ℕ) (host local : ℕ × List ℕ) (p : Pid) → NumberStands 2 bytes host.0 host.1 → NumberStands 2 host.1 local.0 local.1 →
    pid_of_numbers host.0 local.0 ≡ Some p → PidStands bytes p local.1
pid_stands_by bytes host local p h l e =
    let n = numbers_of host.0 local.0 p e in
    let joined : bytes ≡ big_bytes 2 host.0 ++ (big_bytes 2 local.0 ++ local.1) = h.bytes_are
    ∙ ap (λ (rest : List ℕ). big_bytes 2 host.0 ++ rest) l.bytes_are in
    let named : bytes ≡ big_bytes 2 p.host ++ (big_bytes 2 p.local ++ local.1) =
    subst (λ (n : ℕ). bytes ≡ big_bytes 2 n ++ (big_bytes 2 p.local ++ local.1)) n.0
    (subst (λ (n : ℕ). bytes ≡ big_bytes 2 host.0 ++ (big_bytes 2 n ++ local.1)) n.1 joined) in
    record {
      bytes_are = named ∙ sym (append_assoc (big_bytes 2 p.host) (big_bytes 2 p.local) local.1);
      is = subst (λ (n : ℕ). n < 2 ^ 16) n.1 (omega (arith, l.below));
      rest_bytes = l.rest_bytes;
    }

pub pid_stands : (bytes : List ℕ) (r : Pid × List ℕ) → IsBytes bytes → pid_at bytes ≡ Some r → PidStands bytes r.0 r.1
unfolding pid_at
pid_stands bytes r b e =
    let host = bind_is (number_at 2 bytes) _ r e in
    let local = bind_is (number_at 2 host.0.1) _ r host.2 in
    let pid = bind_is (pid_of_numbers host.0.0 local.0.0) _ r local.2 in
    let h = number_stands 2 bytes host.0 b host.1 in
    let l = number_stands 2 host.0.1 local.0 h.rest_bytes local.1 in
    subst (λ (r : Pid × List ℕ). PidStands bytes r.0 r.1) (same_Some _ r pid.2) (pid_stands_by bytes host.0 local.0 pid.0 h l pid.1)

pub pid_again : (p : Pid) (rest : List ℕ) → IsPid p → pid_at (pid_bytes p ++ rest) ≡ Some (p, rest)
unfolding pid_at
pid_again p rest h =
    let one = p.one_host in
    let host = number_again 2 p.host (big_bytes 2 p.local ++ rest) (omega (arith, one)) in
    let local = number_again 2 p.local rest (omega (arith, h)) in
    ap pid_at (append_assoc (big_bytes 2 p.host) (big_bytes 2 p.local) rest) ∙ rw (host, local, own_numbers p) refl

pub record MessageStands (bytes : List ℕ) (m : Message) (rest : List ℕ) : Type 0 where
  pub bytes_are : bytes ≡ m.0 ++ rest
  pub is : IsMessage m
  pub rest_bytes : IsBytes rest

pub message_stands : (bytes : List ℕ) (r : Message × List ℕ) → IsBytes bytes → message_at bytes ≡ Some r → MessageStands bytes r.0 r.1
unfolding message_at
message_stands bytes r h e =
    let is = cond_some (nat_le 32 (length bytes)) _ r e in
    let long = leb-true 32 (length bytes) is.0 in
    subst (λ (r : Message × List ℕ). MessageStands bytes r.0 r.1) is.1 (record {
      bytes_are = sym (take-append-drop 32 bytes);
      is = (length-take-le 32 bytes long, take_bytes 32 bytes h);
      rest_bytes = drop_bytes 32 bytes h;
    })

pub message_again : (m : Message) (rest : List ℕ) → IsMessage m → message_at (m.0 ++ rest) ≡ Some (m, rest)
unfolding message_at
message_again m rest h =
    let long : nat_le 32 (length (m.0 ++ rest)) ≡ true =
    le-leb 32 (length (m.0 ++ rest)) (let e = length-append m.0 rest in omega (arith, h.0, e)) in
    rw (long, take_at m.0 rest 32 h.0, drop_at m.0 rest 32 h.0) refl

pub pids : PidsAreSpelledOnce
pids = record {
  read = λ bytes rest p h e. let s = pid_stands bytes (p, rest) h e in (s.bytes_are, s.is);
  written = pid_again;
}

pub messages : MessagesAreSpelledOnce
messages = record {
  read = λ bytes rest m h e. let s = message_stands bytes (m, rest) h e in (s.bytes_are, s.is);
  written = message_again;
}
