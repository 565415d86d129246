-- A datagram that is kept has at least 33 bytes: those of a header, and something behind it.
use Rattle.std.proofs.Common.{◌≡◌, ℕ, ◌+◌, ◌≤◌, ◌==◌, ◌&&◌, nat_le, not, Bool, true, List, drop, length, Option, Some, None, refl, ap, arith}
use Rattle.std.proofs.lemmas.Bool.{and_parts, leb-true}
use Rattle.std.proofs.lemmas.List.{length-drop}
use Rattle.std.proofs.lemmas.Option.{cond_some}
use Rattle.byteorder.specs.Endian.{big_number}
use Rattle.vk_base.proofs.OptionLemmas.{bind_is}
use Rattle.vk_base.specs.Kernel.{holds_of}
use Rattle.std.specs.Option.{option_map}
use Rattle.vk_frame.specs.declared.header.Header.{Header}
unfoldable use Rattle.vk_frame.specs.Reading.{frame_of}
use Rattle.vk_frame.specs.Reading.{opens}
use Rattle.vk_frame.specs.Rules.{is_lawful}
use Rattle.vk_frame.specs.Spelling.{mark}
use Rattle.vk_frame.proofs.Opening.{filled_by}
unfoldable use Rattle.vk_wire.specs.Fields.{number_at}

field_length : (n : ℕ) (bytes : List ℕ) (r : ℕ × List ℕ) → number_at n bytes ≡ Some r → length bytes ≡ n + length r.1
unfolding number_at
field_length n bytes r is =
    let at = cond_some (nat_le n (length bytes)) (big_number n bytes, drop n bytes) r is in
    let long = leb-true n (length bytes) at.0 in
    let rest : length (drop n bytes) ≡ length r.1 = ap (λ (x : ℕ × List ℕ). length x.1) at.1 in
    let left = length-drop n bytes in
    omega arith

all_fields : (l a b c d e f g : ℕ) → l ≡ 2 + a → a ≡ 2 + b → b ≡ 2 + c → c ≡ 8 + d → d ≡ 8 + e → e ≡ 8 + f → f ≡ 2 + g → 1 ≤ g → 33 ≤ l
all_fields l a b c d e f g h i j m n o p some = omega arith

frame_long : (bytes : List ℕ) (r : Header × List ℕ) → frame_of bytes ≡ Some r → 33 ≤ length bytes
unfolding frame_of
frame_long bytes r found =
    let first = bind_is (number_at 2 bytes) _ r found in
    let source = bind_is (number_at 2 first.0.1) _ r first.2 in
    let destination = bind_is (number_at 2 source.0.1) _ r source.2 in
    let stamp = bind_is (number_at 8 destination.0.1) _ r destination.2 in
    let number = bind_is (number_at 8 stamp.0.1) _ r stamp.2 in
    let event = bind_is (number_at 8 number.0.1) _ r number.2 in
    let output = bind_is (number_at 2 event.0.1) _ r event.2 in
    let h : Header = record {
      source = source.0.0;
      destination = destination.0.0;
      stamp = stamp.0.0;
      number = number.0.0;
      event = event.0.0;
      output = output.0.0;
    } in
    let is = cond_some (opens first.0.0 h output.0.1) (h, output.0.1) r output.2 in
    all_fields _ _ _ _ _ _ _ _ (field_length 2 bytes first.0 first.1) (field_length 2 first.0.1 source.0 source.1)
    (field_length 2 source.0.1 destination.0 destination.1) (field_length 8 destination.0.1 stamp.0 stamp.1)
    (field_length 8 stamp.0.1 number.0 number.1) (field_length 8 number.0.1 event.0 event.1) (field_length 2 event.0.1 output.0 output.1)
    (filled_by output.0.1 (and_parts ((first.0.0 == mark) && is_lawful h) (not (length output.0.1 == 0)) is.0).1)

pub opened_long : (bytes : List ℕ) (test : Header → Bool)
    → holds_of test (option_map (λ (h : Header × List ℕ). h.0) (frame_of bytes)) ≡ true → 33 ≤ length bytes
opened_long bytes test holds = by (frame_of bytes) refl holds
  where
    by : (o : Option (Header × List ℕ)) → frame_of bytes ≡ o → holds_of test (option_map (λ (h : Header × List ℕ). h.0) o) ≡ true
        → 33 ≤ length bytes
    by None is holds = absurd (cc holds)
    by (Some r) is holds = frame_long bytes r is
