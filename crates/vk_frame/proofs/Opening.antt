-- What bytes open as is what they spell.
use Rattle.std.proofs.Common.{◌≡◌, ℕ, ◌^◌, ◌<◌, ◌≤◌, ◌==◌, not, Bool, true, false, ◌&&◌, List, ◌++◌, length, Some, IsTrue, refl, subst, arith}
use Rattle.std.proofs.lemmas.Bool.{eqb-true}
use Rattle.std.proofs.lemmas.Grind.{common_steps}
use Rattle.std.proofs.lemmas.Option.{cond_some}
use Rattle.byteorder.specs.Endian.{big_bytes}
use Rattle.vk_base.proofs.OptionLemmas.{bind_is}
use Rattle.vk_frame.specs.Law.{FramesAreSpelledOnce}
use Rattle.vk_frame.specs.Reading.{opens, frame_of}
use Rattle.vk_frame.specs.Rules.{is_lawful}
use Rattle.vk_frame.specs.Spelling.{mark, header_bytes, frame_bytes}
use Rattle.vk_frame.specs.declared.header.Header.{Header}
use Rattle.vk_wire.specs.Fields.{IsBytes, number_at}
use Rattle.vk_wire.proofs.Fronts.{number_stands, number_again}

-- what stands where bytes open
pub record IsFrameOpened (bytes : List ℕ) (h : Header) (rest : List ℕ) : Type 0 where
  pub bytes_are : bytes ≡ frame_bytes h rest
  pub lawful : IsTrue (is_lawful h)
  pub filled : 1 ≤ length rest

-- fields that stand behind one another
joined : (bytes b c d e f g rest : List ℕ) (h : Header) → bytes ≡ big_bytes 2 mark ++ b → b ≡ big_bytes 2 h.source ++ c →
    c ≡ big_bytes 2 h.destination ++ d → d ≡ big_bytes 8 h.stamp ++ e → e ≡ big_bytes 8 h.number ++ f → f ≡ big_bytes 8 h.event ++ g →
    g ≡ big_bytes 2 h.output ++ rest → bytes ≡ frame_bytes h rest
unfolding header_bytes
joined bytes b c d e f g rest h p q r s t u v = cc

three : (a b c : Bool) → (a && b && c) ≡ true → (a ≡ true) × (b ≡ true) × (c ≡ true)
three true true c e = (refl, refl, e)
three true false c e = absurd (grind (arith, e))
three false b c e = absurd (grind (arith, e))

pub filled_by : (rest : List ℕ) → not (length rest == 0) ≡ true → 1 ≤ length rest
filled_by rest e = grind (arith, common_steps)

pub opened : (bytes : List ℕ) (r : Header × List ℕ) → IsBytes bytes → frame_of bytes ≡ Some r → IsFrameOpened bytes r.0 r.1
unfolding frame_of
opened bytes r b found =
    let first = bind_is (number_at 2 bytes) _ r found in
    let source = bind_is (number_at 2 first.0.1) _ r first.2 in
    let destination = bind_is (number_at 2 source.0.1) _ r source.2 in
    let stamp = bind_is (number_at 8 destination.0.1) _ r destination.2 in
    let number = bind_is (number_at 8 stamp.0.1) _ r stamp.2 in
    let event = bind_is (number_at 8 number.0.1) _ r number.2 in
    let output = bind_is (number_at 2 event.0.1) _ r event.2 in
    let h : Header = record {
      source = source.0.0;
      destination = destination.0.0;
      stamp = stamp.0.0;
      number = number.0.0;
      event = event.0.0;
      output = output.0.0;
    } in
    let is = cond_some (opens first.0.0 h output.0.1) (h, output.0.1) r output.2 in
    let tests = three (first.0.0 == mark) (is_lawful h) (not (length output.0.1 == 0)) is.0 in
    let f = number_stands 2 bytes first.0 b first.1 in
    let s = number_stands 2 first.0.1 source.0 f.rest_bytes source.1 in
    let d = number_stands 2 source.0.1 destination.0 s.rest_bytes destination.1 in
    let t = number_stands 8 destination.0.1 stamp.0 d.rest_bytes stamp.1 in
    let n = number_stands 8 stamp.0.1 number.0 t.rest_bytes number.1 in
    let e = number_stands 8 number.0.1 event.0 n.rest_bytes event.1 in
    let o = number_stands 2 event.0.1 output.0 e.rest_bytes output.1 in
    let marked : bytes ≡ big_bytes 2 mark ++ first.0.1 =
    subst (λ (m : ℕ). bytes ≡ big_bytes 2 m ++ first.0.1) (eqb-true first.0.0 mark tests.0) f.bytes_are in
    subst (λ (r : Header × List ℕ). IsFrameOpened bytes r.0 r.1) is.1 (record {
      bytes_are = joined bytes first.0.1 source.0.1 destination.0.1 stamp.0.1 number.0.1 event.0.1 output.0.1 h marked s.bytes_are
          d.bytes_are t.bytes_are n.bytes_are e.bytes_are o.bytes_are;
      lawful = tests.1;
      filled = filled_by output.0.1 tests.2;
    })

-- the fields of a lawful header fit their bytes
record FitsFields (h : Header) : Type 0 where
  source : h.source < 256 ^ 2
  destination : h.destination < 256 ^ 2
  stamp : h.stamp < 256 ^ 8
  number : h.number < 256 ^ 8
  event : h.event < 256 ^ 8
  output : h.output < 256 ^ 2

fits_fields : (h : Header) → IsTrue (is_lawful h) → FitsFields h
fits_fields h lawful = record {
  source = grind (arith, common_steps);
  destination = grind (arith, common_steps);
  stamp = grind (arith, common_steps);
  number = grind (arith, common_steps);
  event = grind (arith, common_steps);
  output = grind (arith, common_steps);
}

opens_by : (h : Header) (rest : List ℕ) → IsTrue (is_lawful h) → 1 ≤ length rest → opens mark h rest ≡ true
opens_by h rest lawful filled = grind (arith, common_steps)

pub again : (h : Header) (rest : List ℕ) → IsTrue (is_lawful h) → 1 ≤ length rest → frame_of (frame_bytes h rest) ≡ Some (h, rest)
unfolding frame_of header_bytes
again h rest lawful filled =
    let fits = fits_fields h lawful in
    let g = big_bytes 2 h.output ++ rest in
    let f = big_bytes 8 h.event ++ g in
    let e = big_bytes 8 h.number ++ f in
    let d = big_bytes 8 h.stamp ++ e in
    let c = big_bytes 2 h.destination ++ d in
    let b = big_bytes 2 h.source ++ c in
    rw (
      number_again 2 mark b (omega arith),
      number_again 2 h.source c fits.source,
      number_again 2 h.destination d fits.destination,
      number_again 8 h.stamp e fits.stamp,
      number_again 8 h.number f fits.number,
      number_again 8 h.event g fits.event,
      number_again 2 h.output rest fits.output,
      opens_by h rest lawful filled,
    ) refl

pub frames : FramesAreSpelledOnce
frames = record { read = λ bytes rest h b e. let o = opened bytes (h, rest) b e in (o.bytes_are, o.lawful, o.filled); written = again }
