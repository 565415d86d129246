use Rattle.std.proofs.Common.{◌≡◌, ◌<◌, get_or, length, arith, sym, ◌∙◌}
use Rattle.vk_text.proofs.Numerals.{one_more_digit}
use Rattle.vk_text.proofs.ShortNumbers.{digit_fits, digit_most, eight_digits, leads_parts, led_number, more_digits, one_digit}
use Rattle.vk_text.proofs.word.nine_digits.Goals as goal

pub loop-at-init : goal.loop-at-init
loop-at-init c =
    let lead = leads_parts (get_or c.args.bytes.now 0 0) c.if-not-leads_number.ensures in
    let some = one_digit c.args.bytes.now (grind (arith, c.if-is_empty.ensures)) lead.0 in
    let most = digit_most (get_or c.args.bytes.now 0 0) lead.0 in
    record { digits = some.0; small = omega (arith, most, c.from-value.ensures); value = omega (arith, some.1, c.from-value.ensures) }

pub returns-then-bytes-at-eq32 : goal.returns-then-bytes-at-eq32
returns-then-bytes-at-eq32 c most small =
    let lead = leads_parts (get_or c.args.bytes.now 0 0) c.if-not-leads_number.ensures in
    led_number most c.args.bytes.now c.loop-at.at c.loop-at.value (omega (arith, c.loop-at.auto)) (omega arith) c.loop-at.invariant.digits
    lead.1 (λ _. c.if-bytes-at-eq32.true) c.loop-at.invariant.value small

pub overflow_mul-value : goal.overflow_mul-value
overflow_mul-value c =
    let few = eight_digits c.loop-at.at c.loop-at.value (omega arith) c.loop-at.invariant.small in
    omega (arith, few)

pub overflow_add-value : goal.overflow_add-value
overflow_add-value c =
    let few = eight_digits c.loop-at.at c.loop-at.value (omega arith) c.loop-at.invariant.small in
    let most = digit_most (get_or c.args.bytes.now c.loop-at.at 0) (sym c.if-not-is_ascii_digit.ensures.value) in
    omega (arith, few, most, c.from.ensures)

pub loop-at-preserved : goal.loop-at-preserved
loop-at-preserved c =
    let digit = sym c.if-not-is_ascii_digit.ensures.value in
    let most = digit_most (get_or c.args.bytes.now c.loop-at.at 0) digit in
    let more = one_more_digit c.args.bytes.now c.loop-at.at (omega arith) digit in
    record {
      digits = more_digits c.args.bytes.now c.loop-at.at (omega arith) c.loop-at.invariant.digits digit;
      small = digit_fits c.loop-at.at c.loop-at.value c.from.result c.loop-at.invariant.small (omega (arith, most, c.from.ensures));
      value = omega (arith, more, c.loop-at.invariant.value, c.from.ensures);
    }

pub returns-then-most-bytes : goal.returns-then-most-bytes
returns-then-most-bytes c most small =
    let lead = leads_parts (get_or c.args.bytes.now 0 0) c.if-not-leads_number.ensures in
    let some : 0 < length c.args.bytes.now = grind (arith, c.if-is_empty.ensures) in
    let end : c.min-most.result ≡ c.loop-at.at = omega (arith, c.loop-at.auto, c.if-most-bytes.true, some) in
    let read = led_number most c.args.bytes.now c.loop-at.at c.loop-at.value (omega (arith, c.loop-at.auto)) (omega arith)
    c.loop-at.invariant.digits lead.1 (λ less. absurd (omega arith)) c.loop-at.invariant.value small in
    (end ∙ read.0, read.1)
