use Rattle.std.proofs.Common.{sym}
use Rattle.vk_text.proofs.FirstWords.{longer_word, word_ends, word_goes_on, word_is_number}
use Rattle.vk_text.proofs.word.any_number.Goals as goal

pub returns-then-ends_word-clause-number : goal.returns-then-ends_word-clause-number
returns-then-ends_word-clause-number c =
    let number = c.in_ok-number.ensures.number in
    word_is_number c.args.most c.args.bytes.now c.in_ok-number.len c.in_ok-number.number number.0
    (word_ends c.args.bytes.now c.in_ok-number.len (sym c.if-ends_word.ensures)) number.1

pub returns-else-ends_word-clause-number : goal.returns-else-ends_word-clause-number
returns-else-ends_word-clause-number c =
    let other = word_goes_on c.args.bytes.now c.in_ok-number.len (sym c.if-ends_word.ensures) in
    longer_word c.args.most c.args.bytes.now c.in_ok-number.len c.in_ok-number.ensures.number.0 other.0 other.1
