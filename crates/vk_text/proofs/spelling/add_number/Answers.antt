use Rattle.std.proofs.Common.{◌++◌, ap, sym, ◌∙◌}
use Rattle.std.proofs.lemmas.Fmt.{decimal_digit}
use Rattle.vk_text.proofs.Lengths.{length_added, length_long}
use Rattle.vk_text.proofs.spelling.add_number.Goals as goal

pub returns-then-n-lt10-clause-text : goal.returns-then-n-lt10-clause-text
returns-then-n-lt10-clause-text c = c.byte.ensures ∙ ap (λ l. c.args.into.now ++ l) (sym (decimal_digit c.args.n c.if-n-lt10.true))

pub returns-else-n-lt10-clause-few : goal.returns-else-n-lt10-clause-few
returns-else-n-lt10-clause-few c = length_added _ _ _ _ c.add_digits.ensures (length_long c.args.n c.ranges.n.fits)
