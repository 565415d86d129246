use Rattle.std.proofs.Common.{arith, decimal}
use Rattle.vk_text.proofs.Lengths.{length_added, length_short}
use Rattle.vk_text.proofs.spelling.add_short.Goals as goal

pub returns-clause-few : goal.returns-clause-few
returns-clause-few c =
    length_added c.args.into.now (decimal c.from.result) c.add_number.new.into 5 c.add_number.ensures.text (length_short c.from.result (omega (arith, c.from.ensures, c.ranges.n.fits)))
