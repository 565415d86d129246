use Rattle.vk_text.proofs.Lengths.{length_two, length_three, length_four, length_five}
use Rattle.vk_text.proofs.spelling.add_digits.Goals as goal

pub add_exact-requires-clause-digits : goal.add_exact-requires-clause-digits
add_exact-requires-clause-digits c = length_two c.args.n c.requires.least c.if-n-lt100.true

pub add_exact-requires-else-n-lt100-clause-digits : goal.add_exact-requires-else-n-lt100-clause-digits
add_exact-requires-else-n-lt100-clause-digits c = length_three c.args.n c.if-n-lt100.false c.if-n-lt1000.true

pub add_exact-requires-then-n-lt10000-clause-digits : goal.add_exact-requires-then-n-lt10000-clause-digits
add_exact-requires-then-n-lt10000-clause-digits c = length_four c.args.n c.if-n-lt1000.false c.if-n-lt10000.true

pub add_exact-requires-then-n-lt100000-clause-digits : goal.add_exact-requires-then-n-lt100000-clause-digits
add_exact-requires-then-n-lt100000-clause-digits c = length_five c.args.n c.if-n-lt10000.false c.if-n-lt100000.true
