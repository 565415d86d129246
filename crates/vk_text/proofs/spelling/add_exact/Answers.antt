use Rattle.std.proofs.Common.{arith}
use Rattle.vk_text.proofs.spelling.add_exact.Goals as goal

pub whole_as_slice-write_digits : goal.whole_as_slice-write_digits
whole_as_slice-write_digits g c = omega (arith, c.requires.few)
