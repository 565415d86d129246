use Rattle.std.proofs.Common.{arith}
use Rattle.hex.proofs.HexLemmas.{length-encode_with}
use Rattle.hex.specs.Hex.{lower_digits}
use Rattle.vk_text.proofs.Lengths.{length_added}
use Rattle.vk_text.proofs.spelling.add_few.Goals as goal

pub returns-else-is_empty-clause-few : goal.returns-else-is_empty-clause-few
returns-else-is_empty-clause-few c =
    length_added _ _ _ _ c.hexadecimal.ensures (omega (arith, length-encode_with lower_digits c.args.bytes.now, c.requires.few))
