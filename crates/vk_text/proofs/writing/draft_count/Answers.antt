use Rattle.std.proofs.Common.{◌∷◌, [], arith, decimal}
use Rattle.vk_text.proofs.Lengths.{length_added, length_middle}
use Rattle.vk_text.proofs.writing.draft_count.Goals as goal

pub returns-clause-few : goal.returns-clause-few
returns-clause-few c =
    let space = length_added c.args.into.now (32 ∷ []) c.byte.new.self 1 c.byte.ensures (omega arith) in
    let number = length_added c.byte.new.self (decimal c.from.result) c.add_number.new.into 10 c.add_number.ensures.text
    (length_middle c.from.result (omega (arith, c.from.ensures, c.ranges.n.fits))) in
    omega (arith, space, number)
