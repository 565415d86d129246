use Rattle.std.proofs.Common.{sym, ◌∙◌, ◌++◌, arith}
use Rattle.vk_text.proofs.HexValues.{none_strange, joined_shown, joined_few}
use Rattle.vk_text.proofs.digits.block_bytes.Goals as goal

pub returns-clause-digits : goal.returns-clause-digits
returns-clause-digits c =
    let front = c.values-front.ensures in
    let back = c.values-back.ensures in
    none_strange 16 c.args.first c.args.second _ _ (omega arith) c.fits-first.0 c.fits-second.0 front.sixteen back.sixteen front.values back.values

pub returns-clause-bytes : goal.returns-clause-bytes
returns-clause-bytes c read =
    let front = c.values-front.ensures in
    let back = c.values-back.ensures in
    joined_shown c.args.first c.args.second _ _ c.fits-first.0 c.fits-second.0 front.sixteen back.sixteen front.values back.values
    (sym (returns-clause-digits c) ∙ read)

pub returns-clause-few : goal.returns-clause-few
returns-clause-few c = joined_few (c.values-front.result ++ c.values-back.result)
