use Rattle.vk_text.proofs.HexValues.{values_are, values_length}
use Rattle.vk_text.proofs.digits.values.Goals as goal

pub returns-clause-values : goal.returns-clause-values
returns-clause-values c = values_are 16 c.args.text c.fits-text.0 c.fits-text.1

pub returns-clause-sixteen : goal.returns-clause-sixteen
returns-clause-sixteen c = values_length 16 c.args.text c.fits-text.0
