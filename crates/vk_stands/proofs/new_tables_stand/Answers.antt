use Rattle.vk_stands.proofs.Opening.{new_fit, new_stands}
use Rattle.vk_stands.proofs.new_tables_stand.Goals as goal

pub returns-clause-fit : goal.returns-clause-fit
returns-clause-fit c = new_fit

pub returns-clause-stands : goal.returns-clause-stands
returns-clause-stands c = new_stands
