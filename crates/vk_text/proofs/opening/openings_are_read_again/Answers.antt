use Rattle.vk_text.proofs.OpeningLaws.{openings_back, openings_spelled}
use Rattle.vk_text.proofs.opening.openings_are_read_again.Goals as goal

pub returns-clause-back : goal.returns-clause-back
returns-clause-back c = openings_back

pub returns-clause-spelled : goal.returns-clause-spelled
returns-clause-spelled c = openings_spelled
