use Rattle.vk_text.proofs.OpeningLaws.{openings_no_feed, openings_written}
use Rattle.vk_text.proofs.opening.openings_are_written.Goals as goal

pub returns-clause-written : goal.returns-clause-written
returns-clause-written c = openings_written

pub returns-clause-lines : goal.returns-clause-lines
returns-clause-lines c = openings_no_feed
