use Rattle.std.proofs.Common.{ap, ◌∙◌}
use Rattle.vk_group.specs.Members.{pairs_of}
use Rattle.vk_group.proofs.Constant.{pairs_reported}
use Rattle.vk_group.proofs.group.Group.load_result.Goals as goal

pub returns-in-Some-clause-pairs : goal.returns-in-Some-clause-pairs
returns-in-Some-clause-pairs c = ap pairs_of c.report.ensures ∙ pairs_reported c.args.self.now.members c.args.member c.args.replied
