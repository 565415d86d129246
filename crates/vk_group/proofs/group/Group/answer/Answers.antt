use Rattle.std.proofs.Common.{ap, ◌∙◌}
use Rattle.vk_group.specs.declared.group.Group.{Group}
use Rattle.vk_group.specs.Members.{pairs_of}
use Rattle.vk_group.proofs.Constant.{constant_heard, constant_send, pairs_given, pairs_told}
use Rattle.vk_group.proofs.group.Group.answer.Goals as goal

pub returns-in-Receive-clause-pairs : goal.returns-in-Receive-clause-pairs
returns-in-Receive-clause-pairs c = ap (λ (g : Group). pairs_of g.members) c.hear.ensures ∙ constant_heard c.args.self.now c.args.answer.now

pub returns-in-LoadSend-clause-pairs : goal.returns-in-LoadSend-clause-pairs
returns-in-LoadSend-clause-pairs c =
    ap (λ (g : Group). pairs_of g.members) c.load_send.ensures
    ∙ constant_send c.args.self.now c.in-LoadSend.client c.in-LoadSend.dest c.message_in.result

pub returns-in-GiveJob-clause-pairs : goal.returns-in-GiveJob-clause-pairs
returns-in-GiveJob-clause-pairs c =
    ap (λ (g : Group). pairs_of g.members) c.give.ensures ∙ pairs_given c.args.self.now.members c.in-GiveJob.job.member

pub returns-in-Tell-clause-pairs : goal.returns-in-Tell-clause-pairs
returns-in-Tell-clause-pairs c =
    ap (λ (g : Group). pairs_of g.members) c.tell.ensures ∙ pairs_told c.args.self.now.members c.in-Tell.member
