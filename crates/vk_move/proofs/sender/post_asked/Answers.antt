use Rattle.std.proofs.Common.{subst, sym}
use Rattle.vk_move.specs.Sender.{IsSourceReadable}
use Rattle.vk_move.proofs.sender.post_asked.Goals as goal

pub post_bytes-requires-clause-inside : goal.post_bytes-requires-clause-inside
post_bytes-requires-clause-inside c = subst (IsSourceReadable c.args.asked.src c.args.asked.total) (sym c.in-Some.ensures) c.requires.inside
