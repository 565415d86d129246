use Rattle.std.proofs.Common.{ap, ◌∙◌, arith}
use Rattle.std.specs.List.{concat}
use Rattle.vk_cluster.specs.Piles.{pile_of}
use Rattle.vk_cluster.proofs.Piles.{concat_length, concat_push}
use Rattle.vk_cluster.proofs.emitted.EmittedFrames.put.Goals as goal

pub put-requires-clause-most : goal.put-requires-clause-most
put-requires-clause-most c = let most = c.requires.most in omega (arith, concat_length c.args.self.now.frames.items)

pub returns-clause-pile : goal.returns-clause-pile
returns-clause-pile c =
    let old = c.args.self.now in
    let bytes = ap concat c.put.ensures.items ∙ concat_push old.frames.items c.args.frame.now in
    λ k. record { bytes = bytes k; frames = c.put.ensures.items k; events = (pile_of old).events }
