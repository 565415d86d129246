use Rattle.std.proofs.Common.{◌≡◌, ◌+◌, ◌∙◌, [], ◌∷◌, ◌++◌, ◌*◌, ap, arith, length}
use Rattle.vk_packet.specs.Posts.{Posts}
use Rattle.vk_rules.specs.Rounds.{data_packet}
use Rattle.vk_stands.specs.Rules.{post_of}
use Rattle.vk_move.proofs.Pieces.{how_many, one_more}
use Rattle.vk_move.proofs.rounds.post_data.Goals as goal

pub post_data_piece-requires-clause-room : goal.post_data_piece-requires-clause-room
post_data_piece-requires-clause-room c =
    let few : length c.loop-piece.out.posts ≡ length c.args.out.now.posts + c.loop-piece.piece =
    ap (λ (o : Posts). length o.posts) c.loop-piece.invariant
    ∙ how_many post_of
    (data_packet c.args.subject.mover c.args.transfer.partner c.args.memory.now c.args.transfer.dest c.args.transfer.src
    c.args.transfer.count c.args.subject.name)
    c.args.from c.loop-piece.piece c.args.out.now.posts in
    let room = ap (λ (o : Posts). o.room) c.loop-piece.invariant in
    omega arith

pub loop-piece-preserved : goal.loop-piece-preserved
loop-piece-preserved c =
    c.post_data_piece.ensures
    ∙ (λ i. record (c.loop-piece.invariant i) {
      posts = (ap (λ (o : Posts). o.posts
          ++ post_of (data_packet c.args.subject.mover c.args.transfer.partner c.args.memory.now c.args.transfer.dest c.args.transfer.src
          c.args.transfer.count c.args.subject.name
          (c.args.from + 1024 * c.loop-piece.piece)) ∷ []) c.loop-piece.invariant
          ∙ one_more post_of
          (data_packet c.args.subject.mover c.args.transfer.partner c.args.memory.now c.args.transfer.dest c.args.transfer.src
          c.args.transfer.count c.args.subject.name)
          c.args.from c.loop-piece.piece c.args.out.now.posts) i;
    })
