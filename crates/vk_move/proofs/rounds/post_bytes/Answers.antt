use Rattle.std.proofs.Common.{◌≡◌, ◌+◌, ◌∙◌, [], ◌∷◌, ◌++◌, ◌*◌, ap, arith, length}
use Rattle.vk_packet.specs.Posts.{Posts}
use Rattle.vk_rules.specs.PacketOutcomes.{bytes_packet}
use Rattle.vk_stands.specs.Rules.{post_of}
use Rattle.vk_move.proofs.Pieces.{how_many, one_more}
use Rattle.vk_move.proofs.rounds.post_bytes.Goals as goal

pub post_bytes_piece-requires-clause-room : goal.post_bytes_piece-requires-clause-room
post_bytes_piece-requires-clause-room c =
    let few : length c.loop-piece.out.posts ≡ length c.args.out.now.posts + c.loop-piece.piece =
    ap (λ (o : Posts). length o.posts) c.loop-piece.invariant
    ∙ how_many post_of
    (bytes_packet c.args.subject.name.exchange c.args.subject.mover c.args.subject.name.number c.args.asked.src
    c.args.asked.total c.args.memory.now)
    c.args.asked.offset c.loop-piece.piece c.args.out.now.posts in
    let room = ap (λ (o : Posts). o.room) c.loop-piece.invariant in
    omega arith

pub loop-piece-preserved : goal.loop-piece-preserved
loop-piece-preserved c =
    c.post_bytes_piece.ensures
    ∙ (λ i. record (c.loop-piece.invariant i) {
      posts = (ap (λ (o : Posts). o.posts
          ++ post_of (bytes_packet c.args.subject.name.exchange c.args.subject.mover c.args.subject.name.number c.args.asked.src
          c.args.asked.total c.args.memory.now
          (c.args.asked.offset + 1024 * c.loop-piece.piece)) ∷ []) c.loop-piece.invariant
          ∙ one_more post_of
          (bytes_packet c.args.subject.name.exchange c.args.subject.mover c.args.subject.name.number c.args.asked.src
          c.args.asked.total c.args.memory.now)
          c.args.asked.offset c.loop-piece.piece c.args.out.now.posts) i;
    })
