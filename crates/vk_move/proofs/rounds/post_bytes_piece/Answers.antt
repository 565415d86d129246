use Rattle.std.proofs.Common.{arith}
use Rattle.vk_move.proofs.Pieces.{place_is}
use Rattle.vk_move.proofs.rounds.post_bytes_piece.Goals as goal

pub overflow_add-asked : goal.overflow_add-asked
overflow_add-asked c = let h = place_is c.args.asked.total c.args.offset c.requires.place in omega arith
