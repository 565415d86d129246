use Rattle.std.proofs.Common.{arith}
use Rattle.vk_move.proofs.Pieces.{place_is}
use Rattle.vk_move.proofs.rounds.post_data_piece.Goals as goal

pub overflow_add-transfer : goal.overflow_add-transfer
overflow_add-transfer c = let h = place_is c.args.transfer.count c.args.offset c.requires.place in omega arith
