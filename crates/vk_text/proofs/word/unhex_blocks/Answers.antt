use Rattle.std.proofs.Common.{arith}
use Rattle.vk_text.proofs.Decoding.{none_read}
use Rattle.vk_text.proofs.word.unhex_blocks.Goals as goal

pub loop-into-init : goal.loop-into-init
loop-into-init c = record { within = omega arith; read = none_read c.args.word.now c.args.into.now (λ i. let fit = c.type_inv.into i in omega arith) }
