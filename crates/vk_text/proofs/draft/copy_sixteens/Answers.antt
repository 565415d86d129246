use Rattle.std.proofs.Common.{◌-◌, length, arith}
use Rattle.vk_text.proofs.Overlaps.{overlapped}
use Rattle.vk_text.proofs.draft.copy_sixteens.Goals as goal

pub returns : goal.returns
returns c =
    overlapped 16 (length c.args.bytes.now - 16) c.args.bytes.now c.args.into.now c.requires.same (omega (arith, c.requires.some))
    (omega (arith, c.requires.few))
