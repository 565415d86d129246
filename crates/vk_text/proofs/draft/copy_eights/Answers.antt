use Rattle.std.proofs.Common.{◌-◌, length, arith}
use Rattle.vk_text.proofs.Overlaps.{overlapped}
use Rattle.vk_text.proofs.draft.copy_eights.Goals as goal

pub returns : goal.returns
returns c =
    overlapped 8 (length c.args.bytes.now - 8) c.args.bytes.now c.args.into.now c.requires.same (omega (arith, c.requires.some))
    (omega (arith, c.requires.few))
