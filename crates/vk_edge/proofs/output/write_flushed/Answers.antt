use Rattle.std.proofs.Common.{length, subst, sym}
use Rattle.std.proofs.KnownBytes.{Appends-kept}
use Rattle.std.proofs.Math.Seq.{take-length}
use Rattle.std.specs.Io.KnownBytes.{Appends}
use Rattle.vk_edge.proofs.output.write_flushed.Goals as goal

pub returns-clause-front : goal.returns-clause-front
returns-clause-front g c =
    let bytes = c.args.bytes.now in
    (length bytes, subst (Appends _ _) (sym (take-length bytes)) (Appends-kept _ _ _ _ c.in_ok-write_all.ensures.bytes c.flush.ensures.bytes))
