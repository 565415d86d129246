use Rattle.std.proofs.Common.{subst, take}
use Rattle.std.specs.Io.KnownBytes.{Appends}
use Rattle.vk_edge.specs.Answers.{IsWritten}
use Rattle.vk_top.proofs.Outcomes.{late_told}
use Rattle.vk_top.specs.declared.status.Status.TheVariants as status
use Rattle.vk_top.proofs.top.write_work.Goals as goal

pub write_text-requires : goal.write_text-requires
write_text-requires g c = late_told c.args.work.now.status c.requires

pub returns-clause-written : goal.returns-clause-written
returns-clause-written g c =
    subst (λ t. IsWritten c.args.work.now.status status.WriteFault t (g.K.Sink.written c.args.output.now)
    (g.K.Sink.written c.write_text.new.output) c.write_text.result) c.deref.ensures.value c.write_text.ensures.written

pub returns-clause-front : goal.returns-clause-front
returns-clause-front g c =
    let front = c.write_text.ensures.front in (
      front.0,
      subst (λ t. Appends (g.K.Sink.written c.args.output.now) (g.K.Sink.written c.write_text.new.output) (take front.0 t))
          c.deref.ensures.value front.1,
    )
