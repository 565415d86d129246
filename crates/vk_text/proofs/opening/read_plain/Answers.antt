use Rattle.std.proofs.Common.{◌+◌, [], ap, arith, drop, length}
use Rattle.vk_text.specs.Lines.{lines_of}
use Rattle.vk_text.proofs.HeadReading.{Parts, processes_counted}
use Rattle.vk_text.proofs.opening.read_plain.Goals as goal

pub returns-clause-line : goal.returns-clause-line
returns-clause-line c = omega (
  arith,
  processes_counted [] (lines_of (drop c.args.start c.args.text.now)),
  ap (λ (p : Parts). length p.0 + length p.1) c.in_ok-at.ensures.read,
  ap length c.specs.ensures.specs,
)
