use Rattle.std.proofs.Common.{◌≡◌, ◌∷◌, ap, subst, drop, arith, Some, ◌∙◌}
use Rattle.vk_text.specs.Lines.{lines_of}
use Rattle.vk_explain.specs.Reading.{IsFault, IsOverIn, IsWrongIn}
use Rattle.vk_explain.specs.declared.fault.Fault.TheVariants as faults
use Rattle.vk_explain.specs.Told.{fault_text}
use Rattle.vk_explain.proofs.Explains.{stops_weaker}
use Rattle.vk_explain.proofs.Sighted.{comes_first, comes_more, comes_over, comes_over_in, comes_wrong}
use Rattle.vk_explain.proofs.reading.Reading.take_lines.Goals as goal

pub loop-line-init : goal.loop-line-init
loop-line-init c = record {
  within = omega arith;
  come = λ specs ws had. comes_first specs ws c.args.self.now (lines_of c.args.text.now) had;
}

pub loop-line-preserved : goal.loop-line-preserved
loop-line-preserved c =
    let text = c.args.text.now in
    let left = lines_of (drop c.in-Some.next text) in
    let here : lines_of c.behind.result.now ≡ c.in-Some.line.now ∷ left = ap lines_of c.behind.ensures ∙ c.in-Some.ensures.line in
    record {
      within = omega (arith, c.in-Some.ensures.next);
      come = λ specs ws had.
          let come = c.loop-line.invariant.come specs ws had in
          comes_more specs ws c.args.self.now c.loop-line.self c.take_line.new.self (lines_of text) (lines_of (drop c.loop-line.at text))
          left c.in-Some.line.now come c.in-Some.ensures.line (c.in-Ok.ensures.more specs come.sights left come.read here)
          c.in-Ok.ensures.tells c.in-Ok.ensures.asked c.in-Ok.ensures.line;
    }

pub returns-in-Err-clause-wrong : goal.returns-in-Err-clause-wrong
returns-in-Err-clause-wrong c =
    let text = c.args.text.now in
    let left = lines_of (drop c.in-Some.next text) in
    let here : lines_of c.behind.result.now ≡ c.in-Some.line.now ∷ left = ap lines_of c.behind.ensures ∙ c.in-Some.ensures.line in
    λ specs ws had.
    let come = c.loop-line.invariant.come specs ws had in
    stops_weaker (λ told. fault_text c.in-Err.fault c.in-Some.line.now ≡ Some told)
    (IsWrongIn c.args.self.now.tells specs ws c.args.self.now.line (lines_of text))
    (c.in-Err.fault ≡ faults.Limit) (IsOverIn c.args.self.now.tells specs ws c.args.self.now.line (lines_of text)) c.stop.result
    (λ told says. comes_wrong specs ws c.args.self.now c.loop-line.self (lines_of text) (lines_of (drop c.loop-line.at text)) left
    c.in-Some.line.now told c.in-Err.fault come c.in-Some.ensures.line (c.in-Err.ensures.wrong specs come.sights left come.read here) says)
    (λ limit. comes_over_in specs ws c.args.self.now c.loop-line.self (lines_of text) (lines_of (drop c.loop-line.at text)) left
    c.in-Some.line.now come c.in-Some.ensures.line
    (subst (IsFault c.loop-line.self.tells specs come.sights c.loop-line.self.line c.in-Some.line.now) limit
    (c.in-Err.ensures.wrong specs come.sights left come.read here)))
    c.stop.ensures

pub returns-clause-more : goal.returns-clause-more
returns-clause-more c =
    let text = c.args.text.now in
    λ specs ws had. comes_over specs ws c.args.self.now c.loop-line.self (lines_of text) (lines_of (drop c.loop-line.at text))
    (c.loop-line.invariant.come specs ws had) c.in_default.ensures.line
