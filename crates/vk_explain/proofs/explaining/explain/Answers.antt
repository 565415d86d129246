use Rattle.std.proofs.Common.{[], List, ℕ, drop, sym, subst}
use Rattle.vk_text.specs.Lines.{lines_of}
use Rattle.vk_explain.specs.Explained.{IsTitled}
use Rattle.vk_explain.specs.Reading.{AreRead, IsOverIn, IsWrongIn, Stops}
use Rattle.vk_explain.proofs.Explains.{is_observed, is_right, stops_behind}
use Rattle.vk_explain.proofs.explaining.explain.Goals as goal

pub returns-in-Ok-take_lines-clause-right : goal.returns-in-Ok-take_lines-clause-right
returns-in-Ok-take_lines-clause-right c =
    let text = c.args.text.now in
    let t = c.in-Ok.titled in
    let specs = t.head.config.specs in
    let old = c.in-Ok-new.reading in
    let left = lines_of (drop t.head.at text) in
    is_right text specs left old c.take_lines.new.self
    (subst (λ b. IsTitled (lines_of text) b specs left) (sym c.in-Ok-new.ensures.tells) c.in-Ok.ensures.titled) c.in-Ok-new.ensures.line
    (subst (λ (x : List ℕ). AreRead specs [] (lines_of x) old c.take_lines.new.self) c.behind.ensures
    (c.in-Ok-take_lines.ensures.more specs [] c.in-Ok-new.ensures.read))

pub returns-in-Ok-take_lines-clause-observed : goal.returns-in-Ok-take_lines-clause-observed
returns-in-Ok-take_lines-clause-observed c =
    let text = c.args.text.now in
    let t = c.in-Ok.titled in
    let specs = t.head.config.specs in
    let old = c.in-Ok-new.reading in
    let left = lines_of (drop t.head.at text) in
    is_observed c.args.asked text specs left old c.take_lines.new.self
    (subst (λ b. IsTitled (lines_of text) b specs left) (sym c.in-Ok-new.ensures.tells) c.in-Ok.ensures.titled) c.in-Ok-new.ensures.line
    (subst (λ (x : List ℕ). AreRead specs [] (lines_of x) old c.take_lines.new.self) c.behind.ensures
    (c.in-Ok-take_lines.ensures.more specs [] c.in-Ok-new.ensures.read)) c.in-Ok-new.ensures.asked

pub returns-in-Err-take_lines-clause-wrong : goal.returns-in-Err-take_lines-clause-wrong
returns-in-Err-take_lines-clause-wrong c =
    let text = c.args.text.now in
    let t = c.in-Ok.titled in
    let specs = t.head.config.specs in
    let old = c.in-Ok-new.reading in
    let left = lines_of (drop t.head.at text) in
    stops_behind text specs left old c.in-Err-take_lines.stop
    (subst (λ b. IsTitled (lines_of text) b specs left) (sym c.in-Ok-new.ensures.tells) c.in-Ok.ensures.titled) c.in-Ok-new.ensures.line
    (subst (λ (x : List ℕ). Stops (IsWrongIn old.tells specs [] old.line (lines_of x)) (IsOverIn old.tells specs [] old.line (lines_of x))
    c.in-Err-take_lines.stop)
    c.behind.ensures (c.in-Err-take_lines.ensures.wrong specs [] c.in-Ok-new.ensures.read))
