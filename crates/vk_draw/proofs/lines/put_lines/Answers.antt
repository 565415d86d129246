use Rattle.std.proofs.Common.{arith}
use Rattle.vk_text.specs.Texts.{shown}
use Rattle.vk_draw.proofs.Opened.{lines_more, there}
use Rattle.vk_draw.proofs.lines.put_lines.Goals as goal

pub loop-at-preserved : goal.loop-at-preserved
loop-at-preserved c = λ fs sends.
    let low = c.loop-at-test.true in
    let count = c.frame_count-at-end.ensures in
    let it = there c.args.station.now fs c.loop-at.at sends (omega (arith, low, count)) in
    lines_more fs c.loop-at.at it.0 (shown c.loop-at.text) _ _ it.1 (c.in_ok-put_line.ensures fs sends it.0 it.1)
    (c.loop-at.invariant fs sends)
