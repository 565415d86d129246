use Rattle.std.proofs.Common.{◌++◌, ◌+◌, map, drop, ap, ◌∙◌, arith}
use Rattle.vk_text.specs.Texts.{shown}
use Rattle.vk_report.specs.Histories.{frames_from}
use Rattle.vk_report.specs.Report.{frame_lines}
use Rattle.vk_top.specs.Report.{emitted_of}
use Rattle.vk_top.proofs.Events.{frames_more}
use Rattle.vk_top.proofs.replay.put_frames.Goals as goal

pub loop-at-preserved : goal.loop-at-preserved
loop-at-preserved c =
    let form = c.args.form in
    let host = c.args.host in
    let own = c.args.own in
    let at = c.loop-at.at in
    let text = shown c.loop-at.text in
    record {
      counted = omega (arith, c.loop-at.invariant.counted);
      lines = λ fs sends.
          ap (λ t. t ++ frames_from form host own (at + 1) (drop (at + 1) (map emitted_of fs)))
          (c.in_ok-put_frame.ensures.ok
          ∙ (λ i. text ++ frame_lines form host own (c.loop-at.invariant.counted i + 1) c.emitted_of-frame.result))
          ∙ frames_more form host own at (map emitted_of fs) c.emitted_of-frame.result text _ (c.emitted_of-frame.ensures fs sends)
          (c.loop-at.invariant.lines fs sends);
    }
