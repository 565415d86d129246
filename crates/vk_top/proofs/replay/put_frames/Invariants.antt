use Rattle.std.proofs.Common.{◌≡◌, ◌++◌, List, drop, map}
use Rattle.vk_text.specs.Texts.{shown}
use Rattle.vk_report.specs.Histories.{frames_from}
use Rattle.vk_rules.specs.Frames.{Frame}
use Rattle.vk_cluster.specs.Shown.{Sends}
use Rattle.vk_top.specs.Report.{emitted_of}
use Rattle.vk_top.proofs.replay.put_frames.Given as goal

abbrev pub invariant-loop-at : goal.invariant-loop-at
invariant-loop-at l = record {
  counted : l.output ≡ l.at;
  lines : (fs : List Frame) → Sends l.station fs →
      shown l.text ++ frames_from l.form l.host l.own l.at (drop l.at (map emitted_of fs))
      ≡ shown l.fn.text ++ frames_from l.form l.host l.own 0 (map emitted_of fs);
}
