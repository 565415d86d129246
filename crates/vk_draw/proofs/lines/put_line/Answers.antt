use Rattle.std.proofs.Common.{◌≡◌, ◌++◌, ◌∙◌, sym, ap}
use Rattle.std.proofs.lemmas.Option.{same_Some}
use Rattle.std.proofs.lemmas.Result.{on_ok_weaker}
use Rattle.vk_cluster.proofs.Shown.{sent}
use Rattle.vk_frame_text.specs.Frames.{frame_line}
use Rattle.vk_rules.specs.Frames.{Frame}
use Rattle.vk_text.specs.Texts.{shown}
use Rattle.vk_draw.specs.Frames.{line_of}
use Rattle.vk_draw.proofs.lines.put_line.Goals as goal

pub opened-requires : goal.opened-requires
opened-requires c =
    let one = sent c.args.station.now c.requires.sends.0 c.args.at c.frame.result.now c.requires.sends.1 c.frame.ensures in
    (one.frame, one.lawful, one.bytes_are)

pub returns : goal.returns
returns c =
    on_ok_weaker c.put_frame_line.result
    (λ written fs sends f found.
    let one = sent c.args.station.now fs c.args.at c.frame.result.now sends c.frame.ensures in
    let same = c.opened.ensures one.frame one.lawful one.bytes_are in
    let it : one.frame ≡ f = same_Some one.frame f (sym one.found ∙ found) in
    written ∙ (λ i. shown c.args.text.now ++ frame_line (same.0 i) (same.1 i)) ∙ ap (λ (g : Frame). shown c.args.text.now ++ line_of g) it)
    c.put_frame_line.ensures.ok
