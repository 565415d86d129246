use Rattle.std.proofs.Common.{map, ap, ◌∙◌}
use Rattle.vk_draw.specs.Rows.{said_of, step_mark}
use Rattle.vk_draw.proofs.playing.station_row.Goals as goal

pub frame_marks-requires : goal.frame_marks-requires
frame_marks-requires c = (c.requires.0.frames, c.requires.1.sends)

pub returns : goal.returns
returns c = λ e last.
    let said = c.said_of.ensures ∙ ap said_of last.shows.answer in
    let steps = c.in_ok-step_marks.ensures ∙ ap (map step_mark) (c.steps.ensures ∙ last.shows.steps) in
    let frames = c.in_ok-frame_marks.ensures e.frames last.sends in
    (λ i. record {
      number = c.args.number;
      host = c.args.report.now.host;
      own = c.args.report.now.event;
      act = c.act_of.ensures i;
      said = said i;
      steps = steps i;
      frames = frames i;
    })
