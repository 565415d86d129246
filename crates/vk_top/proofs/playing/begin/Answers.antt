use Rattle.std.proofs.Common.{[], drop, arith}
use Rattle.vk_text.specs.Lines.{lines_of}
use Rattle.vk_top.proofs.Played.{behind_opening, first_come, left_few, left_played}
use Rattle.vk_top.specs.declared.playing.Way.TheVariants as ways
use Rattle.vk_top.proofs.playing.begin.Goals as goal

pub play_lines-requires-clause-few : goal.play_lines-requires-clause-few
play_lines-requires-clause-few c =
    let head = c.in-Ok.head in
    let piece = c.args.piece.now in
    let left_is = behind_opening c.resume-reader.result piece head.config head.at head.line c.resume-reader.ensures in
    let few = left_few c.resume-reader.result head.config 0 head.line (lines_of (drop head.at piece)) left_is (omega arith) in
    omega (arith, few, c.in-Ok-unplayed.ensures.count)

pub play_lines-requires-clause-way : goal.play_lines-requires-clause-way
play_lines-requires-clause-way c =
    let head = c.in-Ok.head in
    let piece = c.args.piece.now in
    let left_is = behind_opening c.resume-reader.result piece head.config head.at head.line c.resume-reader.ensures in (
      [],
      left_played c.args.form ways.On c.resume-reader.result head.config [] 0 head.line (lines_of (drop head.at piece))
          c.in-Ok-unplayed.played left_is c.in-Ok-unplayed.ensures,
    )

pub returns-in-Ok-play_lines : goal.returns-in-Ok-play_lines
returns-in-Ok-play_lines c =
    let head = c.in-Ok.head in
    let piece = c.args.piece.now in
    let left_is = behind_opening c.resume-reader.result piece head.config head.at head.line c.resume-reader.ensures in
    first_come c.args.form piece head.config head.at head.line c.resume-reader.result c.in-Ok-unplayed.played c.in-Ok-play_lines.playing
    (omega (arith, c.if-head-piece.false)) c.in-Ok.ensures.opening c.in-Ok.ensures.line
    (record { events = omega arith; lines = omega (arith, c.in-Ok.ensures.few) }) left_is c.in-Ok-unplayed.ensures
    c.in-Ok-play_lines.ensures.played
