use Rattle.std.proofs.lemmas.Result.{IfErr-weaker, IfOk-weaker}
use Rattle.vk_text.specs.Lines.{lines_of}
use Rattle.vk_top.proofs.Played.{last_come, left_few, left_played, next_come, piece_refused}
use Rattle.vk_top.proofs.playing.Playing.go_on.Goals as goal

pub play_lines-requires-clause-few : goal.play_lines-requires-clause-few
play_lines-requires-clause-few c =
    let was = c.args.self in
    left_few c.resume-reader.result was.config was.played.read was.line (lines_of c.args.piece.now) c.resume-reader.ensures
    c.requires.1.few.events

pub play_lines-requires-clause-way : goal.play_lines-requires-clause-way
play_lines-requires-clause-way c =
    let was = c.args.self in
    let come = c.requires.1 in (
      come.events,
      left_played c.args.form was.way c.resume-reader.result was.config come.events was.played.read was.line
          (lines_of c.args.piece.now) was.played c.resume-reader.ensures come.played,
    )

pub returns-clause-more : goal.returns-clause-more
returns-clause-more c =
    IfOk-weaker c.play_lines.result _ _
    (λ p played text come. next_come c.args.form c.args.piece.now c.args.self c.resume-reader.result c.resume-reader.ensures p played text come)
    c.play_lines.ensures.played

pub returns-clause-all : goal.returns-clause-all
returns-clause-all c =
    IfOk-weaker c.play_lines.result _ _
    (λ p played text come. last_come c.args.form c.args.piece.now c.args.self c.resume-reader.result c.resume-reader.ensures p played text come)
    c.play_lines.ensures.played

pub returns-clause-refused : goal.returns-clause-refused
returns-clause-refused c =
    IfErr-weaker c.play_lines.result _ _
    (λ e refused text come. piece_refused c.args.form c.args.piece.now c.args.self c.resume-reader.result c.resume-reader.ensures e refused
    text come)
    c.play_lines.ensures.refused
