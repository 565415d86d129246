use Rattle.std.proofs.Common.{◌++◌, inr, subst, sym}
use Rattle.vk_top.proofs.Told.{replay_refused}
use Rattle.vk_top.specs.Work.{IsRefusal}
use Rattle.vk_top.specs.declared.words.TextCommand.TheVariants as asked
use Rattle.vk_top.proofs.begun.play_on.Goals as goal

pub returns-in-Err-clause-refused : goal.returns-in-Err-clause-refused
returns-in-Err-clause-refused c = λ text come.
    let form = c.args.form in
    let piece = c.args.piece.now in
    let why = c.in-Err.ensures.refused text come in (
      subst (IsRefusal (asked.Replay form) (text ++ piece)) (sym c.from.ensures)
          (replay_refused form (text ++ piece) c.in-Err.refusal (inr why.0)),
      λ ends more. subst (IsRefusal (asked.Replay form) ((text ++ piece) ++ more)) (sym c.from.ensures)
          (replay_refused form ((text ++ piece) ++ more) c.in-Err.refusal (inr (why.1 ends.0 more ends.1))),
    )
