use Rattle.std.proofs.Common.{[], inl, refl, subst}
use Rattle.std.proofs.lemmas.Result.{err_from_is_err_and}
use Rattle.vk_top.proofs.Endings.{untitled_schedule}
use Rattle.vk_top.proofs.Played.{keeps_lines, whole_played}
use Rattle.vk_top.specs.Pieces.{ArePlayed}
use Rattle.vk_top.specs.declared.playing.Way.TheVariants as ways
use Rattle.vk_top.proofs.playing.output.Goals as goal

pub returns-in_err-reader-clause-refused : goal.returns-in_err-reader-clause-refused
returns-in_err-reader-clause-refused c =
    let left = err_from_is_err_and c.from_residual.result c.from_residual.ensures.1 in
    rw (left.1, left.2) (untitled_schedule c.args.form c.args.text.now _ c.in_err-reader.ensures.refused)

pub returns-in-Ok-finish-clause-written : goal.returns-in-Ok-finish-clause-written
returns-in-Ok-finish-clause-written c =
    let left = c.in_ok-reader.reader in
    c.in-Ok-finish.ensures c.args.text.now
    (whole_played c.args.text.now left c.in_ok-reader.ensures.front c.args.form c.in-Ok.played c.in_ok-playing.playing
    c.in_ok-reader.ensures.lawful.few (subst (λ d. ArePlayed c.args.form ways.On d [] c.in-Ok.played) c.config.ensures c.in-Ok.ensures)
    c.in_ok-playing.ensures.played)

pub returns-in-Err-clause-refused : goal.returns-in-Err-clause-refused
returns-in-Err-clause-refused c =
    let left = c.in_ok-reader.reader in
    inl (refl, keeps_lines c.args.text.now left c.in_ok-reader.ensures.front c.args.form c.in_ok-playing.ensures.played.fine)
