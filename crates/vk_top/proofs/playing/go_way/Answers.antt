use Rattle.std.proofs.Common.{subst}
use Rattle.vk_top.proofs.Played.{cut_still}
use Rattle.vk_top.specs.Pieces.{GoesWay}
use Rattle.vk_top.proofs.playing.go_way.Goals as goal

pub returns-in-Cut-clause-way : goal.returns-in-Cut-clause-way
returns-in-Cut-clause-way c es goes =
    let r = c.args.reader.now in
    let p = c.args.played.now in
    cut_still c.args.form r.schedule.config es r.schedule.events p
    (subst (λ way. GoesWay c.args.form way r.schedule.config es p) c.in-Cut.is goes)
