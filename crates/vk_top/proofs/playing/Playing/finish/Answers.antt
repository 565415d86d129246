use Rattle.std.proofs.lemmas.Result.{IfOk-weaker}
use Rattle.vk_top.proofs.Played.{written_front, written_whole}
use Rattle.vk_top.proofs.playing.Playing.finish.Goals as goal

pub returns-in-On : goal.returns-in-On
returns-in-On c =
    IfOk-weaker c.finish_whole.result _ _
    (λ w done text all. written_whole c.args.form text c.args.self w all c.in-On.is done.0 done.1) c.finish_whole.ensures

pub returns-in-Cut : goal.returns-in-Cut
returns-in-Cut c =
    IfOk-weaker c.finish_cut.result _ _
    (λ w done text all. written_front c.args.form text c.args.self w all c.in-Cut.is done.0 done.1) c.finish_cut.ensures
