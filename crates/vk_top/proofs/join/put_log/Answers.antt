use Rattle.std.proofs.Common.{◌∙◌, sym}
use Rattle.vk_top.proofs.Joins.{put_found, put_last}
use Rattle.vk_top.proofs.join.put_log.Goals as goal

pub returns-in_ok-insert-in-Some : goal.returns-in_ok-insert-in-Some
returns-in_ok-insert-in-Some c =
    c.in_ok-insert-in-Some.ensures.items
    ∙ put_found c.args.log c.args.logs.now.items _ c.in-Some.at c.deref.ensures.value (sym c.in-Some.ensures)

pub returns-in_ok-push-in-None : goal.returns-in_ok-push-in-None
returns-in_ok-push-in-None c =
    c.in_ok-push-in-None.ensures.items ∙ put_last c.args.log c.args.logs.now.items _ c.deref.ensures.value (sym c.in-None.ensures)
