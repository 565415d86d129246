use Rattle.std.proofs.Common.{◌++◌, subst, sym, ◌∙◌}
use Rattle.vk_edge.specs.Pieces.{EndsLine}
use Rattle.vk_top.proofs.PieceInputs.{refused_more, unread_on_way, way_more, work_done, work_refused}
use Rattle.vk_top.specs.Begun.{HasBegun, HasReadAll, StaysRefused}
use Rattle.vk_top.proofs.top.work_on_input.Goals as goal

pub returns-in-Err-next-clause-refused : goal.returns-in-Err-next-clause-refused
returns-in-Err-next-clause-refused g c =
    unread_on_way c.args.asked _ _ _ _ _ _ _ c.loop-pieces.invariant.way c.from-in-Err-next.ensures c.in-Err-next.ensures.refused

pub loop-pieces-preserved : goal.loop-pieces-preserved
loop-pieces-preserved g c =
    let a = c.args.asked in
    let further = c.in-Ok-go_on.further in
    let same = c.piece.ensures in
    record {
      way = way_more a _ _ _ _ _ _ c.loop-pieces.invariant.way c.in-Ok-next.ensures.piece further
          (sym c.is_last.ensures ∙ c.loop-pieces-test.true)
          (λ text has ends. subst (λ l. HasBegun a (text ++ l) further) same
          (c.in-Ok-go_on.ensures.more text has (subst EndsLine (sym same) ends)))
          (λ text has. subst (λ l. HasReadAll a (text ++ l) further) same (c.in-Ok-go_on.ensures.all text has));
      kept = c.in-Ok-next.ensures.kept ∙ c.loop-pieces.invariant.kept;
    }

pub returns-in-Err-go_on-clause-refused : goal.returns-in-Err-go_on-clause-refused
returns-in-Err-go_on-clause-refused g c =
    let a = c.args.asked in
    let status = c.in-Err-go_on.status in
    c.refused_late.ensures.refused a _
    (refused_more a _ _ _ _ _ _ c.loop-pieces.invariant.way c.in-Ok-next.ensures.piece status
    (sym c.is_last.ensures ∙ c.loop-pieces-test.true)
    (λ text has. subst (λ l. StaysRefused a text l status) c.piece.ensures (c.in-Err-go_on.ensures.refused text has)))

pub returns-clause-work : goal.returns-clause-work
returns-clause-work g c =
    work_done c.args.asked _ _ _ _ c.loop-pieces.invariant.way (sym c.is_last.ensures ∙ c.loop-pieces-test.false) c.finish.result
    c.finish.ensures.work

pub returns-clause-refused : goal.returns-clause-refused
returns-clause-refused g c =
    work_refused c.args.asked _ _ _ _ c.loop-pieces.invariant.way (sym c.is_last.ensures ∙ c.loop-pieces-test.false) c.finish.result
    c.finish.ensures.refused
