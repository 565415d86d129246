use Rattle.std.proofs.Common.{sym, ◌∙◌}
use Rattle.vk_event.proofs.PairWords.{pair_less, pair_more, pairs_bad, pairs_end}
use Rattle.vk_event.proofs.programs.read_pairs.Goals as goal

pub loop-pairs-preserved : goal.loop-pairs-preserved
loop-pairs-preserved c =
    pair_more _ c.loop-pairs.pairs c.push.new.self c.in-Some.pair _ _ c.loop-pairs.invariant c.in-Some.ensures c.in_ok-push.ensures.ok

pub loop-pairs-smaller : goal.loop-pairs-smaller
loop-pairs-smaller c = pair_less c.in-Some.pair _ _ c.in-Some.ensures

pub returns-in_default : goal.returns-in_default
returns-in_default c =
    sym (pairs_bad _ c.loop-pairs.pairs _ c.loop-pairs.invariant (sym c.is_end.ensures ∙ c.loop-pairs-test.true) c.in_default.ensures)

pub returns : goal.returns
returns c = sym (pairs_end _ c.loop-pairs.pairs _ c.loop-pairs.invariant (sym c.is_end.ensures ∙ c.loop-pairs-test.false))
