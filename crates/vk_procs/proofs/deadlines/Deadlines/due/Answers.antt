use Rattle.vk_procs.proofs.Followed.{asking_first, due_all, due_over}
use Rattle.vk_procs.proofs.deadlines.Deadlines.due.Goals as goal

pub loop-turn-init : goal.loop-turn-init
loop-turn-init c = asking_first _ c.args.seats.now _ _ (c.turn_to-left.ensures c.args.seats.now c.requires.followed)

pub returns-in-None-clause-due : goal.returns-in-None-clause-due
returns-in-None-clause-due c = due_over _ _ _ _ _ _ c.loop-turn.invariant c.in-None.ensures.none c.requires.few

pub returns-clause-due : goal.returns-clause-due
returns-clause-due c = due_all _ _ _ _ _ _ c.loop-turn.invariant c.loop-turn-test.false c.requires.few
