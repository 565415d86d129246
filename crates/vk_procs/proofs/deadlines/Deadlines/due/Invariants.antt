use Rattle.vk_procs.proofs.Followed.{IsAsking}
use Rattle.vk_procs.proofs.deadlines.Deadlines.due.Given as goal

abbrev pub invariant-loop-turn : goal.invariant-loop-turn
invariant-loop-turn l = IsAsking l.self l.seats l.now l.left l.due l._turn
