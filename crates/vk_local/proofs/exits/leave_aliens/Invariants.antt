use Rattle.vk_local.proofs.Leaving.{IsLeftTo}
use Rattle.vk_local.proofs.exits.leave_aliens.Given as goal

abbrev pub invariant-loop-slot : goal.invariant-loop-slot
invariant-loop-slot l = IsLeftTo l.pid l.now l.slot l.initial.aliens l.aliens l.initial.out l.out
