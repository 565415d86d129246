use Rattle.vk_drive.proofs.SoFar.{IsStormSoFar}
use Rattle.vk_drive.proofs.driver.storm.Given as goal

abbrev pub invariant-loop-event : goal.invariant-loop-event
invariant-loop-event l = IsStormSoFar l.n l._event l.driver
