use Rattle.std.proofs.Common.{◌≡◌}
use Rattle.vk_drive.specs.Storms.{storm_after}
use Rattle.vk_drive.proofs.SoFar.{IsStormSoFar}
use Rattle.vk_drive.proofs.driver.storm_schedule.Given as goal

abbrev pub invariant-loop-event : goal.invariant-loop-event
invariant-loop-event l = record {
  so_far : IsStormSoFar l.n l._event l.driver;
  events_are : l.events ≡ (storm_after l.n l._event).events;
}
