use Rattle.std.proofs.Common.{◌≡◌, ℕ, [], length}
use Rattle.std.specs.Prelude.{slice_get, slice_index_or, Some}
use Rattle.vk_drive.specs.declared.actor.Actor.{Actor}
use Rattle.vk_drive.specs.Driving.{IsActor}
use Rattle.vk_drive.specs.Tasks.{server}
use Rattle.vk_drive.proofs.actors.new_actors.Given as goal

abbrev pub invariant-loop-task : goal.invariant-loop-task
invariant-loop-task l = record {
  count : length l.actors.items ≡ l.task-index;
  each : (place : ℕ) (a : Actor) → slice_get l.actors.items place ≡ Some a → IsActor a (slice_index_or l.task-items place server) [];
}
