use Rattle.std.proofs.Common.{◌≡◌, [], length, ap, subst, arith}
use Rattle.std.specs.Prelude.{slice_index_or}
use Rattle.vk_drive.specs.Driving.{IsActor}
use Rattle.vk_drive.specs.Tasks.{server}
use Rattle.vk_drive.proofs.actors.new_actors.Goals as goal

pub returns : goal.returns
returns c = record {
  count =
      let four : length c.tasks-tasks.result ≡ 4 = ap length c.tasks-tasks.ensures in
      let count = c.loop-task.invariant.count in
      omega (arith, four, count);
  each = λ place a found.
      subst (λ ts. IsActor a (slice_index_or ts place server) []) c.tasks-tasks.ensures (c.loop-task.invariant.each place a found);
}
