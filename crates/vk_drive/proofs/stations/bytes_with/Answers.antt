use Rattle.std.proofs.Common.{ap, ◌∙◌}
use Rattle.vk_schedule.specs.Views.{event_by}
use Rattle.vk_drive.specs.Driving.{is_delivery}
use Rattle.vk_drive.proofs.Coming.{comes_with}
use Rattle.vk_drive.proofs.stations.bytes_with.Goals as goal

pub returns-in-Deliver : goal.returns-in-Deliver
returns-in-Deliver c es s may same =
    let delivery = ap is_delivery (c.kind.ensures.1 ∙ ap (λ k. event_by k c.kind.ensures.0) c.in-Deliver.is) in
    comes_with c.frames_unseal_again.ensures es s c.args.next.now c.args.frame may delivery c.args.recent.now same c.get.result.now
    c.get.ensures c.as_slice.result.now c.as_slice.ensures.value
