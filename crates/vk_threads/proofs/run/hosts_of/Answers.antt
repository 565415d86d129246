use Rattle.std.proofs.Common.{ap, ◌∙◌, map}
use Rattle.vk_base.proofs.ListLemmas.{take_all}
use Rattle.vk_threads.specs.Dealt.{host_of}
use Rattle.vk_threads.proofs.Dealing.{hosts_all}
use Rattle.vk_threads.proofs.run.hosts_of.Goals as goal

pub returns : goal.returns
returns g c =
    let programs = c.args.programs.now in
    hosts_all c.loop-assigned.hosts.items (map host_of programs) c.args.stations.now c.extend_from_slice.new.self.items
    c.extend_from_slice-2.new.self.items
    (c.loop-assigned.invariant ∙ ap (map host_of) (take_all programs c.loop-assigned.assigned-index c.loop-assigned-test.false))
    c.in_ok-extend_from_slice.ensures.items c.in_ok-extend_from_slice-2.ensures.items
