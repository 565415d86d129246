use Rattle.vk_hub.specs.Hubs.{is_halt}
use Rattle.vk_hub.proofs.Entries.{counts_one, kept_more}
use Rattle.vk_hub.proofs.state.HubStateReplay.act.Goals as goal

pub invariant_of-self : goal.invariant_of-self
invariant_of-self c =
    let h = c.self.inside in
    let room = rw (← c.self.view_is) at c.requires.room in
    let next = kept_more h.plan h.stations.items h.programs c.args.caller h.links h.past h.others c.self.invariant c.args.event.now room in
    rw (c.change.ensures.traffic, c.push.ensures, c.is_halt.ensures, counts_one (is_halt c.args.event.now)) next
