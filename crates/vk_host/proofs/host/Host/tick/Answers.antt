use Rattle.std.proofs.Common.{subst}
use Rattle.vk_base.specs.declared.event.EventAnswer.TheVariants as events_answered
use Rattle.vk_rules.specs.Entries.{Ticked}
use Rattle.vk_host.specs.Standing.{StandsSomewhere}
use Rattle.vk_host.proofs.Events.{can_seal, event_is, tick_happens}
use Rattle.vk_host.proofs.Limits.{few_ticked}
use Rattle.vk_host.proofs.Rooms.{can_tick, few_before, few_yet}
use Rattle.vk_host.proofs.Lasting.{stands_on}
use Rattle.vk_host.proofs.host.Host.tick.Goals as goal

pub count-requires : goal.count-requires
count-requires c =
    let s = c.self.inside in
    few_yet c.args.self.now s.desk s.number s.events c.self.view_is (few_before c.args.self.now.events c.requires.few)

pub tick-now-requires : goal.tick-now-requires
tick-now-requires c =
    let s = c.self.inside in
    record { can = can_tick c.args.self.now s.desk s.number s.events c.self.view_is (subst StandsSomewhere c.self.view_is c.self.invariant) c.requires.few }

pub seal-requires : goal.seal-requires
seal-requires c =
    let s = c.self.inside in
    let n = c.count.new in
    let d = c.tick-now.new.desk in
    can_seal c.args.self.now Ticked (events_answered.Ticked c.tick-now.result) d n.number n.events
    (tick_happens c.args.self.now s.desk d s.number s.events c.self.view_is (events_answered.Ticked c.tick-now.result) n.number n.events
    c.count.ensures.events c.tick-now.ensures.same c.count.ensures.number c.tick-now.ensures.played) (subst StandsSomewhere c.self.view_is c.self.invariant)
    (few_before c.args.self.now.events c.requires.few)

pub returns-clause-event : goal.returns-clause-event
returns-clause-event c =
    let s = c.self.inside in
    let n = c.count.new in
    let d = c.tick-now.new.desk in
    event_is c.args.self.now Ticked (events_answered.Ticked c.tick-now.result) d n.number n.events
    (tick_happens c.args.self.now s.desk d s.number s.events c.self.view_is (events_answered.Ticked c.tick-now.result) n.number n.events
    c.count.ensures.events c.tick-now.ensures.same c.count.ensures.number c.tick-now.ensures.played) c.seal.new.out c.seal.ensures

pub returns-clause-frames : goal.returns-clause-frames
returns-clause-frames c =
    let s = c.self.inside in
    let n = c.count.new in
    let d = c.tick-now.new.desk in
    few_ticked c.args.self.now Ticked (events_answered.Ticked c.tick-now.result) d n.number n.events
    (tick_happens c.args.self.now s.desk d s.number s.events c.self.view_is (events_answered.Ticked c.tick-now.result) n.number n.events
    c.count.ensures.events c.tick-now.ensures.same c.count.ensures.number c.tick-now.ensures.played) c.seal.new.out c.seal.ensures
    (subst StandsSomewhere c.self.view_is c.self.invariant) c.are_few.ensures.frames

pub invariant_of-self : goal.invariant_of-self
invariant_of-self c =
    stands_on _ _ _ _ (returns-clause-event c) (subst StandsSomewhere c.self.view_is c.self.invariant)
