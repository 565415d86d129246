use denote.Param.Send.{sendable}
use Rattle.std.proofs.Crossing.{crosses}
use Rattle.vk_port.specs.Stations.{entry_at}
use Rattle.vk_port.proofs.Crossing.{station_send}
use Rattle.vk_port.proofs.Turning.{cut, made, refused, some_answer}
use Rattle.vk_port.proofs.access.StationAccess.enter_when_ready.Goals.{in-Ok, in-Err-post_frames}
use Rattle.vk_port.proofs.access.StationAccess.enter_when_ready.Goals as goal

pub step_when_ready-requires-send-S : goal.step_when_ready-requires-send-S
step_when_ready-requires-send-S g c κs within = search (sendable, crosses, station_send) depth 20

pub returns-after-post_frames-clause-done : goal.returns-after-post_frames-clause-done
returns-after-post_frames-clause-done g c =
    let p = c.self.inside in
    let t = c.step_when_ready.new.seat in
    let out = c.step_when_ready.new.out in
    let e = c.args.event.now in
    let own = rw (← c.self.view_is) at c.requires.own in
    let turn = c.in-Ok-Done.ensures.done c.in-Ok-Done.field-0-is in
    let given = (entry_at p.station.now.origin turn.before e).answer in
    let shown = some_answer p.request p.station.now p.hub.now p.ticks p.seat t p.hub_seat e c.args.out.now out
    c.step_when_ready.ensures.same c.step_when_ready.ensures.complete own turn in
    elim c.match-post_frames.branch [
      | in-Ok w ↦
          rw (w.result-is, ← c.self.view_is)
          (λ done. (
            given,
            shown,
            made p.request p.station.now p.hub.now p.ticks p.seat t p.hub_seat e c.args.out.now out
                c.step_when_ready.ensures.same c.step_when_ready.ensures.complete own turn c.post_frames.new.seat given shown w.in-Ok.ensures.ok,
          ))
      | in-Err-post_frames w ↦ rw (w.result-is) tt
    ]

pub returns-after-post_frames-clause-err : goal.returns-after-post_frames-clause-err
returns-after-post_frames-clause-err g c =
    let p = c.self.inside in
    let own = rw (← c.self.view_is) at c.requires.own in
    let turn = c.in-Ok-Done.ensures.done c.in-Ok-Done.field-0-is in
    elim c.match-post_frames.branch [
      | in-Ok w ↦ rw (w.result-is) tt
      | in-Err-post_frames w ↦
          rw (w.result-is, ← c.self.view_is)
          (cut p.request p.station.now p.hub.now p.ticks p.seat c.step_when_ready.new.seat p.hub_seat c.args.event.now c.args.out.now
          c.step_when_ready.new.out c.step_when_ready.ensures.same c.step_when_ready.ensures.complete own turn c.post_frames.new.seat
          w.in-Err-post_frames.why w.in-Err-post_frames.ensures.err)
    ]

pub returns-in-Err-clause-err : goal.returns-in-Err-clause-err
returns-in-Err-clause-err g c =
    let p = c.self.inside in
    rw (← c.self.view_is)
    (refused p.request p.station.now p.hub.now p.ticks p.seat c.step_when_ready.new.seat p.hub_seat c.args.event.now c.in-Err.why
    c.step_when_ready.ensures.same c.in-Err.ensures.err.0 c.in-Err.ensures.err.2 c.in-Err.ensures.refused)
