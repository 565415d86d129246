use denote.Param.Send.{sendable}
use Rattle.std.proofs.Common.{ap, ◌∙◌}
use Rattle.std.proofs.Crossing.{crosses}
use Rattle.vk_schedule.specs.declared.log.StationLog.{StationLog}
use Rattle.vk_port.proofs.Crossing.{station_send}
use Rattle.vk_threads.proofs.gather.shut.Goals as goal

pub returns : goal.returns
returns c =
    let closed = c.close-station.ensures in
    record {
      closed = c.close-station.result;
      host = ap (λ (l : StationLog). l.host) c.new.ensures;
      events = ap (λ (l : StationLog). l.events) c.new.ensures ∙ c.into_events.ensures;
      lawful = c.event_count-count.ensures.lawful;
      origin = closed.origin;
      back = record { seen = closed.seen; mine = closed.mine; others = closed.others; different = closed.different; numbers = closed.numbers };
      looked = c.is_still-still.ensures;
    }

pub close-station-requires-send-S : goal.close-station-requires-send-S
close-station-requires-send-S c κs = search (sendable, crosses, station_send) depth 20
