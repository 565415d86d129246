use Rattle.std.proofs.Common.{ap, ◌+◌, arith}
use Rattle.vk_host.specs.Responses.{answer_of}
use Rattle.vk_port.proofs.Holding.{bytes_fit, few_bytes, few_events, kept_more, own_process, short}
use Rattle.vk_port.proofs.station.StationReplay.act.Goals as goal

pub respond-response-requires-clause-few : goal.respond-response-requires-clause-few
respond-response-requires-clause-few c =
    let s = c.self.inside in
    few_events s.config.value s.entries.items s.host s.stations s.bytes c.self.invariant c.args.event.now

pub respond-response-requires-clause-own : goal.respond-response-requires-clause-own
respond-response-requires-clause-own c =
    let s = c.self.inside in
    let own = rw (← c.self.view_is) at c.requires.event_fits in
    own_process s.config.value s.entries.items s.host s.stations s.bytes c.self.invariant c.args.event.now own

pub show-requires-clause-short : goal.show-requires-clause-short
show-requires-clause-short c =
    let s = c.self.inside in
    let own = rw (← c.self.view_is) at c.requires.event_fits in
    short s.config.value s.entries.items s.host s.stations s.bytes c.self.invariant c.respond-response.new.self c.args.caller c.args.event.now
    (answer_of c.respond-response.new.self c.respond-response.result) c.is_held.ensures own c.respond-response.ensures.event c.respond-response.ensures.frames

pub show-requires-clause-bytes : goal.show-requires-clause-bytes
show-requires-clause-bytes c =
    let s = c.self.inside in
    let own = rw (← c.self.view_is) at c.requires.event_fits in
    few_bytes s.config.value s.entries.items s.host s.stations s.bytes c.self.invariant c.respond-response.new.self c.args.caller c.args.event.now
    (answer_of c.respond-response.new.self c.respond-response.result) c.is_held.ensures own c.respond-response.ensures.event c.respond-response.ensures.frames

pub overflow_add-self : goal.overflow_add-self
overflow_add-self c =
    let s = c.self.inside in
    let own = rw (← c.self.view_is) at c.requires.event_fits in
    let room = rw (← c.self.view_is) at c.requires.room in
    let fit = bytes_fit s.config.value s.entries.items s.host s.stations s.bytes c.self.invariant c.respond-response.new.self c.args.caller
    c.args.event.now (answer_of c.respond-response.new.self c.respond-response.result) c.is_held.ensures own c.respond-response.ensures.event c.respond-response.ensures.frames room.0 in
    omega (arith, c.show.ensures.bytes)

pub invariant_of-self : goal.invariant_of-self
invariant_of-self c =
    let s = c.self.inside in
    let own = rw (← c.self.view_is) at c.requires.event_fits in
    let room = rw (← c.self.view_is) at c.requires.room in
    kept_more s.config.value s.entries.items s.host s.stations s.bytes c.self.invariant c.respond-response.new.self c.args.caller
    c.args.event.now (answer_of c.respond-response.new.self c.respond-response.result) c.is_held.ensures own c.respond-response.ensures.event c.respond-response.ensures.frames room.0 c.push.new.self.items
    c.push.ensures _ (ap (λ n. s.bytes + n) c.show.ensures.bytes)
