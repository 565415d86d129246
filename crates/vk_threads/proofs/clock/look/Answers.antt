use Rattle.std.proofs.Common.{arith, ap, get_or, sym, subst}
use Rattle.vk_port.specs.Ports.{HasPumped, pumped_as}
use Rattle.vk_threads.proofs.Clocks.{first_cut, first_delivers, first_pumps, first_rests, first_stops}
use Rattle.vk_threads.proofs.clock.look.Goals as goal

pub returns-in-Ok-Stopped-clause-looked : goal.returns-in-Ok-Stopped-clause-looked
returns-in-Ok-Stopped-clause-looked g c =
    let ports = c.args.ports.now in
    let p = get_or ports 0 c.index-ports-0.result in
    let q = c.pump_once.new.self in
    let told = c.in-Ok-Stopped.ensures.ok in
    first_stops ports p q (grind arith) (sym (ap (λ x. get_or ports 0 x) c.index-ports-0.is))
    (subst (λ a. HasPumped p q (pumped_as a told.0)) c.in-Ok-Stopped.field-0-is told.1)

pub returns-in-Ok-Frame-clause-looked : goal.returns-in-Ok-Frame-clause-looked
returns-in-Ok-Frame-clause-looked g c =
    let ports = c.args.ports.now in
    let p = get_or ports 0 c.index-ports-0.result in
    let q = c.pump_once.new.self in
    let at = sym (ap (λ x. get_or ports 0 x) c.index-ports-0.is) in
    let told = c.in-Ok-Frame.ensures.ok in
    let pumped = subst (λ a. HasPumped p q (pumped_as a told.0)) c.in-Ok-Frame.field-0-is told.1 in (
      first_delivers ports p q told.0 (grind arith) at pumped,
      first_pumps ports p q (pumped_as c.in-Ok-Frame.field-0 told.0) (grind arith) at told.1,
    )

pub returns-in-Ok-Nothing-clause-looked : goal.returns-in-Ok-Nothing-clause-looked
returns-in-Ok-Nothing-clause-looked g c =
    let ports = c.args.ports.now in
    let p = get_or ports 0 c.index-ports-0.result in
    let q = c.pump_once.new.self in
    let at = sym (ap (λ x. get_or ports 0 x) c.index-ports-0.is) in
    let told = c.in-Ok-Nothing.ensures.ok in
    let rested = subst (λ a. HasPumped p q (pumped_as a told.0)) c.in-Ok-Nothing.field-0-is told.1 in (
      first_rests ports p q (grind arith) at rested.0,
      first_pumps ports p q (pumped_as c.in-Ok-Nothing.field-0 told.0) (grind arith) at told.1,
    )

pub returns-in-Err-clause-cut : goal.returns-in-Err-clause-cut
returns-in-Err-clause-cut g c =
    let ports = c.args.ports.now in
    let p = get_or ports 0 c.index-ports-0.result in
    first_cut ports p c.pump_once.new.self c.in-Err.why (grind arith) (sym (ap (λ x. get_or ports 0 x) c.index-ports-0.is)) c.in-Err.ensures.err
