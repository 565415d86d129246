use Rattle.std.proofs.Common.{arith, ap, get_or, sym, ◌∙◌}
use Rattle.vk_threads.proofs.Clocks.{may_at, may_more, so_all, so_cut, so_more, so_none}
use Rattle.vk_threads.proofs.clock.tick_each.Goals as goal

pub loop-port-init : goal.loop-port-init
loop-port-init g c = record { so_far = so_none c.args.ports.now; may = c.requires }

pub tick-requires : goal.tick-requires
tick-requires g c =
    let ports = c.loop-port.ports in
    let i = c.loop-port.port-index in
    may_at i ports (get_or ports i c.port-item.result) c.loop-port.invariant.may (omega arith) (sym (ap (λ x. get_or ports i x) c.port-item.is))

pub returns-in-Err-clause-cut : goal.returns-in-Err-clause-cut
returns-in-Err-clause-cut g c =
    let ports = c.loop-port.ports in
    let i = c.loop-port.port-index in
    so_cut i c.args.ports.now ports (get_or ports i c.port-item.result) c.tick.new.self c.in-Err.why c.loop-port.invariant.so_far (omega arith)
    (sym (ap (λ x. get_or ports i x) c.port-item.is)) c.in-Err.ensures.err

pub loop-port-preserved : goal.loop-port-preserved
loop-port-preserved g c =
    let ports = c.loop-port.ports in
    let i = c.loop-port.port-index in
    let p = get_or ports i c.port-item.result in
    let q = c.tick.new.self in
    let at = sym (ap (λ x. get_or ports i x) c.port-item.is) in
    let made = c.in-Ok.ensures.ok in
    record {
      so_far = so_more i c.args.ports.now ports p q _ c.loop-port.invariant.so_far (omega arith) at made;
      may = may_more i ports q c.loop-port.invariant.may
          (made.does.same.ticks ∙ may_at i ports p c.loop-port.invariant.may (omega arith) at);
    }

pub returns-clause-ticked : goal.returns-clause-ticked
returns-clause-ticked g c = so_all c.loop-port.port-index c.args.ports.now c.loop-port.ports c.loop-port.invariant.so_far (omega arith)
