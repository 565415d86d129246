use Rattle.std.proofs.Common.{rules, ◌≡◌, ◌∙◌, ◌++◌, ◌∷◌, [], ap, append-nil, append_assoc, arith, length, map, subst, sym}
use Rattle.std.proofs.lemmas.List.{length-map}
use Rattle.vk_rules.specs.Each.{Each}
use Rattle.vk_threads.specs.Ends.{ArePortsClosed, IsAt, port_host}
use Rattle.vk_threads.proofs.Sitting.{empty}
use Rattle.vk_threads.proofs.Ticking.{closed_first, host_next}
use Rattle.vk_threads.proofs.clock.close_all.Goals as goal

pub loop-port-init : goal.loop-port-init
loop-port-init g c =
    let ports = c.into_iter-port-iterator.result.rest in
    let are : map port_host ports.items ≡ c.args.hosts.now = search rules in
    record {
      at_hub = search rules;
      hosts = search rules;
      count = omega (arith, ap length are, length-map ports.items port_host, ports.ok.0);
      room = search rules;
      closed = λ ss it. search rules;
    }

pub loop-port-preserved : goal.loop-port-preserved
loop-port-preserved g c =
    let was = c.loop-port.invariant in
    let steps = c.in-Some.ensures.steps in
    let p = c.in-Some.port in
    let left = c.next.new.self.rest.items in
    let s = c.close_port.result in
    let next = host_next p left c.loop-port.port-iterator.rest.items c.args.hosts.now c.loop-port.at steps.0 was.hosts in
    record {
      at_hub = (subst (Each (IsAt c.args.hub.now)) steps.0 was.at_hub).1;
      hosts = next.1;
      count = omega (arith, was.count, steps.1);
      room = omega (arith, was.room, steps.1, c.push_reserved.ensures.len, c.push_reserved.ensures.capacity);
      closed = λ ss others.
          subst (λ l. ArePortsClosed c.args.ports.items (l ++ ss) c.args.halts) (sym c.push_reserved.ensures.items)
          (subst (λ l. ArePortsClosed c.args.ports.items l c.args.halts) (sym (append_assoc c.loop-port.seats.items (s ∷ []) ss))
          (was.closed (s ∷ ss) (subst (λ l. ArePortsClosed l (s ∷ ss) c.loop-port.left) (sym steps.0)
          (closed_first p left s ss c.loop-port.left (c.close_port.ensures.host ∙ next.0) c.close_port.ensures.closed others))));
    }

pub returns : goal.returns
returns g c =
    let done : c.loop-port.port-iterator.rest.items ≡ [] =
    empty c.loop-port.port-iterator.rest.items (omega (arith, c.in-None.ensures.steps.0, c.loop-port.port-iterator.rest.ok.0)) in
    subst (λ l. ArePortsClosed c.args.ports.items l c.args.halts) (append-nil c.loop-port.seats.items)
    (c.loop-port.invariant.closed [] (subst (λ l. ArePortsClosed l [] c.loop-port.left) (sym done) tt))
