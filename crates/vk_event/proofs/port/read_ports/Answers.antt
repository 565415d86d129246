use Rattle.std.proofs.Common.{List, ap, arith, sym, ◌∙◌}
use Rattle.vk_event.specs.Ports.{ports_from}
use Rattle.vk_event.specs.declared.port.StationPort.{StationPort}
use Rattle.vk_text.specs.Lines.{lines_of}
use Rattle.vk_event.proofs.PortLines.{behind, no_line_left, one_longer, other_line, port_more}
use Rattle.std.proofs.Common.{drop}
use Rattle.vk_event.proofs.port.read_ports.Goals as goal

pub loop-line-preserved : goal.loop-line-preserved
loop-line-preserved c = record {
  within = omega (arith, c.in-Some.ensures.next);
  few =
      let longer = one_longer c.loop-line.ports c.push.new.self c.in-Some-read_port_above.port c.in_ok-push.ensures.ok in
      omega (arith, longer, c.in-Some.ensures.next, c.loop-line.invariant.few);
  read =
      port_more _ c.args.config.now.specs c.loop-line.ports c.loop-line.last c.in-Some.line.now _ _ c.in-Some-read_port_above.port
      c.loop-line.invariant.read c.in-Some.ensures.line (sym c.in-Some-read_port_above.ensures)
      ∙ ap (λ (ps : List StationPort). behind ps (ports_from c.args.config.now.specs c.in-Some-read_port_above.port.host
      (lines_of (drop c.in-Some.next c.args.text.now)))) (sym c.in_ok-push.ensures.ok);
}

pub returns-in_default-read_port_above-clause-read : goal.returns-in_default-read_port_above-clause-read
returns-in_default-read_port_above-clause-read c =
    other_line _ c.args.config.now.specs c.loop-line.ports c.loop-line.last c.in-Some.line.now _ _ c.loop-line.invariant.read
    c.in-Some.ensures.line (sym c.in_default-read_port_above.ensures)

pub returns-clause-read : goal.returns-clause-read
returns-clause-read c =
    no_line_left _ c.args.config.now.specs c.loop-line.ports c.loop-line.last _ c.loop-line.invariant.read c.in_default.ensures.line
