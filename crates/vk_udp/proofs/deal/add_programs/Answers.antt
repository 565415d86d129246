use Rattle.std.proofs.Common.{arith, ap, ◌∙◌, ◌+◌, ◌≡◌, [], suc, sym, subst, true, false, length}
use Rattle.vk_threads.proofs.Ending.{process_here}
use Rattle.vk_port.specs.Stations.{StationHistory, is_process_of}
use Rattle.vk_program.specs.declared.assigned.Assigned.{Assigned}
use Rattle.vk_rules.specs.Each.{Each}
use Rattle.turn_cell.specs.Seats.{Cell}
use Rattle.vk_udp.specs.Dealt.{IsNodePort, IsStocked}
use Rattle.vk_udp.proofs.Dealing.{as_named, next_stock, program_job}
use Rattle.vk_udp.proofs.deal.add_programs.Goals as goal

pub port-requires : goal.port-requires
port-requires g c =
    let self = c.args.stock.now in
    let here = c.loop-assigned.stock in
    let was = c.loop-assigned.invariant in
    let left = c.next.new.self.rest.items in
    let n = c.requires.stock.0 in (
      length left + n,
      as_named (λ s h k. IsStocked s h k (suc (length left + n)) here.seats.items here.hub_seats.items) here.cell.now self.cell.now here.hub.now
          self.hub.now here.host self.host (sym (ap (λ s. s.now) was.cell)) (sym (ap (λ h. h.now) was.hub)) (sym was.host)
          (next_stock (λ m. IsStocked self.cell.now self.hub.now self.host m here.seats.items here.hub_seats.items)
          c.loop-assigned.assigned-iterator.rest.items left c.in-Some.assigned n c.in-Some.ensures.steps.0 (was.left n c.requires.stock.1)),
    )

pub new-requires-clause-process : goal.new-requires-clause-process
new-requires-clause-process g c =
    let self = c.args.stock.now in
    let was = c.loop-assigned.invariant in
    let a = c.in-Some.assigned in
    let own = (subst (Each (λ (b : Assigned _). is_process_of self.cell.now.origin b.pid ≡ true)) c.in-Some.ensures.steps.0 was.processes).0 in
    subst (λ (s : Cell StationHistory). is_process_of s.origin a.pid ≡ true)
    (sym (c.in_ok-port.ensures.port.at_cell ∙ ap (λ s. s.now) was.cell)) own

pub new-requires-clause-host : goal.new-requires-clause-host
new-requires-clause-host g c =
    let self = c.args.stock.now in
    let was = c.loop-assigned.invariant in
    let a = c.in-Some.assigned in
    let own = (subst (Each (λ (b : Assigned _). is_process_of self.cell.now.origin b.pid ≡ true)) c.in-Some.ensures.steps.0 was.processes).0 in
    process_here self.cell.now.origin a.pid own ∙ c.requires.stock.1.at ∙ sym was.host ∙ sym c.in_ok-port.ensures.port.at

pub new-requires-clause-fresh : goal.new-requires-clause-fresh
new-requires-clause-fresh g c =
    (subst (Each (λ (b : Assigned _). g.G.Program.is_after b.program [])) c.in-Some.ensures.steps.0 c.loop-assigned.invariant.fresh).0

pub loop-assigned-preserved : goal.loop-assigned-preserved
loop-assigned-preserved g c =
    let self = c.args.stock.now in
    let here = c.loop-assigned.stock in
    let new = c.port.new.self in
    let was = c.loop-assigned.invariant in
    let a = c.in-Some.assigned in
    let steps = c.in-Some.ensures.steps.0 in
    let left = c.next.new.self.rest.items in
    let cell = ap (λ s. s.now) was.cell in
    let hub = ap (λ h. h.now) was.hub in
    record {
      host = c.port.ensures.host ∙ was.host;
      cell = c.port.ensures.cell ∙ was.cell;
      hub = c.port.ensures.hub ∙ was.hub;
      processes = (subst (Each _) steps was.processes).1;
      fresh = (subst (Each _) steps was.fresh).1;
      jobs = λ front are. program_job self.cell.now self.hub.now self.host front c.loop-assigned.yielded c.loop-assigned.jobs.items
          c.push.new.self.items a c.in_ok-port.port c.in_ok-work.work c.in_ok-work.ensures c.in_ok-push.ensures.items
          (as_named (λ s h k. IsNodePort s h k false c.in_ok-port.port) self.cell.now here.cell.now self.hub.now here.hub.now self.host here.host
          cell hub was.host c.in_ok-port.ensures.port) (was.jobs front are);
      left = λ n stock. as_named (λ s h k. IsStocked s h k (length left + n) new.seats.items new.hub_seats.items) self.cell.now here.cell.now
          self.hub.now here.hub.now self.host here.host cell hub was.host (c.port.ensures.left (length left + n)
          (as_named (λ s h k. IsStocked s h k (suc (length left + n)) here.seats.items here.hub_seats.items) here.cell.now self.cell.now
          here.hub.now self.hub.now here.host self.host (sym cell) (sym hub) (sym was.host)
          (next_stock (λ m. IsStocked self.cell.now self.hub.now self.host m here.seats.items here.hub_seats.items)
          c.loop-assigned.assigned-iterator.rest.items left a n steps (was.left n stock))));
    }

pub returns-clause-left : goal.returns-clause-left
returns-clause-left g c =
    let self = c.args.stock.now in
    let new = c.loop-assigned.stock in
    let rest = c.loop-assigned.assigned-iterator.rest in
    λ n stock. let none : length rest.items + n ≡ n = omega (arith, c.in-None.ensures.steps.0, rest.ok.0) in
    subst (λ m. IsStocked self.cell.now self.hub.now self.host m new.seats.items new.hub_seats.items) none (c.loop-assigned.invariant.left n stock)
