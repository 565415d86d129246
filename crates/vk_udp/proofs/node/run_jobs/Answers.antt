use Rattle.std.proofs.Common.{arith, ap, ◌≡◌, ◌+◌, ℕ, length, subst, suc, sym, true}
use Rattle.turn_cell.specs.Seats.{Cell}
use Rattle.vk_port.specs.Stations.{StationHistory, is_process_of}
use Rattle.vk_program.specs.declared.assigned.Assigned.{Assigned}
use Rattle.vk_rules.specs.Each.{Each}
use Rattle.vk_udp.specs.Dealt.{IsStocked}
use Rattle.vk_udp.proofs.Dealing.{as_named}
use Rattle.vk_udp.proofs.node.run_jobs.Goals as goal

pub port-requires : goal.port-requires
port-requires g c =
    let stock = c.args.stock in
    let n = length c.args.roster.programs.items in
    let same : n + 2 ≡ suc (n + 1) = omega arith in
    (n + 1, subst (λ (k : ℕ). IsStocked stock.cell.now stock.hub.now stock.host k stock.seats.items stock.hub_seats.items) same c.requires.stock)

pub run_docked-requires-clause-stock : goal.run_docked-requires-clause-stock
run_docked-requires-clause-stock g c κs within =
    let stock = c.args.stock in
    let new = c.port.new.self in
    let n = length c.args.roster.programs.items in
    let same : n + 2 ≡ suc (n + 1) = omega arith in
    as_named (λ s h k. IsStocked s h k (n + 1) new.seats.items new.hub_seats.items) new.cell.now stock.cell.now new.hub.now stock.hub.now new.host
    stock.host (sym (ap (λ s. s.now) c.port.ensures.cell)) (sym (ap (λ h. h.now) c.port.ensures.hub)) (sym c.port.ensures.host)
    (c.port.ensures.left (n + 1)
    (subst (λ (k : ℕ). IsStocked stock.cell.now stock.hub.now stock.host k stock.seats.items stock.hub_seats.items) same c.requires.stock))

pub run_docked-requires-clause-processes : goal.run_docked-requires-clause-processes
run_docked-requires-clause-processes g c κs within =
    subst (λ (s : Cell StationHistory). Each (λ (a : Assigned _). is_process_of s.origin a.pid ≡ true) c.args.roster.programs.items)
    (sym (ap (λ s. s.now) c.port.ensures.cell)) c.requires.processes
