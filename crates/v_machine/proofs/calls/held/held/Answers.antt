use Rattle.std.proofs.Common.{sym, ap, refl, ◌∙◌}
use Rattle.vk_base.specs.Kernel.{holds_of, is_held_by}
use Rattle.v_machine.proofs.Holding.{held_nowhere, held_not, held_latest}
use Rattle.v_machine.proofs.Stores.{process_at}
use Rattle.v_machine.proofs.calls.held.held.Goals as goal

pub returns-in_err-at-clause-number : goal.returns-in_err-at-clause-number
returns-in_err-at-clause-number c =
    rw c.from_residual.ensures (sym (held_nowhere c.args.store.now c.args.pid c.args.sender _ c.requires refl c.in_err-at.ensures.absent))

pub returns-in_err-sent-clause-number : goal.returns-in_err-sent-clause-number
returns-in_err-sent-clause-number c =
    let here = c.in_ok-at.ensures.here in
    let p = process_at c.args.store.now c.args.sender c.in_ok-at.at here in
    rw c.from_residual-in_err-sent.ensures (sym (held_not c.args.store.now c.args.pid c.args.sender c.latest_of-number.result c.requires
    (c.latest_of-number.ensures c.args.sender here.place) p.0 p.1
    (ap (holds_of (is_held_by c.args.pid)) (c.in_err-sent.ensures c.args.sender here.place))))

pub returns-then-not-is_held_by-clause-number : goal.returns-then-not-is_held_by-clause-number
returns-then-not-is_held_by-clause-number c =
    let here = c.in_ok-at.ensures.here in
    let p = process_at c.args.store.now c.args.sender c.in_ok-at.at here in
    sym (held_not c.args.store.now c.args.pid c.args.sender c.latest_of-number.result c.requires
    (c.latest_of-number.ensures c.args.sender here.place) p.0 p.1
    (ap (holds_of (is_held_by c.args.pid)) (c.in_ok-sent.ensures c.args.sender here.place) ∙ sym c.is_held_by.ensures
    ∙ c.if-not-is_held_by.true))

pub returns-clause-number : goal.returns-clause-number
returns-clause-number c =
    let here = c.in_ok-at.ensures.here in
    let p = process_at c.args.store.now c.args.sender c.in_ok-at.at here in
    sym (held_latest c.args.store.now c.args.pid c.args.sender c.latest_of-number.result c.requires
    (c.latest_of-number.ensures c.args.sender here.place) p.0 p.1
    (ap (holds_of (is_held_by c.args.pid)) (c.in_ok-sent.ensures c.args.sender here.place) ∙ sym c.is_held_by.ensures
    ∙ c.if-not-is_held_by.false))
