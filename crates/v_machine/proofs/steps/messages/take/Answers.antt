use Rattle.std.proofs.Common.{◌≡◌, Some, sym, arith, ◌∙◌}
use Rattle.vk_base.specs.Kernel.{receiving}
use Rattle.vk_base.specs.Activities.{call_of, state_of}
use Rattle.v_machine.proofs.Taking.{live_first, still_low, take_by, take_lost}
use Rattle.v_machine.proofs.steps.messages.take.Goals as goal

pub returns-in_err-from : goal.returns-in_err-from
returns-in_err-from c =
    let place = c.in_ok-at.ensures.here.place in
    let waits : receiving (state_of c.proc.result.now.activity) ≡ Some (call_of c.in_ok-waiting.waiting) =
    grind (arith, c.receiving.ensures, c.in_ok-waiting.was) in
    rw c.from_residual-in_err-from.ensures (take_lost c.args.store.now c.front.new.store c.args.pid c.in_ok-at.at _
    (call_of c.in_ok-waiting.waiting) c.in_ok-name.name c.requires c.in_ok-at.ensures.here (c.proc.ensures c.args.pid place) waits
    (sym c.in_ok-name.was ∙ c.front.ensures.first) c.front.ensures.tables c.front.ensures.indexed
    (sym c.in_err-from.was ∙ c.find-2.ensures.place))

pub deliver-requires-clause-at : goal.deliver-requires-clause-at
deliver-requires-clause-at c =
    let place = c.in_ok-at.ensures.here.place in
    let waits : receiving (state_of c.proc.result.now.activity) ≡ Some (call_of c.in_ok-waiting.waiting) =
    grind (arith, c.receiving.ensures, c.in_ok-waiting.was) in
    still_low c.args.store.now c.front.new.store c.args.pid c.in_ok-at.at _ (call_of c.in_ok-waiting.waiting) c.in_ok-name.name c.requires
    c.in_ok-at.ensures.here (c.proc.ensures c.args.pid place) waits (sym c.in_ok-name.was ∙ c.front.ensures.first)
    c.front.ensures.tables

pub deliver-requires-clause-live : goal.deliver-requires-clause-live
deliver-requires-clause-live c =
    let place = c.in_ok-at.ensures.here.place in
    let waits : receiving (state_of c.proc.result.now.activity) ≡ Some (call_of c.in_ok-waiting.waiting) =
    grind (arith, c.receiving.ensures, c.in_ok-waiting.was) in
    live_first c.args.store.now c.front.new.store c.args.pid c.in_ok-at.at _ (call_of c.in_ok-waiting.waiting) c.in_ok-name.name c.requires
    c.in_ok-at.ensures.here (c.proc.ensures c.args.pid place) waits (sym c.in_ok-name.was ∙ c.front.ensures.first)
    c.front.ensures.tables c.in_ok-from.from c.in_ok-from.ensures.here

pub returns : goal.returns
returns c =
    let place = c.in_ok-at.ensures.here.place in
    let waits : receiving (state_of c.proc.result.now.activity) ≡ Some (call_of c.in_ok-waiting.waiting) =
    grind (arith, c.receiving.ensures, c.in_ok-waiting.was) in
    take_by c.args.store.now c.front.new.store c.args.pid c.in_ok-at.at _ (call_of c.in_ok-waiting.waiting) c.in_ok-name.name c.requires
    c.in_ok-at.ensures.here (c.proc.ensures c.args.pid place) waits (sym c.in_ok-name.was ∙ c.front.ensures.first)
    c.front.ensures.tables
    c.deliver.new.store c.in_ok-from.from c.deliver.result c.front.ensures.indexed c.in_ok-from.ensures.here c.deliver.ensures
