use Rattle.std.proofs.Common.{◌≡◌, ◌&&◌, true, false, Some, is_some, refl, sym, ap, ◌∙◌, lit≤}
use Rattle.vk_base.specs.Calls.{forwarded}
use Rattle.vk_base.specs.Kernel.{Kernel, name_of, held, is_live}
use Rattle.vk_base.specs.Pids.{same_host}
use Rattle.v_laws.proofs.Held.{holding_is}
use Rattle.v_machine.specs.Kept.{kernel_in}
use Rattle.v_machine.specs.Tables.{kernel_of}
use Rattle.v_machine.proofs.CallSteps.{none_if}
use Rattle.v_machine.proofs.Forwarding.{way_made, taken_there}
use Rattle.v_machine.proofs.SendLemmas.{kept_stays, at_stays, stays_on}
use Rattle.v_machine.proofs.StepLemmas.{forward_allowed, forward_nowhere}
use Rattle.v_machine.proofs.Stores.{is_error}
use Rattle.v_machine.proofs.calls.forwarding.forward.Goals as goal

pub returns-in_default-find_near : goal.returns-in_default-find_near
returns-in_default-find_near c = λ p there ready.
    let k = kernel_in c.args.store.now in
    let holds : held k c.args.pid c.args.from ≡ Some c.in-Some.holding.number = sym c.in-Some.ensures.number in
    let none = none_if c.find_near.result c.in_default-find_near.not-Some in
    let far : (same_host c.args.pid c.args.to && is_live (k.procs c.args.to)) ≡ false = sym c.find_near.ensures.live ∙ ap is_some none in (
      record {
        effect = forward_nowhere k c.args.pid p c.args.message c.args.from c.args.to c.in-Some.holding.number holds far;
        indexed = c.requires.indexed;
      },
      lit≤ tt,
    )

pub hand_on-requires-clause-kept : goal.hand_on-requires-clause-kept
hand_on-requires-clause-kept c =
    kept_stays c.args.store.now c.make_way.new.store (way_made c.args.store.now c.make_way.new.store c.args.pid c.args.from c.args.to
    c.in-Some-find_near.there c.in-Some.holding.number c.requires (sym c.in-Some.ensures.number) c.in-Some-find_near.ensures.here
    c.make_way.ensures.stays) c.requires

pub hand_on-requires-clause-here : goal.hand_on-requires-clause-here
hand_on-requires-clause-here c =
    at_stays c.args.store.now c.make_way.new.store c.args.from c.in-Some.holding.at (way_made c.args.store.now c.make_way.new.store
    c.args.pid c.args.from c.args.to c.in-Some-find_near.there c.in-Some.holding.number c.requires (sym c.in-Some.ensures.number)
    c.in-Some-find_near.ensures.here c.make_way.ensures.stays) c.in-Some.ensures.here

pub hand_on-requires-clause-there : goal.hand_on-requires-clause-there
hand_on-requires-clause-there c =
    at_stays c.args.store.now c.make_way.new.store c.args.to c.in-Some-find_near.there (way_made c.args.store.now c.make_way.new.store
    c.args.pid c.args.from c.args.to c.in-Some-find_near.there c.in-Some.holding.number c.requires (sym c.in-Some.ensures.number)
    c.in-Some-find_near.ensures.here c.make_way.ensures.stays) c.in-Some-find_near.ensures.here

pub hand_on-requires-clause-taken : goal.hand_on-requires-clause-taken
hand_on-requires-clause-taken c =
    taken_there c.args.store.now c.make_way.new.store c.args.pid c.args.from c.in-Some.holding.number (sym c.in-Some.ensures.number)
    (way_made c.args.store.now c.make_way.new.store c.args.pid c.args.from c.args.to c.in-Some-find_near.there c.in-Some.holding.number
    c.requires (sym c.in-Some.ensures.number) c.in-Some-find_near.ensures.here c.make_way.ensures.stays)

pub returns-in_err-hand_on : goal.returns-in_err-hand_on
returns-in_err-hand_on c = λ p there ready.
    let s = c.args.store.now in
    let k = kernel_in s in
    let number = c.in-Some.holding.number in
    let holds : held k c.args.pid c.args.from ≡ Some number = sym c.in-Some.ensures.number in
    let near : (same_host c.args.pid c.args.to && is_live (k.procs c.args.to)) ≡ true = sym c.in-Some-find_near.ensures.live in
    let x = holding_is k c.args.pid c.args.from number holds in
    rw (is_error c.from_residual.result _ c.from_residual.ensures.1) (
      ap is_some (forward_allowed k _ c.args.pid p c.args.message c.args.from c.args.to number x.exchange holds near x.is refl),
      lit≤ tt,
      stays_on s c.make_way.new.store c.hand_on.new.store (way_made s c.make_way.new.store c.args.pid c.args.from c.args.to
          c.in-Some-find_near.there number c.requires holds c.in-Some-find_near.ensures.here c.make_way.ensures.stays)
          c.in_err-hand_on.ensures.err,
    )

pub returns : goal.returns
returns c = λ p there ready.
    let s = c.args.store.now in
    let k = kernel_in s in
    let number = c.in-Some.holding.number in
    let name = name_of c.args.from number in
    let holds : held k c.args.pid c.args.from ≡ Some number = sym c.in-Some.ensures.number in
    let near : (same_host c.args.pid c.args.to && is_live (k.procs c.args.to)) ≡ true = sym c.in-Some-find_near.ensures.live in
    let x = holding_is k c.args.pid c.args.from number holds in
    let stays = way_made s c.make_way.new.store c.args.pid c.args.from c.args.to c.in-Some-find_near.there number c.requires holds
    c.in-Some-find_near.ensures.here c.make_way.ensures.stays in
    let same = ap kernel_of (stays.tables 0) in
    let done = c.in_ok-hand_on.ensures.ok x.exchange (ap (λ (z : Kernel). z.exchanges name) same ∙ x.is) in (
      record {
        effect = forward_allowed k _ c.args.pid p c.args.message c.args.from c.args.to number x.exchange holds near x.is
            (done.0 ∙ ap (λ z. forwarded z name x.exchange c.args.message c.args.to) same);
        indexed = done.1;
      },
      lit≤ tt,
    )
