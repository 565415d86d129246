use Rattle.std.proofs.Common.{◌≡◌, length, Some, sym, ap, ◌∙◌, arith}
use Rattle.std.proofs.lemmas.Bool.{le-ltb}
use Rattle.std.proofs.lemmas.Option.{same_Some}
use Rattle.vk_types.specs.Types.{Process}
use Rattle.vk_base.specs.Kernel.{held}
use Rattle.vk_base.specs.Ranges.{range_of, lies_in}
use Rattle.v_laws.proofs.Held.{holding_is}
use Rattle.v_machine.specs.Kept.{kernel_in}
use Rattle.v_machine.proofs.Accessing.{tests_found}
use Rattle.v_machine.proofs.calls.access.held_for.Goals as goal

pub returns-in-Some-access_refusal : goal.returns-in-Some-access_refusal
returns-in-Some-access_refusal c = λ p there.
    let k = kernel_in c.args.store.now in
    let a = c.args.access in
    let holds : held k c.args.pid a.partner ≡ Some c.in-Some.holding.number = sym c.in-Some.ensures.number in
    let x = holding_is k c.args.pid a.partner c.in-Some.holding.number holds in
    let same = same_Some _ p (sym (c.proc.ensures c.args.pid c.requires.here.place) ∙ there) in
    tests_found k c.args.pid p a c.in-Some.holding.number x.exchange c.granted-grants.result c.may-may.result c.lies_in-own.result
    (le-ltb a.limit a.own.len (omega arith)) holds x.is
    (c.granted-grants.ensures a.partner x.exchange c.in-Some.ensures.here.place x.is) c.may-may.ensures
    (c.lies_in-own.ensures ∙ ap (lies_in (range_of a.own.start a.own.len)) (c.size.ensures ∙ ap (λ (q : Process). length q.memory) same))
    ∙ sym c.access_refusal.ensures ∙ c.in-Some-access_refusal.is

pub returns-in-None : goal.returns-in-None
returns-in-None c = λ p there.
    let k = kernel_in c.args.store.now in
    let a = c.args.access in
    let holds : held k c.args.pid a.partner ≡ Some c.in-Some.holding.number = sym c.in-Some.ensures.number in
    let x = holding_is k c.args.pid a.partner c.in-Some.holding.number holds in
    let same = same_Some _ p (sym (c.proc.ensures c.args.pid c.requires.here.place) ∙ there) in (
      tests_found k c.args.pid p a c.in-Some.holding.number x.exchange c.granted-grants.result c.may-may.result c.lies_in-own.result
          (le-ltb a.limit a.own.len (omega arith)) holds x.is
          (c.granted-grants.ensures a.partner x.exchange c.in-Some.ensures.here.place x.is) c.may-may.ensures
          (c.lies_in-own.ensures
          ∙ ap (lies_in (range_of a.own.start a.own.len)) (c.size.ensures ∙ ap (λ (q : Process). length q.memory) same))
          ∙ sym c.access_refusal.ensures ∙ c.in-None.is,
      holds,
      c.in-Some.ensures.here,
    )
