use Rattle.std.proofs.Common.{◌≡◌, true, set, refl, sym, ap, ◌∙◌}
use Rattle.std.proofs.lemmas.Option.{same_Some}
use Rattle.vk_types.specs.Types.{Exchange}
use Rattle.vk_base.specs.Calls.{forwarded}
use Rattle.vk_base.specs.Kernel.{is_taken, put_exchange}
use Rattle.v_machine.specs.Kept.{kernel_in}
use Rattle.v_machine.specs.Sends.{handed_on}
use Rattle.v_machine.specs.Tables.{exchanges_by}
use Rattle.v_machine.proofs.Forwarding.{indexed_forwarded}
use Rattle.v_machine.proofs.KernelLemmas.{kernel-exchange, set_self}
use Rattle.v_machine.proofs.SendLemmas.{stays_alike, truncated}
use Rattle.v_machine.proofs.Stores.{on_ok, on_err}
use Rattle.v_machine.proofs.Live.{live_taken}
use Rattle.v_machine.proofs.calls.forwarding.hand_on.Goals as goal

pub returns-then-is_err-clause-err : goal.returns-then-is_err-clause-err
returns-then-is_err-clause-err c =
    let s = c.args.store.now in
    let failed = on_err c.hand_on.result _ (sym c.is_err.ensures.value ∙ c.if-is_err.true) c.hand_on.ensures.err in
    let sends = ap (set s.sends.items c.args.at) failed
    ∙ set_self s.sends.items c.args.at c.index_mut-2.result.now c.index_mut-2.ensures.value in
    let queues = truncated s.queues.items c.args.there c.len-waiting.result c.index_mut.result.now c.index.result.now c.push.new.self
    c.index_mut-then-is_err.result.now c.truncate.new.self _ c.requires.there.queues c.index_mut.ensures.value c.index.ensures
    c.len-waiting.ensures c.in_ok-push.ensures.ok c.index_mut-then-is_err.ensures.value c.truncate.ensures in
    stays_alike s _ refl refl sends refl refl refl queues refl (λ q h. refl) c.requires.kept.indexed

pub returns-clause-ok : goal.returns-clause-ok
unfolding forwarded
returns-clause-ok c = λ e is.
    let s = c.args.store.now in
    let name = c.args.name in
    let here = c.requires.here in
    let held = c.requires.taken in
    let taken : is_taken e.stage ≡ true =
    ap (λ (x : Exchange). is_taken x.stage) (same_Some e held.exchange (sym is ∙ held.is)) ∙ held.taken in
    let s0 = c.index_mut-2.result.now in
    let q0 = c.index_mut.result.now in
    let changed = on_ok c.hand_on.result _ (sym c.is_err.ensures.value ∙ c.if-is_err.false) c.hand_on.ensures.ok in
    let arrived = c.push-2.ensures in (
      kernel-exchange s.places s.procs.items s.sends.items s.asked.items s.names.items c.push-2.new.self
          (handed_on c.args.on.shown c.args.on.at) name.sender c.args.at name.number s0 c.hand_on.new.sends e here.place here.sends
          c.index_mut-2.ensures.value is changed
          ∙ ap (λ a. record (kernel_in s) {
            exchanges = put_exchange (exchanges_by s.places s.sends.items) name (handed_on c.args.on.shown c.args.on.at e);
            arrived = a;
          }) arrived,
      indexed_forwarded s c.args.at c.args.there name c.args.on.at e c.args.on.shown c.requires.kept here c.requires.there is taken _ s0
          c.hand_on.new.sends q0 refl refl refl c.index_mut-2.ensures.value refl changed arrived
          (c.requires.way q0 c.index_mut.ensures.value) c.index_mut.ensures.value
          (ap (set s.queues.items c.args.there) c.in_ok-push.ensures.ok) refl,
    )

pub hand_on-requires : goal.hand_on-requires
hand_on-requires c = live_taken c.args.store.now c.args.name.sender c.args.at c.args.name.number c.index_mut-2.result.now c.requires.here
    c.index_mut-2.ensures.value c.requires.taken
