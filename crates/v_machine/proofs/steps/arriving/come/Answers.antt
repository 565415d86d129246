use Rattle.std.proofs.Common.{◌≡◌, ◌≤◌, ◌==◌, [], ◌∷◌, ◌++◌, length, set, option_map, is_some, Some, refl, sym, ap, subst, ◌∙◌, arith, lit≤, if◌then◌else◌}
use Rattle.std.proofs.lemmas.Option.{slice_get-get_or}
use Rattle.vk_types.specs.Types.{Exchange, Pid}
use Rattle.vk_base.specs.declared.kernel.Stage.TheVariants as stages
use Rattle.vk_base.specs.Calls.{unseen}
use Rattle.vk_base.specs.Kernel.{holds_of, is_live, is_posted}
use Rattle.vk_base.specs.Steps.{after_arrival, with_arrival}
use Rattle.v_machine.specs.Kept.{IsAt, IsLatest, IsWaiting, kernel_in, latest_by}
use Rattle.v_machine.specs.Latest.{latest_in}
use Rattle.v_machine.specs.Places.{numbered}
use Rattle.v_machine.specs.Sends.{come_at}
use Rattle.v_machine.specs.Tables.{exchanges_by}
use Rattle.v_machine.proofs.Arrivals.{indexed_arrived, not_waiting}
use Rattle.v_machine.proofs.Arrive.{arrive_allowed, latest_is_before, arrive_others, arrive_new, arrive_at, arrive_rest, arrive_latest, exchanges-come}
use Rattle.v_machine.proofs.Indexes.{list_at_is}
use Rattle.v_machine.proofs.KernelLemmas.{set_self, sent_there}
use Rattle.v_laws.proofs.Without.{without_none}
use Rattle.v_machine.proofs.SendLemmas.{stays_alike}
use Rattle.v_machine.proofs.TableLemmas.{procs-even, count-set_even, numbered_low}
use Rattle.v_machine.proofs.Stores.{is_error}
use Rattle.v_machine.proofs.steps.arriving.come.Goals as goal

pub returns-in_err-push : goal.returns-in_err-push
returns-in_err-push c =
    let s = c.args.store.now in
    let is = c.requires.posted in
    let failed = c.in_err-push.ensures.err in
    let queues = ap (set s.queues.items c.args.coming.to) failed
    ∙ set_self s.queues.items c.args.coming.to c.index_mut.result.now c.index_mut.ensures.value in
    rw (is_error c.from_residual.result _ c.from_residual.ensures.1) (
      ap is_some (arrive_allowed (kernel_in s) c.args.name is.exchange is.is is.posted
          (ap (λ t. is_live ((kernel_in s).procs t)) is.same_target ∙ c.requires.live)),
      lit≤ tt,
      stays_alike s _ refl refl refl refl refl refl queues refl (λ q h. refl) c.requires.kept.indexed,
    )

pub come-requires-clause-order : goal.come-requires-clause-order
come-requires-clause-order c =
    let s = c.args.store.now in
    let is = c.requires.posted in
    let before = latest_is_before s c.args.name c.args.at c.args.coming.to is.exchange c.requires.kept c.requires.here
    (subst (λ t. IsAt s t c.args.coming.to) (sym is.same_target) c.requires.there) is.is is.posted in
    let latest : latest_by s.places s.latest.items c.args.name.sender is.exchange.target.host ≡ c.number-latest.result =
    ap (λ ls. latest_in ls is.exchange.target.host) (list_at_is s.places s.latest.items c.args.name.sender c.args.at c.index.result.now
    c.requires.here.place c.requires.here.latest c.index.ensures)
    ∙ ap (λ (t : Pid). latest_in c.index.result.now t.host) is.same_target ∙ sym (c.number-latest.ensures c.args.target.host (c.requires.room c.index.result.now c.index.ensures)) in
    subst (λ n. n ≤ c.args.name.number) latest before

pub come-requires-clause-live : goal.come-requires-clause-live
come-requires-clause-live c =
    let s = c.args.store.now in
    let is = c.requires.posted in
    let here = c.requires.here in
    let sent = sent_there s.places s.procs.items s.sends.items s.asked.items c.args.name.sender c.args.at c.index_mut-2.result.now
    c.args.name.number here.place here.sends c.index_mut-2.ensures.value in
    ap (holds_of (λ (e : Exchange). is_posted e.stage)) (sym sent ∙ is.is) ∙ is.posted

pub returns : goal.returns
unfolding with_arrival
returns c =
    let s = c.args.store.now in
    let name = c.args.name in
    let here = c.requires.here in
    let is = c.requires.posted in
    let e = is.exchange in
    let host = ap (λ (t : Pid). t.host) is.same_target in
    let there = subst (λ t. IsAt s t c.args.coming.to) (sym is.same_target) c.requires.there in
    let on_way = c.requires.kept.sound.posted name e is.is is.posted in
    let at = subst (λ t. IsAt s t c.args.coming.to) (sym on_way.at) there in
    let new = arrive_new s name c.args.at c.args.coming.to e c.requires.kept here there is.is is.posted in
    let latest : latest_by s.places s.latest.items name.sender e.target.host ≡ c.number-latest.result =
    ap (λ ls. latest_in ls e.target.host)
    (list_at_is s.places s.latest.items name.sender c.args.at c.index.result.now here.place here.latest c.index.ensures)
    ∙ ap (λ (t : Pid). latest_in c.index.result.now t.host) is.same_target ∙ sym (c.number-latest.ensures c.args.target.host (c.requires.room c.index.result.now c.index.ensures)) in
    let s0 = c.index_mut-2.result.now in
    let s' = c.come.new.sends in
    let exchanges = exchanges-come name.sender name.number c.number-latest.result e s.places s.sends.items c.args.at s0 s' here.place
    here.sends c.index_mut-2.ensures.value
    (λ m. c.come.ensures.value m ∙ ap (λ h. option_map (come_at c.number-latest.result name.number h m) (numbered s0 m)) (sym host))
    (λ n x was mine near. subst (λ l. IsLatest l n x) latest
    (arrive_latest s name c.args.at c.args.coming.to e c.requires.kept here there is.is is.posted n x was mine near)) in
    let counts = count-set_even s.sends.items c.args.at s0 s'
    (slice_get-get_or s.sends.items c.args.at s0 here.sends ∙ ap Some (sym c.index_mut-2.ensures.value)) c.come.ensures.count in
    let processes =
    procs-even s.places s.procs.items s.sends.items (set s.sends.items c.args.at s') s.asked.items s.asked.items counts (λ to. refl) in
    let sent : numbered s0 name.number ≡ Some e = sym
    (sent_there s.places s.procs.items s.sends.items s.asked.items name.sender c.args.at s0 name.number here.place here.sends
    c.index_mut-2.ensures.value) ∙ is.is in
    let low = (numbered_low s0 name.number e sent).1 in
    let mine = ap length (list_at_is s.places s.sends.items name.sender c.args.at s0 here.place here.sends c.index_mut-2.ensures.value) in
    let count = c.come.ensures.count in
    let pushed = c.in_ok-push.ensures.ok in (
      record {
        effect =
            arrive_allowed (kernel_in s) name e is.is is.posted (ap (λ t. is_live ((kernel_in s).procs t)) is.same_target ∙ c.requires.live)
            ∙ (λ i. Some (unseen
            (record (kernel_in s) {
              procs = sym processes i;
              exchanges = sym exchanges i;
              arrived = sym (c.push-2.ensures
                  ∙ ap (λ ns. ns ++ name ∷ []) (without_none name s.arrived new)) i;
            })));
        indexed = indexed_arrived s _ name.sender c.args.at c.args.coming.to name.number (record e { stage = stages.Queued })
            (λ n. option_map (after_arrival name e n) (exchanges_by s.places s.sends.items n)) here at c.requires.kept.indexed
            (arrive_at s name c.args.at c.args.coming.to e c.requires.kept here there is.is is.posted) refl
            (arrive_others s name c.args.at c.args.coming.to e c.requires.kept here there is.is is.posted)
            (arrive_rest s name c.args.at c.args.coming.to e c.requires.kept here there is.is is.posted)
            s' c.index_mut.result.now c.index_mut-3.result.now c.put.new.self refl refl refl refl (omega (arith, low, count))
            (omega (arith, mine, count)) exchanges c.push-2.ensures
            (not_waiting (exchanges_by s.places s.sends.items) s.arrived name e.at c.index_mut.result.now new
            (subst (IsWaiting (exchanges_by s.places s.sends.items) s.arrived e.at)
            (list_at_is s.places s.queues.items e.at c.args.coming.to c.index_mut.result.now at.place at.queues c.index_mut.ensures.value)
            (c.requires.kept.indexed.waiting e.at (ap is_some at.place))))
            c.index_mut.ensures.value
            (ap (set s.queues.items c.args.coming.to) pushed) c.index_mut-3.ensures.value refl
            (λ h. c.put.ensures c.args.target.host h (c.requires.room c.index_mut-3.result.now c.index_mut-3.ensures.value) ∙ ap (λ z. if h == z then name.number else latest_in c.index_mut-3.result.now h) (sym host));
      },
      lit≤ tt,
    )
