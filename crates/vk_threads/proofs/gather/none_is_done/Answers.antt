use Rattle.std.proofs.Common.{◌≡◌, ◌∙◌, false, List, arith, subst, sym}
use Rattle.std.proofs.lemmas.List.{take_all}
use Rattle.vk_types.specs.Types.{ProcessSpec}
use Rattle.vk_base.specs.declared.event.StationEvent.TheVariants as events
use Rattle.v_run.specs.Laws.{NoneIsReady}
use Rattle.vk_port.specs.Stations.{is_ready, origin_of}
use Rattle.vk_threads.proofs.Looking.{process_more}
use Rattle.vk_threads.proofs.gather.none_is_done.Goals as goal

pub loop-spec-preserved : goal.loop-spec-preserved
loop-spec-preserved c =
    let s = c.args.station.now in
    process_more (λ (p : ProcessSpec). is_ready (origin_of s) s.history (events.Collect p.pid) ≡ false) c.args.specs.now c.loop-spec.spec-index
    c.spec-item.result c.loop-spec-test.true c.spec-item.is (sym c.is_ready.ensures ∙ c.if-is_ready.false) c.loop-spec.invariant

pub returns : goal.returns
returns c =
    let s = c.args.station.now in
    λ is. subst (λ (l : List ProcessSpec). NoneIsReady l (origin_of s) s.history)
    (take_all c.loop-spec.spec-index c.args.specs.now (omega arith)) c.loop-spec.invariant
