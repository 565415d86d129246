use Rattle.std.proofs.Common.{◌≡◌, ap, arith, inl, refl, subst}
use Rattle.vk_top.proofs.Outcomes.{flushed_since}
use Rattle.vk_top.proofs.Threaded.{run_begun, run_wanting, wanting_is}
use Rattle.vk_top.specs.Nodes.{IsNodeAnswer, TellsNode, node_asked}
use Rattle.vk_top.specs.Runs.{TellsRun, run_asked}
use Rattle.vk_top.specs.Words.{is_threaded}
use Rattle.vk_top.proofs.whole.vkernel.Goals as goal

pub returns-in-Ok-Some-Run-clause-run : goal.returns-in-Ok-Some-Run-clause-run
returns-in-Ok-Some-Run-clause-run g c =
    λ is.
    let alone = c.vkernel_alone.ensures.threaded (ap is_threaded is) in
    run_begun (TellsRun _ _) run_asked _ g.S.Source.left g.K.Sink.written _ _ _ _ _ _ _ _ (alone.1, alone.2) c.run.ensures.answer

pub returns-in-Ok-Some-Run-clause-all_flushed : goal.returns-in-Ok-Some-Run-clause-all_flushed
returns-in-Ok-Some-Run-clause-all_flushed g c = λ whole.
    let alone = c.vkernel_alone.ensures.threaded (c.vkernel_alone.ensures.none c.in-None.is) in
    flushed_since _ _ _ _ alone.2 (c.run.ensures.all_flushed whole)

pub returns-in-Ok-Some-Node-clause-node : goal.returns-in-Ok-Some-Node-clause-node
returns-in-Ok-Some-Node-clause-node g c =
    λ host is.
    let alone = c.vkernel_alone.ensures.threaded (ap is_threaded is) in
    let job = c.in-Ok-Some-Node.ensures.job in
    let some = c.in-Ok-Some-Node.field-0-is in
    let node = c.in-Ok-Some-Node.field-0-0-is in
    let same : c.in-Ok-Some-Node.host ≡ host = cc in
    run_begun (TellsNode host _ _) (node_asked host) _ g.S.Source.left g.K.Sink.written _ _ _ _ _ _ _ _ (alone.1, alone.2)
    (subst (λ h. IsNodeAnswer h (c.node.new.input ≡ c.vkernel_alone.new.input) (c.node.new.output ≡ c.vkernel_alone.new.output)
    ((c.node.new.crew ≡ c.args.crew.now) × (c.node.new.wire ≡ c.args.wire.now))
    (g.S.Source.left c.vkernel_alone.new.input) (g.S.Source.left c.node.new.input)
    (record { handed = g.W.Wire.handed c.args.wire.now; jobs = g.C.Crew.job_count c.args.crew.now })
    (record { handed = g.W.Wire.handed c.node.new.wire; jobs = g.C.Crew.job_count c.node.new.crew })
    (g.K.Sink.written c.vkernel_alone.new.output) (g.K.Sink.written c.node.new.output) c.node.result) same c.node.ensures.answer)

pub returns-in-Ok-Some-Node-clause-all_flushed : goal.returns-in-Ok-Some-Node-clause-all_flushed
returns-in-Ok-Some-Node-clause-all_flushed g c = λ whole.
    let alone = c.vkernel_alone.ensures.threaded (c.vkernel_alone.ensures.none c.in-None.is) in
    flushed_since _ _ _ _ alone.2 (c.node.ensures.all_flushed whole)

pub returns-in-Err-clause-run : goal.returns-in-Err-clause-run
returns-in-Err-clause-run g c =
    λ is.
    let alone = c.vkernel_alone.ensures.threaded (ap is_threaded is) in
    run_begun (TellsRun _ _) run_asked _ g.S.Source.left g.K.Sink.written _ _ _ _ _ _ _ _ (alone.1, alone.2)
    (wanting_is _ _ _ _ _ _ _ _ _ refl refl refl (λ i. inl refl) refl)

pub returns-in-Err-clause-node : goal.returns-in-Err-clause-node
returns-in-Err-clause-node g c =
    λ host is.
    let alone = c.vkernel_alone.ensures.threaded (ap is_threaded is) in
    run_begun (TellsNode host _ _) (node_asked host) _ g.S.Source.left g.K.Sink.written _ _ _ _ _ _ _ _ (alone.1, alone.2)
    (wanting_is _ _ _ _ _ _ _ _ _ refl refl (refl, refl) (λ i. inl refl) refl)

pub returns-in-Err-clause-flushed : goal.returns-in-Err-clause-flushed
returns-in-Err-clause-flushed g c = λ is. absurd (grind (arith, is))

pub returns-in-Err-clause-all_flushed : goal.returns-in-Err-clause-all_flushed
returns-in-Err-clause-all_flushed g c = λ whole.
    inl (c.vkernel_alone.ensures.threaded (c.vkernel_alone.ensures.none c.in-None.is)).2

pub returns-in-Some-clause-run : goal.returns-in-Some-clause-run
returns-in-Some-clause-run g c =
    λ is.
    run_wanting (TellsRun _ _) run_asked _ g.S.Source.left g.K.Sink.written _ _ _ _ _ _ _ refl (λ i. inl refl) c.in-Some.is
    (c.vkernel_alone.ensures.threaded (ap is_threaded is))

pub returns-in-Some-clause-node : goal.returns-in-Some-clause-node
returns-in-Some-clause-node g c =
    λ host is.
    run_wanting (TellsNode host _ _) (node_asked host) _ g.S.Source.left g.K.Sink.written _ _ _ _ _ _ _ (refl, refl) (λ i. inl refl) c.in-Some.is
    (c.vkernel_alone.ensures.threaded (ap is_threaded is))
