use Rattle.std.proofs.Common.{◌≡◌, List, filter, refl, subst, ◌∙◌, ap}
use Rattle.vk_types.specs.Types.{Exchange}
use Rattle.vk_base.specs.Steps.{first_of}
use Rattle.v_machine.specs.Kept.{queued_at}
use Rattle.v_machine.specs.Tables.{exchanges_by}
use Rattle.v_machine.proofs.Indexes.{indexed_cleaned, queue_first}
use Rattle.v_machine.proofs.tables.queues.front.Goals as goal

pub returns-clause-first : goal.returns-clause-first
returns-clause-first c =
    queue_first c.args.store.now c.args.pid c.args.at c.index_mut.result.now c.first_queued.result c.requires.indexed c.requires.here
    c.index_mut.ensures.value
    (c.first_queued.ensures.first ∙ ap (λ (ss : List (List Exchange)). first_of
    (filter (queued_at (exchanges_by c.args.store.now.places ss) c.args.pid) c.index_mut.result.now)) c.deref.ensures.value)

pub returns-clause-indexed : goal.returns-clause-indexed
returns-clause-indexed c =
    indexed_cleaned c.args.store.now _ c.args.pid c.args.at c.index_mut.result.now c.first_queued.new.queue c.requires.here
    c.index_mut.ensures.value refl refl refl refl refl refl refl
    (subst (λ (ss : List (List Exchange)). filter (queued_at (exchanges_by c.args.store.now.places ss) c.args.pid)
    c.first_queued.new.queue ≡ filter (queued_at (exchanges_by c.args.store.now.places ss) c.args.pid) c.index_mut.result.now)
    c.deref.ensures.value c.first_queued.ensures.same)
    c.first_queued.ensures.among c.requires.indexed
