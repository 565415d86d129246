-- A cluster that stands for some events does so after each step.
use Rattle.std.proofs.Common.{◌≡◌, ℕ, Option, [], ◌∷◌, ◌++◌, sym, subst, Result, Ok, Err}
use Rattle.std.specs.Prelude.{IfOk, OnErr}
use Rattle.vk_schedule.specs.declared.event.Event.{Event}
use Rattle.vk_cluster.specs.declared.report.Advance.{Advance}
use Rattle.vk_cluster.specs.declared.report.ClusterRefusal.{ClusterRefusal}
use Rattle.vk_cluster.specs.Standing.{IsAdvance, StandsSomewhere}
use Rattle.vk_cluster.specs.Values.{ClusterValue}

pub stands_on : (old new : ClusterValue) (e : Event) (told : Option ℕ → Advance) (r : Result (Option ℕ) ClusterRefusal) →
    IfOk r (λ place. IsAdvance old new e (told place)) → OnErr r (new ≡ old) → StandsSomewhere old → StandsSomewhere new
stands_on old new e told (Ok a) is same some = (some.0, some.1 ++ e ∷ [], (is.step some.0 some.1 some.2).stands)
stands_on old new e told (Err why) is same some = subst StandsSomewhere (sym same) some
