-- A station stands for some entries from its first event on, and so do all stations for some events.
use Rattle.std.specs.Prelude.{◌≡◌, ◌++◌, List, [], ◌∷◌, Result, Ok, Err, IfOk, OnErr}
use Rattle.std.proofs.Common.{ap, sym, subst, ◌∙◌}
use Rattle.vk_types.specs.Types.{EventAnswer, ProcessSpec}
use Rattle.vk_base.specs.Settings.{Settings}
use Rattle.vk_schedule.specs.declared.event.Event.{Event}
use Rattle.vk_rules.specs.Entries.{Input}
use Rattle.vk_rules.specs.Right.{entry_of}
use Rattle.vk_host.specs.Standing.{StandsAt, IsEvent, StandsSomewhere}
use Rattle.vk_host.specs.Values.{StationValue}
use Rattle.vk_cluster.specs.Standing as clusters
use Rattle.vk_cluster.specs.Values.{ClusterValue}
use Rattle.vk_cluster.specs.declared.report.ClusterRefusal.{ClusterRefusal}
use Rattle.vk_cluster.specs.declared.report.StepReport.{StepReport}

pub new_stands : (c : Settings) (s : StationValue) → StandsAt c [] s → StandsSomewhere s
new_stands c s at = (c, [], at)

pub goes_on : (old new : StationValue) (i : Input) (a : EventAnswer) → IsEvent old new i a → StandsSomewhere old → StandsSomewhere new
goes_on old new i a e s = (s.0, entry_of s.0 old.host s.1 i ∷ s.1, e.stands s.0 s.1 s.2)

-- over these processes
abbrev pub StandsOver : List ProcessSpec → ClusterValue → Type 0
StandsOver specs k = clusters.StandsSomewhere k × (k.config.specs ≡ specs)

pub cluster_stands : (c : Settings) (k : ClusterValue) → clusters.StandsFor c [] k → StandsOver c.specs k
cluster_stands c k stands = ((c, [], stands), ap (λ (s : Settings). s.specs) stands.config)

pub cluster_goes_on : (specs : List ProcessSpec) (old new : ClusterValue) (e : Event) (r : Result StepReport ClusterRefusal) →
    IfOk r (clusters.IsStep old new e) → OnErr r (new ≡ old) → StandsOver specs old → StandsOver specs new
cluster_goes_on specs old new e (Ok report) step same ((c, es, stands), here) =
    let next = step c es stands in
    ((c, es ++ e ∷ [], next.stands), ap (λ (s : Settings). s.specs) (next.stands.config ∙ sym stands.config) ∙ here)
cluster_goes_on specs old new e (Err refusal) step same stands = subst (StandsOver specs) (sym same) stands
