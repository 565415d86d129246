-- What a lawful schedule gives the cluster that plays it, and that its steps are a run.
use Rattle.std.proofs.Common.{◌≡◌, ℕ, zero, suc, true, List, [], ◌∷◌, take}
use Rattle.std.proofs.lemmas.Bool.{and_parts}
use Rattle.std.specs.List.{list_all}
use Rattle.vk_cluster.proofs.Arms.{of_process}
use Rattle.vk_types.specs.Types.{ProcessSpec}
use Rattle.vk_schedule.specs.declared.event.Event.{Event}
use Rattle.vk_schedule.specs.declared.event.Event.TheVariants as scheduled
use Rattle.vk_schedule.specs.declared.schedule.Schedule.{Schedule}
use Rattle.vk_schedule.specs.Lawful.{IsLawful, has_actors}
use Rattle.vk_rules.specs.Observed.{IsRunOf}
use Rattle.v_whole.proofs.Distinct.{lawful_distinct}
use Rattle.v_whole.proofs.Histories.{schedules_run}
use Rattle.v_whole.specs.Schedules.{AreOfProcesses}

of_processes : (specs : List ProcessSpec) (es : List Event) (n : ℕ) → list_all (has_actors specs) es ≡ true →
    AreOfProcesses specs (take n es)
of_processes specs [] zero h = tt
of_processes specs [] (suc n) h = tt
of_processes specs (e ∷ es) zero h = tt
of_processes specs (e ∷ es) (suc n) h = let parts = and_parts (has_actors specs e) (list_all (has_actors specs) es) h in
    (of_process specs e parts.0, of_processes specs es n parts.1)

-- the steps of the history of a lawful schedule's first events are a run
pub front_is_run : (s : Schedule) (n : ℕ) → IsLawful s → IsRunOf s.config (take n s.events)
front_is_run s n lawful =
    schedules_run s.config (take n s.events) (lawful_distinct s.config.specs lawful.told.lawful.processes)
    (of_processes s.config.specs s.events n lawful.events)
