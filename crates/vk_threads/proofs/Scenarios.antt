-- The programs of a lawful scenario.
use Rattle.std.proofs.Common.{◌≡◌, ◌==◌, ◌||◌, eq-eqb, true, false, None, List, [], ◌∷◌, map, refl, sym, ap, ◌∙◌, subst}
use Rattle.std.specs.List.{AllByRecursion, list_all}
use Rattle.std.proofs.lemmas.Bool.{and_from, and_parts}
use Rattle.vk_types.specs.Types.{Pid, ProcessSpec}
use Rattle.vk_base.specs.Pids.{same_pid}
use Rattle.vk_base.specs.Settings.{first_fault, has_process, is_process}
use Rattle.vk_base.proofs.Rising.{AllAbove, AreSpecsRising, lawful_rise, above_apart}
use Rattle.vk_base.proofs.BoolLemmas.{or_true}
use Rattle.vk_event.specs.declared.scenario.Scenario.{Scenario}
use Rattle.vk_event.specs.ScenarioLaws.{IsLawfulScenario, IsReadableKind}
use Rattle.vk_event.specs.Tasks.{has_memory, memory_of}
use Rattle.vk_event.specs.declared.task.Task.{Task}
use Rattle.vk_pages.specs.Any.{IsTaskOf, are_any_kinds, is_any_kind}
use Rattle.vk_rules.specs.Each.{Each}
use Rattle.vk_pages.specs.declared.any.AnyProgram.{AnyProgram}
use Rattle.vk_program.specs.declared.assigned.Assigned.{Assigned}
use Rattle.vk_threads.specs.Assigned.{AreDifferent, ArePrograms, pid_of}
use Rattle.vk_threads.proofs.Dealing.{programs_pids}

pub tasks_fit : (specs : List ProcessSpec) (ts : List Task) → are_any_kinds ts ≡ true
    → AllByRecursion (λ (t : Task). IsReadableKind t.kind) ts
    → list_all (λ (t : Task). has_memory specs t.pid (memory_of t.kind)) ts ≡ true → Each (IsTaskOf specs) ts
tasks_fit specs [] kinds ranges memory = tt
tasks_fit specs (t ∷ ts) kinds ranges memory =
    let own = and_parts (is_any_kind t.kind) (are_any_kinds ts) kinds in
    let both = and_parts (has_memory specs t.pid (memory_of t.kind)) (list_all (λ (u : Task). has_memory specs u.pid (memory_of u.kind)) ts) memory in
    ((own.0, ranges.0, both.0), tasks_fit specs ts own.1 ranges.1 both.1)

abbrev pub spec_pid : ProcessSpec → Pid
spec_pid s = s.pid

each_later : (p : Pid) (ss : List ProcessSpec) → AllAbove p ss → Each (λ (q : Pid). same_pid q p ≡ false) (map spec_pid ss)
each_later p [] all = tt
each_later p (s ∷ ss) all = (above_apart p s.pid all.0, each_later p ss all.1)

rising_differ : (ss : List ProcessSpec) → AreSpecsRising ss → AreDifferent (map spec_pid ss)
rising_differ [] rising = tt
rising_differ (s ∷ ss) rising = (each_later s.pid ss rising.0, rising_differ ss rising.1)

pub specs_differ : (specs : List ProcessSpec) → first_fault [] specs ≡ None → AreDifferent (map spec_pid specs)
specs_differ specs faultless = rising_differ specs (lawful_rise specs faultless)

still_has : (p : Pid) (s : ProcessSpec) (ss : List ProcessSpec) → has_process ss p ≡ true → has_process (s ∷ ss) p ≡ true
still_has p s ss has = ap (λ b. is_process p s || b) has ∙ or_true (is_process p s)

all_have : (s : ProcessSpec) (ss : List ProcessSpec) (ps : List Pid) → Each (λ (p : Pid). has_process ss p ≡ true) ps
    → Each (λ (p : Pid). has_process (s ∷ ss) p ≡ true) ps
all_have s ss [] each = tt
all_have s ss (p ∷ ps) each = (still_has p s ss each.0, all_have s ss ps each.1)

pub specs_have : (specs : List ProcessSpec) → Each (λ (p : Pid). has_process specs p ≡ true) (map spec_pid specs)
specs_have [] = tt
specs_have (s ∷ ss) = (
  ap (λ b. b || has_process ss s.pid) (and_from (s.pid.host == s.pid.host) (s.pid.local == s.pid.local) (eq-eqb s.pid.host s.pid.host refl) (eq-eqb s.pid.local s.pid.local refl)),
  all_have s ss (map spec_pid ss) (specs_have ss),
)

-- the programs of a lawful scenario's tasks
each_assigned : {G : Type 0} (specs : List ProcessSpec) (programs : List (Assigned G)) → Each (λ (p : Pid). has_process specs p ≡ true) (map pid_of programs)
    → Each (λ (a : Assigned G). has_process specs a.pid ≡ true) programs
each_assigned specs [] each = tt
each_assigned specs (a ∷ others) each = (each.0, each_assigned specs others each.1)

scenario_pids : (s : Scenario) (programs : List (Assigned AnyProgram)) → IsLawfulScenario s → ArePrograms s.tasks programs
    → map pid_of programs ≡ map spec_pid s.config.specs
scenario_pids s programs lawful are = programs_pids s.tasks programs are ∙ lawful.tasks

pub scenario_have : (s : Scenario) (programs : List (Assigned AnyProgram)) → IsLawfulScenario s → ArePrograms s.tasks programs
    → Each (λ (a : Assigned AnyProgram). has_process s.config.specs a.pid ≡ true) programs
scenario_have s programs lawful are =
    each_assigned s.config.specs programs
    (subst (Each (λ (p : Pid). has_process s.config.specs p ≡ true)) (sym (scenario_pids s programs lawful are)) (specs_have s.config.specs))

pub scenario_apart : (s : Scenario) (programs : List (Assigned AnyProgram)) → IsLawfulScenario s → ArePrograms s.tasks programs
    → AreDifferent (map pid_of programs)
scenario_apart s programs lawful are =
    subst AreDifferent (sym (scenario_pids s programs lawful are)) (specs_differ s.config.specs lawful.told.lawful.processes)

pub scenario_tasks : (s : Scenario) → IsLawfulScenario s → are_any_kinds s.tasks ≡ true → Each (IsTaskOf s.config.specs) s.tasks
scenario_tasks s lawful kinds = tasks_fit s.config.specs s.tasks kinds lawful.ranges lawful.memory
