-- Scenarios as texts: which there are, how they are spelled, and that reading is the inverse of spelling.
use Rattle.std.specs.Prelude.{◌≡◌, ℕ, ◌<◌, ◌≤◌, ◌^◌, ◌⊎◌, true, List, [], ◌∷◌, ◌++◌, length, map, flat_map, decimal, codes, Option, Some, Ok}
use Rattle.std.specs.List.{list_all, AllByRecursion}
use Rattle.vk_types.specs.Types.{Pid, ProcessSpec}
use Rattle.vk_base.specs.Options.{◌>>=◌}
use Rattle.vk_base.specs.Pids.{IsPid}
use Rattle.vk_base.specs.Settings.{Settings}
use Rattle.vk_text.specs.Heads.{line_text}
use Rattle.vk_text.specs.Laws.{IsCount, IsReadable}
use Rattle.vk_text.specs.Openings.{IsOpening, IsTellable, opening_lines}
use Rattle.vk_text.specs.Spelling.{joined, pid_text, call_words}
use Rattle.vk_event.specs.Pairs.{are_pairs}
use Rattle.vk_event.specs.declared.pair.HelperPair.{HelperPair}
use Rattle.vk_schedule.specs.declared.plan.LinkPlan.{LinkPlan}
use Rattle.vk_event.specs.declared.scenario.Scenario.{Scenario}
use Rattle.vk_event.specs.declared.task.Given.{Given}
use Rattle.vk_event.specs.declared.task.Given.TheVariants as givens
use Rattle.vk_event.specs.declared.task.Task.{Task}
use Rattle.vk_event.specs.declared.task.TaskKind.{TaskKind}
use Rattle.vk_event.specs.declared.task.TaskKind.TheVariants as kinds
use Rattle.vk_event.specs.declared.task.TheConstants.{FILES, PAGES}
use Rattle.vk_event.specs.declared.task_line.TaskLine.{TaskLine}
use Rattle.vk_event.specs.Ports.{AreStationPorts, port_text}
use Rattle.vk_event.specs.Scenario.{idle, most_rounds, plain_title, scenario_of, timed_title}
use Rattle.vk_event.specs.Tasks.{memory_of, has_memory, with_given}

abbrev pub IsPageCount : ℕ → Type 0
IsPageCount pages = (0 < pages) × (pages ≤ PAGES)

abbrev pub IsFileCount : ℕ → Type 0
IsFileCount files = (0 < files) × (files ≤ FILES)

abbrev pub IsReadablePair : HelperPair → Type 0
IsReadablePair p = IsPid p.helper × IsPid p.member

-- the pairs make a group
abbrev pub IsReadableGroup : List HelperPair → Type 0
IsReadableGroup pairs = AllByRecursion IsReadablePair pairs × (are_pairs pairs ≡ true)

-- each field of the program is in its range
abbrev pub IsReadableKind : TaskKind → Type 0
IsReadableKind (kinds.Script calls) = AllByRecursion IsReadable calls
IsReadableKind (kinds.PageServer pages requests) = IsPageCount pages × IsCount requests
IsReadableKind (kinds.PageClient server pages rounds) = IsPid server × IsPageCount pages × IsCount rounds
IsReadableKind (kinds.FileServer files requests) = IsFileCount files × IsCount requests
IsReadableKind (kinds.Loader server file) = IsPid server × (file < FILES)
IsReadableKind (kinds.PipeServer requests) = IsCount requests
IsReadableKind (kinds.Group requests pairs) = IsCount requests × IsReadableGroup pairs
IsReadableKind (kinds.GroupHelper coordinator member) = IsPid coordinator × IsPid member

abbrev pub IsPlan : LinkPlan → Type 0
IsPlan plan = (plan.lose < 256) × (plan.double < 256) × (plan.hold < 256) × (plan.seed < 2 ^ 64)

-- the configuration is one that a text can tell, and there is a process; each process has a task, for which it has the memory; ports are
-- of its stations, and rise; there are not too many rounds
pub record IsLawfulScenario (s : Scenario) : Type 0 where
  pub told : IsTellable s.config
  pub some : 0 < length s.config.specs
  pub tasks : map (λ t. t.pid) s.tasks ≡ map (λ p. p.pid) s.config.specs
  pub ranges : AllByRecursion (λ t. IsReadableKind t.kind) s.tasks
  pub memory : list_all (λ t. has_memory s.config.specs t.pid (memory_of t.kind)) s.tasks ≡ true
  pub ports : AreStationPorts s.config.specs s.ports
  pub plan : IsPlan s.plan
  pub rounds : s.rounds ≤ most_rounds s.config.specs

-- what a line may give: a call, or a program that is no script
abbrev pub IsReadableGiven : Given → Type 0
IsReadableGiven (givens.Call call) = IsReadable call
IsReadableGiven (givens.Program (kinds.Script calls)) = ⊥
IsReadableGiven (givens.Program (kinds.PageServer pages requests)) = IsPageCount pages × IsCount requests
IsReadableGiven (givens.Program (kinds.PageClient server pages rounds)) = IsPid server × IsPageCount pages × IsCount rounds
IsReadableGiven (givens.Program (kinds.FileServer files requests)) = IsFileCount files × IsCount requests
IsReadableGiven (givens.Program (kinds.Loader server file)) = IsPid server × (file < FILES)
IsReadableGiven (givens.Program (kinds.PipeServer requests)) = IsCount requests
IsReadableGiven (givens.Program (kinds.Group requests pairs)) = IsCount requests × IsReadableGroup pairs
IsReadableGiven (givens.Program (kinds.GroupHelper coordinator member)) = IsPid coordinator × IsPid member

abbrev pub IsReadableLine : TaskLine → Type 0
IsReadableLine t = IsPid t.pid × IsReadableGiven t.given

-- the tasks with what these lines give, one after the other; there are none where a process may not have what a line gives
abbrev pub with_all_given : List ProcessSpec → List Task → List TaskLine → Option (List Task)
with_all_given specs tasks [] = Some tasks
with_all_given specs tasks (t ∷ ts) = with_given specs tasks (Some t) >>= λ more. with_all_given specs more ts

-- these lines give the processes of the scenario its tasks
abbrev pub GiveTasks : Scenario → List TaskLine → Type 0
GiveTasks s given = with_all_given s.config.specs (map idle s.config.specs) given ≡ Some s.tasks

abbrev pub pair_words : HelperPair → List (List ℕ)
pair_words p = pid_text p.helper ∷ pid_text p.member ∷ []

-- the words of a line that gives this to the process
abbrev pub given_words : Pid → Given → List (List ℕ)
given_words pid (givens.Call call) = codes "do" ∷ pid_text pid ∷ call_words call
given_words pid (givens.Program (kinds.Script calls)) = codes "program" ∷ pid_text pid ∷ []
given_words pid (givens.Program (kinds.PageServer pages requests)) =
    codes "program" ∷ pid_text pid ∷ codes "pageserver" ∷ decimal pages ∷ decimal requests ∷ []
given_words pid (givens.Program (kinds.PageClient server pages rounds)) =
    codes "program" ∷ pid_text pid ∷ codes "pageclient" ∷ pid_text server ∷ decimal pages ∷ decimal rounds ∷ []
given_words pid (givens.Program (kinds.FileServer files requests)) =
    codes "program" ∷ pid_text pid ∷ codes "fileserver" ∷ decimal files ∷ decimal requests ∷ []
given_words pid (givens.Program (kinds.Loader server file)) =
    codes "program" ∷ pid_text pid ∷ codes "loader" ∷ pid_text server ∷ decimal file ∷ []
given_words pid (givens.Program (kinds.PipeServer requests)) =
    codes "program" ∷ pid_text pid ∷ codes "pipeserver" ∷ decimal requests ∷ []
given_words pid (givens.Program (kinds.Group requests pairs)) =
    codes "program" ∷ pid_text pid ∷ codes "group" ∷ decimal requests ∷ flat_map pair_words pairs
given_words pid (givens.Program (kinds.GroupHelper coordinator member)) =
    codes "program" ∷ pid_text pid ∷ codes "grouphelper" ∷ pid_text coordinator ∷ pid_text member ∷ []

abbrev pub task_words : TaskLine → List (List ℕ)
task_words t = given_words t.pid t.given

abbrev pub task_text : TaskLine → List ℕ
task_text t = joined (task_words t)

abbrev pub plan_words : LinkPlan → List (List ℕ)
plan_words plan = codes "link" ∷ decimal plan.lose ∷ decimal plan.double ∷ decimal plan.hold ∷ decimal plan.seed ∷ []

abbrev pub rounds_words : ℕ → List (List ℕ)
rounds_words rounds = codes "ticks" ∷ decimal rounds ∷ []

abbrev pub ending_lines : LinkPlan → ℕ → List (List ℕ)
ending_lines plan rounds = joined (plan_words plan) ∷ joined (rounds_words rounds) ∷ []

-- the lines behind those of tasks
abbrev pub closing_lines : Scenario → List (List ℕ)
closing_lines s = map port_text s.ports ++ ending_lines s.plan s.rounds

-- the lines behind the opening
abbrev pub body_lines : Scenario → List TaskLine → List (List ℕ)
body_lines s given = map task_text given ++ closing_lines s

-- these lines are an opening of a scenario's configuration
abbrev pub IsScenarioFront : Settings → List (List ℕ) → Type 0
IsScenarioFront c opening = IsOpening plain_title timed_title c opening

-- a text of the scenario, with this opening and these lines of tasks
abbrev pub scenario_text : Scenario → List (List ℕ) → List TaskLine → List ℕ
scenario_text s opening given = flat_map line_text (opening ++ body_lines s given)

-- a text that reads as a scenario is one of it, but that the last line feed may lack: its lines give the tasks
abbrev pub ScenariosAreSpelled : Type 0
ScenariosAreSpelled =
    (text : List ℕ) (s : Scenario) → scenario_of text ≡ Ok s →
    (opening : List (List ℕ)) × IsScenarioFront s.config opening
    × ((given : List TaskLine) × GiveTasks s given
    × ((text ≡ scenario_text s opening given) ⊎ (text ++ codes "\n" ≡ scenario_text s opening given)))

-- each text of a lawful scenario reads as it
abbrev pub ScenariosReadBack : Type 0
ScenariosReadBack =
    (s : Scenario) (opening : List (List ℕ)) (given : List TaskLine) → IsLawfulScenario s → IsScenarioFront s.config opening →
    AllByRecursion IsReadableLine given → GiveTasks s given → scenario_of (scenario_text s opening given) ≡ Ok s

-- and no other scenario has a text
abbrev pub OnlyLawfulScenariosAreRead : Type 0
OnlyLawfulScenariosAreRead = (text : List ℕ) (s : Scenario) → scenario_of text ≡ Ok s → IsLawfulScenario s

-- there is a text of each lawful scenario
abbrev pub LawfulScenariosHaveTexts : Type 0
LawfulScenariosHaveTexts =
    (s : Scenario) → IsLawfulScenario s →
    IsScenarioFront s.config (opening_lines plain_title timed_title s.config)
    × ((given : List TaskLine) × AllByRecursion IsReadableLine given × GiveTasks s given)
