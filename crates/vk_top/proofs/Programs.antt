-- The programs of a scenario's tasks, and what a run asks of them.
use Rattle.std.proofs.Common.{◌≡◌, ◌<◌, ℕ, suc, ◌+◌, true, Option, Some, List, [], ◌∷◌, ◌++◌, length, map, take, get_or, refl, sym, ap, ◌∙◌, subst, arith}
use Rattle.std.specs.Prelude.{slice_get}
use Rattle.std.specs.List.{AllByRecursion, list_all}
use Rattle.std.proofs.lemmas.Bool.{and_parts}
use Rattle.std.proofs.lemmas.Option.{slice_get-get_or}
use Rattle.vk_types.specs.Types.{Answer, Call, Pid, ProcessSpec}
use Rattle.vk_base.specs.Settings.{has_process}
use Rattle.vk_event.specs.declared.scenario.Scenario.{Scenario}
use Rattle.vk_event.specs.ScenarioLaws.{IsLawfulScenario, IsReadableKind}
use Rattle.vk_event.specs.Tasks.{has_memory, memory_of}
use Rattle.vk_event.specs.declared.task.Task.{Task}
use Rattle.vk_rules.specs.Each.{Each}
use Rattle.vk_top.specs.Programs.{AreTopPrograms, IsAfter, IsTopTask, assignment_of, assignments_of, call_by, top_call}
use Rattle.vk_threads.specs.Assigned.{AreDifferent, pid_of, program_task}
use Rattle.vk_program.specs.declared.assigned.Assigned.{Assigned}
use Rattle.vk_top.specs.declared.program.TopProgram.{TopProgram}
use Rattle.vk_threads.proofs.Dealing.{take_get}
use Rattle.vk_threads.proofs.Scenarios.{spec_pid, specs_differ, specs_have}

abbrev pub task_pid : Task → Pid
task_pid t = t.pid

-- each task of a lawful scenario has a program
tasks_fit : (specs : List ProcessSpec) (ts : List Task) → AllByRecursion (λ (t : Task). IsReadableKind t.kind) ts
    → list_all (λ (t : Task). has_memory specs t.pid (memory_of t.kind)) ts ≡ true → Each (IsTopTask specs) ts
tasks_fit specs [] ranges memory = tt
tasks_fit specs (t ∷ ts) ranges memory =
    let both = and_parts (has_memory specs t.pid (memory_of t.kind)) (list_all (λ (u : Task). has_memory specs u.pid (memory_of u.kind)) ts) memory in
    ((ranges.0, both.0), tasks_fit specs ts ranges.1 both.1)

pub scenario_tasks : (s : Scenario) → IsLawfulScenario s → Each (IsTopTask s.config.specs) s.tasks
scenario_tasks s lawful = tasks_fit s.config.specs s.tasks lawful.ranges lawful.memory

-- one program more
pub program_push : (ts : List Task) (others : List (Assigned TopProgram)) (t : Task) (a : Assigned TopProgram) → AreTopPrograms ts others
    → (a.pid ≡ t.pid) → (call_by a.program ≡ top_call t) → IsAfter a.program [] → AreTopPrograms (ts ++ t ∷ []) (others ++ a ∷ [])
program_push [] [] t a are pid task after = (pid, task, after, tt)
program_push [] (b ∷ others) t a are pid task after = absurd are
program_push (u ∷ ts) [] t a are pid task after = absurd are
program_push (u ∷ ts) (b ∷ others) t a are pid task after = (are.0, are.1, are.2, program_push ts others t a are.3 pid task after)

-- the tasks so far, and the next one
pub tasks_more : (ts : List Task) (i : ℕ) (t : Task) → i < length ts → t ≡ get_or ts i t → take (i + 1) ts ≡ take i ts ++ t ∷ []
tasks_more ts i t low here =
    let one : suc i ≡ i + 1 = omega arith in
    let found : slice_get ts i ≡ Some t = slice_get-get_or ts i t low ∙ ap Some (sym here) in
    ap (λ n. take n ts) (sym one) ∙ take_get ts i t found

pub programs_on : (ts : List Task) (i : ℕ) (t : Task) (a : Assigned TopProgram) (others grown : List (Assigned TopProgram)) → i < length ts → t ≡ get_or ts i t
    → AreTopPrograms (take i ts) others → (a.pid ≡ t.pid) → (call_by a.program ≡ top_call t) → IsAfter a.program [] → grown ≡ others ++ a ∷ []
    → AreTopPrograms (take (i + 1) ts) grown
programs_on ts i t a others grown low here are pid task after is =
    subst (AreTopPrograms (take (i + 1) ts)) (sym is)
    (subst (λ l. AreTopPrograms l (others ++ a ∷ [])) (sym (tasks_more ts i t low here)) (program_push (take i ts) others t a are pid task after))

pub programs_pids : (ts : List Task) (others : List (Assigned TopProgram)) → AreTopPrograms ts others → map pid_of others ≡ map task_pid ts
programs_pids [] [] are = refl
programs_pids [] (b ∷ others) are = absurd are
programs_pids (u ∷ ts) [] are = absurd are
programs_pids (u ∷ ts) (b ∷ others) are = ap (λ p. p ∷ map pid_of others) are.0 ∙ ap (λ l. u.pid ∷ l) (programs_pids ts others are.3)

pub programs_tasks : (ts : List Task) (others : List (Assigned TopProgram)) → AreTopPrograms ts others → map (program_task call_by) others ≡ assignments_of ts
programs_tasks [] [] are = refl
programs_tasks [] (b ∷ others) are = absurd are
programs_tasks (u ∷ ts) [] are = absurd are
programs_tasks (u ∷ ts) (b ∷ others) are =
    ap (λ (p : Pid). (record { pid = p; task = call_by b.program }) ∷ map (program_task call_by) others) are.0
    ∙ ap (λ (f : List Answer → Option Call). (record { pid = u.pid; task = f }) ∷ map (program_task call_by) others) are.1
    ∙ ap (λ l. assignment_of u ∷ l) (programs_tasks ts others are.3)

pub programs_fresh : (ts : List Task) (others : List (Assigned TopProgram)) → AreTopPrograms ts others
    → Each (λ (a : Assigned TopProgram). IsAfter a.program []) others
programs_fresh [] [] are = tt
programs_fresh [] (b ∷ others) are = absurd are
programs_fresh (u ∷ ts) [] are = absurd are
programs_fresh (u ∷ ts) (b ∷ others) are = (are.2, programs_fresh ts others are.3)

pub programs_count : (ts : List Task) (others : List (Assigned TopProgram)) → AreTopPrograms ts others → length others ≡ length ts
programs_count [] [] are = refl
programs_count [] (b ∷ others) are = absurd are
programs_count (u ∷ ts) [] are = absurd are
programs_count (u ∷ ts) (b ∷ others) are = ap suc (programs_count ts others are.3)

scenario_pids : (s : Scenario) (programs : List (Assigned TopProgram)) → IsLawfulScenario s → AreTopPrograms s.tasks programs
    → map pid_of programs ≡ map spec_pid s.config.specs
scenario_pids s programs lawful are = programs_pids s.tasks programs are ∙ lawful.tasks

pub each_assigned : (specs : List ProcessSpec) (programs : List (Assigned TopProgram)) → Each (λ (p : Pid). has_process specs p ≡ true) (map pid_of programs)
    → Each (λ (a : Assigned TopProgram). has_process specs a.pid ≡ true) programs
each_assigned specs [] each = tt
each_assigned specs (a ∷ others) each = (each.0, each_assigned specs others each.1)

pub scenario_have : (s : Scenario) (programs : List (Assigned TopProgram)) → IsLawfulScenario s → AreTopPrograms s.tasks programs
    → Each (λ (a : Assigned TopProgram). has_process s.config.specs a.pid ≡ true) programs
scenario_have s programs lawful are =
    each_assigned s.config.specs programs
    (subst (Each (λ (p : Pid). has_process s.config.specs p ≡ true)) (sym (scenario_pids s programs lawful are)) (specs_have s.config.specs))

pub scenario_apart : (s : Scenario) (programs : List (Assigned TopProgram)) → IsLawfulScenario s → AreTopPrograms s.tasks programs
    → AreDifferent (map pid_of programs)
scenario_apart s programs lawful are =
    subst AreDifferent (sym (scenario_pids s programs lawful are)) (specs_differ s.config.specs lawful.told.lawful.processes)
