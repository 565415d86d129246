-- The processes of a run with their tasks, and what a run does to its crew's counts.
use Rattle.std.specs.Prelude.{ℕ, ◌≡◌, ◌⊎◌, List, [], ◌∷◌, map, false, Option, Result, Ok, Err}
use Rattle.vk_types.specs.Types.{Answer, Call, Pid}
use Rattle.vk_base.specs.Pids.{same_pid}
use Rattle.vk_event.specs.declared.task.Task.{Task}
use Rattle.vk_io.specs.Causes.{Rose}
use Rattle.vk_pages.specs.Any.{IsAfter, call_by}
use Rattle.vk_pages.specs.declared.any.AnyProgram.{AnyProgram}
use Rattle.vk_pages.specs.Programs.{task_call}
use Rattle.vk_rules.specs.Each.{Each}
use Rattle.v_run.specs.Outcomes.{Assignment}
use Rattle.vk_threads.specs.declared.record.RunRefusal.{RunRefusal}
use Rattle.vk_threads.specs.declared.record.RunRefusal.TheVariants as refusals
use Rattle.vk_program.specs.declared.assigned.Assigned.{Assigned}

-- a process with the task of its program
abbrev pub program_task : {G : Type 0} → (G → List Answer → Option Call) → Assigned G → Assignment
program_task task a = record { pid = a.pid; task = task a.program }

abbrev pub pid_of : {G : Type 0} → Assigned G → Pid
pid_of a = a.pid

-- no process stands twice
abbrev pub AreDifferent : List Pid → Type 0
AreDifferent [] = Unit {0}
AreDifferent (p ∷ ps) = Each (λ (q : Pid). same_pid q p ≡ false) ps × AreDifferent ps

-- what a task of a scenario asks of its process
abbrev pub assignment_of : Task → Assignment
assignment_of t = record { pid = t.pid; task = task_call t }

abbrev pub assignments_of : List Task → List Assignment
assignments_of ts = map assignment_of ts

-- the programs of these tasks, none of which was given an answer
abbrev pub ArePrograms : List Task → List (Assigned AnyProgram) → Type 0
ArePrograms [] [] = Unit {0}
ArePrograms (t ∷ ts) (a ∷ others) = (a.pid ≡ t.pid) × (call_by a.program ≡ task_call t) × IsAfter a.program [] × ArePrograms ts others
ArePrograms ts others = ⊥

-- the count of faults rose where the crew failed, and at every other answer it is as it was
abbrev pub TellsRunFault : {T : Type 0} → ℕ → ℕ → Result T RunRefusal → Type 0
TellsRunFault before now (Ok r) = now ≡ before
TellsRunFault before now (Err refusals.CrewFault) = Rose before now
TellsRunFault before now (Err refusals.NoMemory) = now ≡ before

-- Where there is no record, the count of jobs is as it was where the crew failed. Memory may be wanting before the crew's call, or
-- behind it.
abbrev pub LeavesJobs : (before grown now : ℕ) → RunRefusal → Type 0
LeavesJobs before grown now refusals.CrewFault = now ≡ before
LeavesJobs before grown now refusals.NoMemory = (now ≡ before) ⊎ (now ≡ grown)
