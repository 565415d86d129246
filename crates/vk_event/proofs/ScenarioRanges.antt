-- What a text of a scenario spells is lawful.
use Rattle.std.proofs.Common.{◌≡◌, ℕ, ◌<◌, ◌≤◌, ◌==◌, ◌&&◌, length, nat_le, Bool, true, false, cond, List, [], ◌∷◌, ◌++◌, map, Some, Result, Err, IfOk, None, Ok, refl, ap, sym, ◌∙◌, subst, append_assoc, arith}
use Rattle.std.specs.List.{AllByRecursion, list_all, list_any}
use Rattle.std.specs.Option.{option_map}
use Rattle.std.proofs.lemmas.Bool.{and_from, and_parts, eqb-true, le-leb, or_right}
use Rattle.std.proofs.lemmas.Option.{cond_some}
use Rattle.vk_types.specs.Types.{Call, Pid, ProcessSpec}
use Rattle.vk_base.specs.Pids.{same_pid}
use Rattle.vk_base.specs.Settings.{Settings, is_process}
use Rattle.vk_base.proofs.OptionLemmas.{bind_is, mapped_is}
use Rattle.vk_base.proofs.PidLemmas.{same_pid_self}
use Rattle.vk_text.specs.Laws.{IsReadable}
use Rattle.vk_text.specs.Lines.{lines_of}
use Rattle.vk_text.specs.Openings.{IsTellable}
use Rattle.vk_text.proofs.OpeningLaws.{openings_spelled}
use Rattle.vk_event.specs.declared.scenario.Scenario.{Scenario}
use Rattle.vk_schedule.specs.declared.schedule.TextRefusal.{TextRefusal}
use Rattle.vk_event.specs.declared.task.Given.{Given}
use Rattle.vk_event.specs.declared.task.Given.TheVariants as givens
use Rattle.vk_event.specs.declared.task.Task.{Task}
use Rattle.vk_event.specs.declared.task.TaskKind.{TaskKind}
use Rattle.vk_event.specs.declared.task.TaskKind.TheVariants as kinds
use Rattle.vk_event.specs.declared.task_line.TaskLine.{TaskLine}
use Rattle.vk_event.specs.Ports.{ArePortsAbove}
use Rattle.vk_event.specs.Scenario.{idle, most_rounds, plain_title, scenario_of, timed_title}
use Rattle.vk_event.specs.ScenarioLaws.{IsLawfulScenario, IsReadableGiven, IsReadableKind, IsReadableLine, OnlyLawfulScenariosAreRead, with_all_given}
use Rattle.vk_event.specs.Tasks.{given_kind, given_to, has_memory, is_idle, memory_for, memory_of, with_given}
use Rattle.vk_event.proofs.ScenarioTexts.{whole_is}

-- one task

calls_more : (cs : List Call) (c : Call) → AllByRecursion IsReadable cs → IsReadable c → AllByRecursion IsReadable (cs ++ c ∷ [])
calls_more [] c h one = (one, tt)
calls_more (x ∷ xs) c h one = (h.0, calls_more xs c h.1 one)

program_fits : (program : TaskKind) → IsReadableGiven (givens.Program program) → IsReadableKind program
program_fits (kinds.Script calls) h = absurd h
program_fits (kinds.PageServer pages requests) h = h
program_fits (kinds.PageClient server pages rounds) h = h
program_fits (kinds.FileServer files requests) h = h
program_fits (kinds.Loader server file) h = h
program_fits (kinds.PipeServer requests) h = h
program_fits (kinds.Group requests pairs) h = h
program_fits (kinds.GroupHelper coordinator member) h = h

script_fits : (calls : List Call) (call : Call) (k : TaskKind) → given_kind (givens.Call call) (kinds.Script calls) ≡ Some k
    → IsReadable call → AllByRecursion IsReadable calls → IsReadableKind k
script_fits calls call k h one all = subst IsReadableKind (cond_some true _ k h).1 (calls_more calls call all one)

kind_fits : (given : Given) (kind k : TaskKind) → given_kind given kind ≡ Some k → IsReadableGiven given → IsReadableKind kind
    → IsReadableKind k
kind_fits (givens.Call call) (kinds.Script calls) k h one all = script_fits calls call k h one all
kind_fits (givens.Call call) (kinds.PageServer pages requests) k h one all = cc
kind_fits (givens.Call call) (kinds.PageClient server pages rounds) k h one all = cc
kind_fits (givens.Call call) (kinds.FileServer files requests) k h one all = cc
kind_fits (givens.Call call) (kinds.Loader server file) k h one all = cc
kind_fits (givens.Call call) (kinds.PipeServer requests) k h one all = cc
kind_fits (givens.Call call) (kinds.Group requests pairs) k h one all = cc
kind_fits (givens.Call call) (kinds.GroupHelper coordinator member) k h one all = cc
kind_fits (givens.Program program) kind k h one all = subst IsReadableKind (cond_some (is_idle kind) program k h).1
    (program_fits program one)

kind_memory : (specs : List ProcessSpec) (pid : Pid) (given : Given) (kind k : TaskKind) → given_kind given kind ≡ Some k
    → has_memory specs pid (memory_for given) ≡ true → has_memory specs pid (memory_of k) ≡ true
kind_memory specs pid (givens.Call call) (kinds.Script calls) k h room =
    subst (λ x. has_memory specs pid (memory_of x) ≡ true) (cond_some true (kinds.Script (calls ++ call ∷ [])) k h).1 room
kind_memory specs pid (givens.Call call) (kinds.PageServer pages requests) k h room = cc
kind_memory specs pid (givens.Call call) (kinds.PageClient server pages rounds) k h room = cc
kind_memory specs pid (givens.Call call) (kinds.FileServer files requests) k h room = cc
kind_memory specs pid (givens.Call call) (kinds.Loader server file) k h room = cc
kind_memory specs pid (givens.Call call) (kinds.PipeServer requests) k h room = cc
kind_memory specs pid (givens.Call call) (kinds.Group requests pairs) k h room = cc
kind_memory specs pid (givens.Call call) (kinds.GroupHelper coordinator member) k h room = cc
kind_memory specs pid (givens.Program program) kind k h room =
    subst (λ x. has_memory specs pid (memory_of x) ≡ true) (cond_some (is_idle kind) program k h).1 room

-- memory asks for the numbers of a pid alone
memory_as : (specs : List ProcessSpec) (p q : Pid) (bytes : ℕ) → same_pid p q ≡ true → has_memory specs q bytes ≡ has_memory specs p bytes
memory_as specs p q bytes h =
    let parts = and_parts (p.host == q.host) (p.local == q.local) h in
    ap (λ (n : ℕ). list_any (λ (s : ProcessSpec). ((s.pid.host == n) && (s.pid.local == q.local)) && nat_le bytes s.size) specs)
    (sym (eqb-true p.host q.host parts.0))
    ∙ ap (λ (n : ℕ). list_any (λ (s : ProcessSpec). ((s.pid.host == p.host) && (s.pid.local == n)) && nat_le bytes s.size) specs)
    (sym (eqb-true p.local q.local parts.1))

-- the tasks keep to the processes
record Keeps (specs : List ProcessSpec) (before tasks : List Task) : Type 0 where
  pids : map (λ (t : Task). t.pid) tasks ≡ map (λ (t : Task). t.pid) before
  ranges : AllByRecursion (λ (t : Task). IsReadableKind t.kind) tasks
  memory : list_all (λ (t : Task). has_memory specs t.pid (memory_of t.kind)) tasks ≡ true

here_keeps : (specs : List ProcessSpec) (pid : Pid) (given : Given) (t : Task) (ts more : List Task) → same_pid t.pid pid ≡ true
    → option_map (λ kind. record t { kind = kind } ∷ ts) (given_kind given t.kind) ≡ Some more → IsReadableGiven given
    → has_memory specs pid (memory_for given) ≡ true → Keeps specs (t ∷ ts) (t ∷ ts) → Keeps specs (t ∷ ts) more
here_keeps specs pid given t ts more same h one room is =
    let found = mapped_is (λ kind. record t { kind = kind } ∷ ts) (given_kind given t.kind) more h in
    let parts = and_parts (has_memory specs t.pid (memory_of t.kind)) _ is.memory in
    let fits : has_memory specs t.pid (memory_of found.0) ≡ true =
    sym (memory_as specs t.pid pid (memory_of found.0) same) ∙ kind_memory specs pid given t.kind found.0 found.1 room in
    subst (Keeps specs (t ∷ ts)) found.2 (record {
      pids = refl;
      ranges = (kind_fits given t.kind found.0 found.1 one is.ranges.0, is.ranges.1);
      memory = and_from (has_memory specs t.pid (memory_of found.0)) _ fits parts.1;
    })

longer : (specs : List ProcessSpec) (t : Task) (ts more : List Task) → Keeps specs (t ∷ ts) (t ∷ ts) → Keeps specs ts more
    → Keeps specs (t ∷ ts) (t ∷ more)
longer specs t ts more is rest = record {
  pids = ap (λ l. t.pid ∷ l) rest.pids;
  ranges = (is.ranges.0, rest.ranges);
  memory = and_from (has_memory specs t.pid (memory_of t.kind)) _
      (and_parts (has_memory specs t.pid (memory_of t.kind)) _ is.memory).0 rest.memory;
}

shorter : (specs : List ProcessSpec) (t : Task) (ts : List Task) → Keeps specs (t ∷ ts) (t ∷ ts) → Keeps specs ts ts
shorter specs t ts is = record {
  pids = refl;
  ranges = is.ranges.1;
  memory = (and_parts (has_memory specs t.pid (memory_of t.kind)) _ is.memory).1;
}

by_pid : (specs : List ProcessSpec) (pid : Pid) (given : Given) (t : Task) (ts more : List Task) (b : Bool) → same_pid t.pid pid ≡ b
    → ((rest : List Task) → given_to pid given ts ≡ Some rest → Keeps specs ts rest)
    → cond b (option_map (λ kind. record t { kind = kind } ∷ ts) (given_kind given t.kind)) (option_map (λ more. t ∷ more)
    (given_to pid given ts))
    ≡ Some more → IsReadableGiven given → has_memory specs pid (memory_for given) ≡ true → Keeps specs (t ∷ ts) (t ∷ ts)
    → Keeps specs (t ∷ ts) more
by_pid specs pid given t ts more true same after h one room is = here_keeps specs pid given t ts more same h one room is
by_pid specs pid given t ts more false same after h one room is =
    let found = mapped_is (λ rest. t ∷ rest) (given_to pid given ts) more h in
    subst (Keeps specs (t ∷ ts)) found.2 (longer specs t ts found.0 is (after found.0 found.1))

given_keeps : (specs : List ProcessSpec) (pid : Pid) (given : Given) (ts more : List Task) → given_to pid given ts ≡ Some more
    → IsReadableGiven given → has_memory specs pid (memory_for given) ≡ true → Keeps specs ts ts → Keeps specs ts more
given_keeps specs pid given [] more h one room is = cc
given_keeps specs pid given (t ∷ ts) more h one room is =
    by_pid specs pid given t ts more (same_pid t.pid pid) refl
    (λ rest e. given_keeps specs pid given ts rest e one room (shorter specs t ts is)) h one room is

-- from lines of tasks to the tasks
itself : (specs : List ProcessSpec) (before tasks : List Task) → Keeps specs before tasks → Keeps specs tasks tasks
itself specs before tasks is = record { pids = refl; ranges = is.ranges; memory = is.memory }

after : (specs : List ProcessSpec) (one two three : List Task) → Keeps specs one two → Keeps specs two three → Keeps specs one three
after specs one two three a b = record { pids = b.pids ∙ a.pids; ranges = b.ranges; memory = b.memory }

by_room : (specs : List ProcessSpec) (t : TaskLine) (tasks more : List Task) (b : Bool) → has_memory specs t.pid (memory_for t.given) ≡ b
    → cond b (given_to t.pid t.given tasks) None ≡ Some more → IsReadableGiven t.given → Keeps specs tasks tasks → Keeps specs tasks more
by_room specs t tasks more true room h one is = given_keeps specs t.pid t.given tasks more h one room is
by_room specs t tasks more false room h one is = cc

all_keep : (specs : List ProcessSpec) (tasks : List Task) (given : List TaskLine) (more : List Task) → AllByRecursion IsReadableLine given
    → with_all_given specs tasks given ≡ Some more → Keeps specs tasks tasks → Keeps specs tasks more
all_keep specs tasks [] more ranges h is = subst (Keeps specs tasks) (cond_some true tasks more h).1 is
all_keep specs tasks (t ∷ ts) more ranges h is =
    let step = bind_is (with_given specs tasks (Some t)) (λ found. with_all_given specs found ts) more h in
    let first = by_room specs t tasks step.0 (has_memory specs t.pid (memory_for t.given)) refl step.1 ranges.0.1 is in
    after specs tasks step.0 more first (all_keep specs step.0 ts more ranges.1 step.2 (itself specs tasks step.0 first))

-- every process has the memory for a script

idle_pids : (specs : List ProcessSpec) → map (λ (t : Task). t.pid) (map idle specs) ≡ map (λ (p : ProcessSpec). p.pid) specs
idle_pids [] = refl
idle_pids (s ∷ ss) = ap (λ l. s.pid ∷ l) (idle_pids ss)

idle_ranges : (specs : List ProcessSpec) → AllByRecursion (λ (t : Task). IsReadableKind t.kind) (map idle specs)
idle_ranges [] = tt
idle_ranges (s ∷ ss) = (tt, idle_ranges ss)

last_among : (before : List ProcessSpec) (s : ProcessSpec) (rest : List ProcessSpec) → has_memory (before ++ s ∷ rest) s.pid 0 ≡ true
last_among [] s rest = rw (same_pid_self s.pid, le-leb 0 s.size (omega arith)) refl
last_among (x ∷ xs) s rest = or_right (is_process s.pid x && nat_le 0 x.size) (has_memory (xs ++ s ∷ rest) s.pid 0) (last_among xs s rest)

idle_memory : (before rest : List ProcessSpec)
    → list_all (λ (t : Task). has_memory (before ++ rest) t.pid (memory_of t.kind)) (map idle rest) ≡ true
idle_memory before [] = refl
idle_memory before (s ∷ ss) =
    and_from (has_memory (before ++ s ∷ ss) s.pid 0) _ (last_among before s ss)
    (subst (λ (specs : List ProcessSpec). list_all (λ (t : Task). has_memory specs t.pid (memory_of t.kind)) (map idle ss) ≡ true)
    (append_assoc before (s ∷ []) ss) (idle_memory (before ++ s ∷ []) ss))

pub only_lawful : OnlyLawfulScenariosAreRead
only_lawful text s h =
    let w = whole_is text s h in
    let specs = w.config.specs in
    let start : Keeps specs (map idle specs) (map idle specs) =
    record { pids = refl; ranges = idle_ranges specs; memory = idle_memory [] specs } in
    let tasks = all_keep specs (map idle specs) w.told.given s.tasks w.told.ranges w.told.gives start in
    let front = openings_spelled plain_title timed_title (lines_of text) w.body w.config w.found in
    let same : w.config ≡ s.config = sym w.told.config in
    record {
      told = subst IsTellable same front.0;
      some = subst (λ (c : Settings). 0 < length c.specs) same w.some;
      tasks = tasks.pids ∙ idle_pids specs ∙ ap (λ (c : Settings). map (λ (p : ProcessSpec). p.pid) c.specs) same;
      ranges = tasks.ranges;
      memory = subst (λ (c : Settings). list_all (λ (t : Task). has_memory c.specs t.pid (memory_of t.kind)) s.tasks ≡ true) same tasks.memory;
      ports = subst (λ (c : Settings). ArePortsAbove c.specs 0 s.ports) same w.told.ports;
      plan = w.told.plan;
      rounds = subst (λ (c : Settings). s.rounds ≤ most_rounds c.specs) same w.told.rounds;
    }

pub read_lawful : (text : List ℕ) (r : Result Scenario TextRefusal) → IfOk r (λ s. scenario_of text ≡ Ok s) → IfOk r IsLawfulScenario
read_lawful text (Ok s) h = only_lawful text s h
read_lawful text (Err e) h = tt
