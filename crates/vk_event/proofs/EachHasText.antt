-- Each lawful scenario has a text: lines for the tasks, one task after the other.
use Rattle.std.proofs.Common.{◌≡◌, Bool, true, false, cond, List, [], ◌∷◌, ◌++◌, map, Option, Some, None, refl, ap, sym, ◌∙◌, subst, append_assoc, append-nil}
use Rattle.std.specs.List.{AllByRecursion, list_all}
use Rattle.std.specs.Option.{option_map}
use Rattle.std.proofs.lemmas.Bool.{and_parts}
use Rattle.vk_types.specs.Types.{Call, Pid, ProcessSpec}
use Rattle.vk_base.specs.Options.{◌>>=◌}
use Rattle.vk_base.specs.Pids.{IsPid, same_pid}
use Rattle.vk_base.proofs.Rising.{AllAbove, AreSpecsRising, lawful_rise, below_apart}
use Rattle.vk_base.proofs.PidLemmas.{same_pid_self}
use Rattle.vk_text.specs.Laws.{IsReadable}
use Rattle.vk_event.specs.declared.task.Given.{Given}
use Rattle.vk_event.specs.declared.task.Given.TheVariants as givens
use Rattle.vk_event.specs.declared.task.Task.{Task}
use Rattle.vk_event.specs.declared.task.TaskKind.{TaskKind}
use Rattle.vk_event.specs.declared.task.TaskKind.TheVariants as kinds
use Rattle.vk_event.specs.declared.task_line.TaskLine.{TaskLine}
use Rattle.vk_text.proofs.OpeningLaws.{openings_written}
use Rattle.vk_event.specs.Scenario.{idle, plain_title, timed_title}
use Rattle.vk_event.specs.ScenarioLaws.{IsReadableKind, IsReadableLine, LawfulScenariosHaveTexts, with_all_given}
use Rattle.vk_event.specs.Tasks.{given_kind, given_to, has_memory, memory_for, memory_of, with_given}

-- the lines for a task
do_line : Pid → Call → TaskLine
do_line pid call = record { pid = pid; given = givens.Call call }

program_line : Pid → TaskKind → TaskLine
program_line pid kind = record { pid = pid; given = givens.Program kind }

kind_lines : Pid → TaskKind → List TaskLine
kind_lines pid (kinds.Script calls) = map (do_line pid) calls
kind_lines pid (kinds.PageServer pages requests) = program_line pid (kinds.PageServer pages requests) ∷ []
kind_lines pid (kinds.PageClient server pages rounds) = program_line pid (kinds.PageClient server pages rounds) ∷ []
kind_lines pid (kinds.FileServer files requests) = program_line pid (kinds.FileServer files requests) ∷ []
kind_lines pid (kinds.Loader server file) = program_line pid (kinds.Loader server file) ∷ []
kind_lines pid (kinds.PipeServer requests) = program_line pid (kinds.PipeServer requests) ∷ []
kind_lines pid (kinds.Group requests pairs) = program_line pid (kinds.Group requests pairs) ∷ []
kind_lines pid (kinds.GroupHelper coordinator member) = program_line pid (kinds.GroupHelper coordinator member) ∷ []

all_lines : List Task → List TaskLine
all_lines [] = []
all_lines (t ∷ ts) = kind_lines t.pid t.kind ++ all_lines ts

-- each field is in its range

do_ranges : (pid : Pid) (calls : List Call) → IsPid pid → AllByRecursion IsReadable calls
    → AllByRecursion IsReadableLine (map (do_line pid) calls)
unfolding do_line
do_ranges pid [] p h = tt
do_ranges pid (c ∷ cs) p h = ((p, h.0), do_ranges pid cs p h.1)

kind_ranges : (pid : Pid) (kind : TaskKind) → IsPid pid → IsReadableKind kind → AllByRecursion IsReadableLine (kind_lines pid kind)
unfolding kind_lines program_line
kind_ranges pid (kinds.Script calls) p h = do_ranges pid calls p h
kind_ranges pid (kinds.PageServer pages requests) p h = ((p, h), tt)
kind_ranges pid (kinds.PageClient server pages rounds) p h = ((p, h), tt)
kind_ranges pid (kinds.FileServer files requests) p h = ((p, h), tt)
kind_ranges pid (kinds.Loader server file) p h = ((p, h), tt)
kind_ranges pid (kinds.PipeServer requests) p h = ((p, h), tt)
kind_ranges pid (kinds.Group requests pairs) p h = ((p, h), tt)
kind_ranges pid (kinds.GroupHelper coordinator member) p h = ((p, h), tt)

both_ranges : (a b : List TaskLine) → AllByRecursion IsReadableLine a → AllByRecursion IsReadableLine b
    → AllByRecursion IsReadableLine (a ++ b)
both_ranges [] b h k = k
both_ranges (x ∷ a) b h k = (h.0, both_ranges a b h.1 k)

lines_ranges : (ts : List Task) → AllByRecursion (λ t. IsPid t.pid) ts → AllByRecursion (λ t. IsReadableKind t.kind) ts
    → AllByRecursion IsReadableLine (all_lines ts)
unfolding all_lines
lines_ranges [] p h = tt
lines_ranges (t ∷ ts) p h = both_ranges (kind_lines t.pid t.kind) (all_lines ts) (kind_ranges t.pid t.kind p.0 h.0)
    (lines_ranges ts p.1 h.1)

-- lines of other processes leave a task as it is

onto : Task → List Task → List Task
onto t ts = t ∷ ts

pass_to : (t : Task) (ts : List Task) (pid : Pid) (given : Given) → same_pid t.pid pid ≡ false
    → given_to pid given (t ∷ ts) ≡ option_map (onto t) (given_to pid given ts)
unfolding onto
pass_to t ts pid given other = rw other refl

pass_by : (t : Task) (ts : List Task) (pid : Pid) (given : Given) (b : Bool) → same_pid t.pid pid ≡ false
    → cond b (given_to pid given (t ∷ ts)) None ≡ option_map (onto t) (cond b (given_to pid given ts) None)
pass_by t ts pid given true other = pass_to t ts pid given other
pass_by t ts pid given false other = refl

abbrev IsOther : Pid → TaskLine → Type 0
IsOther pid line = same_pid pid line.pid ≡ false

pass_rest : (specs : List ProcessSpec) (t : Task) (o : Option (List Task)) (rest : List TaskLine)
    → ((ts : List Task) → with_all_given specs (t ∷ ts) rest ≡ option_map (onto t) (with_all_given specs ts rest))
    → (option_map (onto t) o >>= λ more. with_all_given specs more rest)
    ≡ option_map (onto t) (o >>= λ more. with_all_given specs more rest)
unfolding onto
pass_rest specs t None rest after = refl
pass_rest specs t (Some ts) rest after = after ts

pass : (specs : List ProcessSpec) (t : Task) (ts : List Task) (lines : List TaskLine) → AllByRecursion (IsOther t.pid) lines
    → with_all_given specs (t ∷ ts) lines ≡ option_map (onto t) (with_all_given specs ts lines)
unfolding onto
pass specs t ts [] h = refl
pass specs t ts (l ∷ ls) h =
    ap (λ (o : Option (List Task)). o >>= λ more. with_all_given specs more ls)
    (pass_by t ts l.pid l.given (has_memory specs l.pid (memory_for l.given)) h.0)
    ∙ pass_rest specs t (with_given specs ts (Some l)) ls (λ us. pass specs t us ls h.1)

-- the lines for a task give it

task : Pid → TaskKind → Task
task pid kind = record { pid = pid; kind = kind }

one_line : (specs : List ProcessSpec) (pid : Pid) (given : Given) (kind after : TaskKind) (ts : List Task) (rest : List TaskLine)
    → has_memory specs pid (memory_for given) ≡ true → given_kind given kind ≡ Some after
    → with_all_given specs (task pid kind ∷ ts) (record { pid = pid; given = given } ∷ rest)
    ≡ with_all_given specs (task pid after ∷ ts) rest
unfolding task
one_line specs pid given kind after ts rest room is = rw (room, same_pid_self pid, is) refl

calls_given : (specs : List ProcessSpec) (pid : Pid) (done calls : List Call) (ts : List Task) (rest : List TaskLine)
    → has_memory specs pid 0 ≡ true → with_all_given specs (task pid (kinds.Script done) ∷ ts) (map (do_line pid) calls ++ rest)
    ≡ with_all_given specs (task pid (kinds.Script (done ++ calls)) ∷ ts) rest
unfolding do_line
calls_given specs pid done [] ts rest room = ap (λ cs. with_all_given specs (task pid (kinds.Script cs) ∷ ts) rest) (sym (append-nil done))
calls_given specs pid done (c ∷ cs) ts rest room =
    one_line specs pid (givens.Call c) (kinds.Script done) (kinds.Script (done ++ c ∷ [])) ts (map (do_line pid) cs ++ rest) room refl
    ∙ calls_given specs pid (done ++ c ∷ []) cs ts rest room
    ∙ ap (λ ds. with_all_given specs (task pid (kinds.Script ds) ∷ ts) rest) (append_assoc done (c ∷ []) cs)

task_given : (specs : List ProcessSpec) (pid : Pid) (kind : TaskKind) (ts : List Task) (rest : List TaskLine)
    → has_memory specs pid (memory_of kind) ≡ true
    → with_all_given specs (task pid (kinds.Script []) ∷ ts) (kind_lines pid kind ++ rest) ≡ with_all_given specs (task pid kind ∷ ts) rest
unfolding kind_lines program_line
task_given specs pid (kinds.Script calls) ts rest room = calls_given specs pid [] calls ts rest room
task_given specs pid (kinds.PageServer pages requests) ts rest room =
    one_line specs pid (givens.Program (kinds.PageServer pages requests)) (kinds.Script [])
    (kinds.PageServer pages requests) ts rest room refl
task_given specs pid (kinds.PageClient server pages rounds) ts rest room =
    one_line specs pid (givens.Program (kinds.PageClient server pages rounds)) (kinds.Script [])
    (kinds.PageClient server pages rounds) ts rest
    room refl
task_given specs pid (kinds.FileServer files requests) ts rest room =
    one_line specs pid (givens.Program (kinds.FileServer files requests)) (kinds.Script []) (kinds.FileServer files requests) ts rest
    room refl
task_given specs pid (kinds.Loader server file) ts rest room =
    one_line specs pid (givens.Program (kinds.Loader server file)) (kinds.Script []) (kinds.Loader server file) ts rest
    room refl
task_given specs pid (kinds.PipeServer requests) ts rest room =
    one_line specs pid (givens.Program (kinds.PipeServer requests)) (kinds.Script []) (kinds.PipeServer requests) ts rest
    room refl
task_given specs pid (kinds.Group requests pairs) ts rest room =
    one_line specs pid (givens.Program (kinds.Group requests pairs)) (kinds.Script []) (kinds.Group requests pairs) ts rest
    room refl
task_given specs pid (kinds.GroupHelper coordinator member) ts rest room =
    one_line specs pid (givens.Program (kinds.GroupHelper coordinator member)) (kinds.Script []) (kinds.GroupHelper coordinator member) ts rest
    room refl

-- the processes rise, so the lines for later tasks are of other processes

do_others : (pid own : Pid) (calls : List Call) → same_pid pid own ≡ false → AllByRecursion (IsOther pid) (map (do_line own) calls)
unfolding do_line
do_others pid own [] h = tt
do_others pid own (c ∷ cs) h = (h, do_others pid own cs h)

kind_others : (pid own : Pid) (kind : TaskKind) → same_pid pid own ≡ false → AllByRecursion (IsOther pid) (kind_lines own kind)
unfolding kind_lines program_line
kind_others pid own (kinds.Script calls) h = do_others pid own calls h
kind_others pid own (kinds.PageServer pages requests) h = (h, tt)
kind_others pid own (kinds.PageClient server pages rounds) h = (h, tt)
kind_others pid own (kinds.FileServer files requests) h = (h, tt)
kind_others pid own (kinds.Loader server file) h = (h, tt)
kind_others pid own (kinds.PipeServer requests) h = (h, tt)
kind_others pid own (kinds.Group requests pairs) h = (h, tt)
kind_others pid own (kinds.GroupHelper coordinator member) h = (h, tt)

both_others : (pid : Pid) (a b : List TaskLine) → AllByRecursion (IsOther pid) a → AllByRecursion (IsOther pid) b
    → AllByRecursion (IsOther pid) (a ++ b)
both_others pid [] b h k = k
both_others pid (x ∷ a) b h k = (h.0, both_others pid a b h.1 k)

-- the tasks are those of these processes
abbrev AreOf : List ProcessSpec → List Task → Type 0
AreOf [] [] = Unit {0}
AreOf [] (t ∷ ts) = ⊥
AreOf (p ∷ ps) [] = ⊥
AreOf (p ∷ ps) (t ∷ ts) = (t.pid ≡ p.pid) × AreOf ps ts

lines_others : (pid : Pid) (ps : List ProcessSpec) (ts : List Task) → AreOf ps ts → AllAbove pid ps
    → AllByRecursion (IsOther pid) (all_lines ts)
unfolding all_lines
lines_others pid [] [] is above = tt
lines_others pid [] (t ∷ ts) is above = absurd is
lines_others pid (p ∷ ps) [] is above = absurd is
lines_others pid (p ∷ ps) (t ∷ ts) is above =
    both_others pid (kind_lines t.pid t.kind) (all_lines ts)
    (kind_others pid t.pid t.kind (subst (λ q. same_pid pid q ≡ false) (sym is.0) (below_apart pid p.pid above.0)))
    (lines_others pid ps ts is.1 above.1)

all_given : (specs ps : List ProcessSpec) (ts : List Task) → AreOf ps ts → AreSpecsRising ps
    → list_all (λ (t : Task). has_memory specs t.pid (memory_of t.kind)) ts ≡ true
    → with_all_given specs (map idle ps) (all_lines ts) ≡ Some ts
unfolding all_lines onto task
all_given specs [] [] is rising room = refl
all_given specs [] (t ∷ ts) is rising room = absurd is
all_given specs (p ∷ ps) [] is rising room = absurd is
all_given specs (p ∷ ps) (t ∷ ts) is rising room =
    let parts = and_parts (has_memory specs t.pid (memory_of t.kind)) _ room in
    ap (λ q. with_all_given specs (task q (kinds.Script []) ∷ map idle ps) (kind_lines t.pid t.kind ++ all_lines ts)) (sym is.0)
    ∙ task_given specs t.pid t.kind (map idle ps) (all_lines ts) parts.0
    ∙ pass specs t (map idle ps) (all_lines ts)
    (lines_others t.pid ps ts is.1 (subst (λ q. AllAbove q ps) (sym is.0) rising.0))
    ∙ ap (option_map (onto t)) (all_given specs ps ts is.1 rising.1 parts.1)

same_first : (p q : Pid) (ps qs : List Pid) → p ∷ ps ≡ q ∷ qs → (p ≡ q) × (ps ≡ qs)
same_first p q ps qs h = (cc, cc)

are_of : (ps : List ProcessSpec) (ts : List Task) → map (λ (t : Task). t.pid) ts ≡ map (λ (p : ProcessSpec). p.pid) ps → AreOf ps ts
are_of [] [] h = tt
are_of [] (t ∷ ts) h = cc
are_of (p ∷ ps) [] h = cc
are_of (p ∷ ps) (t ∷ ts) h = let both = same_first _ _ _ _ h in (both.0, are_of ps ts both.1)

pids_of : (ps : List ProcessSpec) (ts : List Task) → AreOf ps ts → AllByRecursion (λ p. IsPid p.pid) ps
    → AllByRecursion (λ t. IsPid t.pid) ts
pids_of [] [] is h = tt
pids_of [] (t ∷ ts) is h = absurd is
pids_of (p ∷ ps) [] is h = absurd is
pids_of (p ∷ ps) (t ∷ ts) is h = (subst IsPid (sym is.0) h.0, pids_of ps ts is.1 h.1)

pub have_texts : LawfulScenariosHaveTexts
have_texts s is =
    let of = are_of s.config.specs s.tasks is.tasks in (
      openings_written plain_title timed_title s.config is.told.lawful,
      (
        all_lines s.tasks,
        lines_ranges s.tasks (pids_of s.config.specs s.tasks of is.told.pids) is.ranges,
        all_given s.config.specs s.config.specs s.tasks of (lawful_rise s.config.specs is.told.lawful.processes) is.memory,
      ),
    )
