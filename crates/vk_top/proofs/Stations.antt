-- The programs of one station's tasks, and what a run of the station asks of them.
use Rattle.std.proofs.Common.{◌≡◌, ◌<◌, ℕ, ◌+◌, ◌==◌, eqb-true, eq-eqb, Bool, true, false, cond, List, [], ◌∷◌, ◌++◌, append-nil, length, map, take, get_or, refl, sym, ap, ◌∙◌, subst}
use Rattle.std.specs.Prelude.{filter}
use Rattle.std.proofs.lemmas.List.Elements.{filter-append}
use Rattle.vk_types.specs.Types.{Pid}
use Rattle.vk_base.specs.Pids.{same_pid}
use Rattle.vk_base.specs.Settings.{has_process}
use Rattle.vk_event.specs.declared.scenario.Scenario.{Scenario}
use Rattle.vk_event.specs.ScenarioLaws.{IsLawfulScenario}
use Rattle.vk_event.specs.declared.task.Task.{Task}
use Rattle.vk_rules.specs.Each.{Each}
use Rattle.vk_rules.proofs.Lists.{each_filter}
use Rattle.vk_top.specs.Programs.{AreTopPrograms, IsAfter, call_by, tasks_at, top_call}
use Rattle.vk_threads.specs.Assigned.{AreDifferent, pid_of}
use Rattle.vk_program.specs.declared.assigned.Assigned.{Assigned}
use Rattle.vk_top.specs.declared.program.TopProgram.{TopProgram}
use Rattle.vk_threads.proofs.Scenarios.{spec_pid, specs_differ, specs_have}
use Rattle.vk_top.proofs.Programs.{each_assigned, program_push, programs_pids, task_pid, tasks_more}

differ_cond : (b : Bool) (p : Pid) (ps : List Pid) → Each (λ (q : Pid). same_pid q p ≡ false) ps → AreDifferent ps →
    AreDifferent (cond b (p ∷ ps) ps)
differ_cond true p ps own apart = (own, apart)
differ_cond false p ps own apart = apart

differ_found : (f : Pid → Bool) (ps : List Pid) → AreDifferent ps → AreDifferent (filter f ps)
differ_found f [] apart = tt
differ_found f (p ∷ ps) apart =
    differ_cond (f p) p (filter f ps) (each_filter (λ (q : Pid). same_pid q p ≡ false) f ps apart.0) (differ_found f ps apart.1)

pids_cond : (b : Bool) (t : Task) (ts : List Task) → map task_pid (cond b (t ∷ ts) ts) ≡ cond b (t.pid ∷ map task_pid ts) (map task_pid ts)
pids_cond true t ts = refl
pids_cond false t ts = refl

pids_at : (host : ℕ) (ts : List Task) → map task_pid (tasks_at host ts) ≡ filter (λ (p : Pid). p.host == host) (map task_pid ts)
pids_at host [] = refl
pids_at host (t ∷ ts) =
    pids_cond (t.pid.host == host) t (tasks_at host ts)
    ∙ ap (λ l. cond (t.pid.host == host) (t.pid ∷ l) l) (pids_at host ts)

station_pids : (s : Scenario) (host : ℕ) (programs : List (Assigned TopProgram)) → IsLawfulScenario s →
    AreTopPrograms (tasks_at host s.tasks) programs
    → map pid_of programs ≡ filter (λ (p : Pid). p.host == host) (map spec_pid s.config.specs)
station_pids s host programs lawful are =
    programs_pids (tasks_at host s.tasks) programs are ∙ pids_at host s.tasks ∙ ap (filter (λ (p : Pid). p.host == host)) lawful.tasks

pub station_have : (s : Scenario) (host : ℕ) (programs : List (Assigned TopProgram)) → IsLawfulScenario s →
    AreTopPrograms (tasks_at host s.tasks) programs
    → Each (λ (a : Assigned TopProgram). has_process s.config.specs a.pid ≡ true) programs
station_have s host programs lawful are =
    each_assigned s.config.specs programs
    (subst (Each (λ (p : Pid). has_process s.config.specs p ≡ true)) (sym (station_pids s host programs lawful are))
    (each_filter (λ (p : Pid). has_process s.config.specs p ≡ true) (λ (p : Pid). p.host == host) (map spec_pid s.config.specs)
    (specs_have s.config.specs)))

pub station_apart : (s : Scenario) (host : ℕ) (programs : List (Assigned TopProgram)) → IsLawfulScenario s →
    AreTopPrograms (tasks_at host s.tasks) programs
    → AreDifferent (map pid_of programs)
station_apart s host programs lawful are =
    subst AreDifferent (sym (station_pids s host programs lawful are))
    (differ_found (λ (p : Pid). p.host == host) (map spec_pid s.config.specs) (specs_differ s.config.specs lawful.told.lawful.processes))

-- each is of a process of the station
own_cond : (host : ℕ) (b : Bool) (p : Pid) (ps : List Pid) → (p.host == host) ≡ b → Each (λ (q : Pid). q.host ≡ host) ps
    → Each (λ (q : Pid). q.host ≡ host) (cond b (p ∷ ps) ps)
own_cond host true p ps is each = (eqb-true p.host host is, each)
own_cond host false p ps is each = each

own_found : (host : ℕ) (ps : List Pid) → Each (λ (q : Pid). q.host ≡ host) (filter (λ (q : Pid). q.host == host) ps)
own_found host [] = tt
own_found host (p ∷ ps) = own_cond host (p.host == host) p (filter (λ (q : Pid). q.host == host) ps) refl (own_found host ps)

each_own : (host : ℕ) (programs : List (Assigned TopProgram)) → Each (λ (q : Pid). q.host ≡ host) (map pid_of programs)
    → Each (λ (a : Assigned TopProgram). a.pid.host ≡ host) programs
each_own host [] each = tt
each_own host (a ∷ others) each = (each.0, each_own host others each.1)

pub station_own : (s : Scenario) (host : ℕ) (programs : List (Assigned TopProgram)) → IsLawfulScenario s →
    AreTopPrograms (tasks_at host s.tasks) programs
    → Each (λ (a : Assigned TopProgram). a.pid.host ≡ host) programs
station_own s host programs lawful are =
    each_own host programs (subst (Each (λ (q : Pid). q.host ≡ host)) (sym (station_pids s host programs lawful are)) (own_found host
    (map spec_pid s.config.specs)))

-- one task more, of the station or of another one
at_more : (ts : List Task) (i host : ℕ) (t : Task) → i < length ts → t ≡ get_or ts i t
    → tasks_at host (take (i + 1) ts) ≡ tasks_at host (take i ts) ++ tasks_at host (t ∷ [])
at_more ts i host t low here =
    ap (tasks_at host) (tasks_more ts i t low here) ∙ filter-append (λ (u : Task). u.pid.host == host) (take i ts) (t ∷ [])

own_task : (host : ℕ) (t : Task) → t.pid.host ≡ host → tasks_at host (t ∷ []) ≡ t ∷ []
own_task host t own = ap (λ b. cond b (t ∷ []) []) (eq-eqb t.pid.host host own)

other_task : (host : ℕ) (t : Task) → (t.pid.host == host) ≡ false → tasks_at host (t ∷ []) ≡ []
other_task host t other = ap (λ b. cond b (t ∷ []) []) other

pub station_on : (ts : List Task) (i host : ℕ) (t : Task) (a : Assigned TopProgram) (others grown : List (Assigned TopProgram)) → i < length ts
    → t ≡ get_or ts i t → t.pid.host ≡ host → AreTopPrograms (tasks_at host (take i ts)) others → (a.pid ≡ t.pid)
    → (call_by a.program ≡ top_call t) → IsAfter a.program [] → grown ≡ others ++ a ∷ [] → AreTopPrograms (tasks_at host (take (i + 1) ts)) grown
station_on ts i host t a others grown low here own are pid task after is =
    let more = at_more ts i host t low here ∙ ap (λ l. tasks_at host (take i ts) ++ l) (own_task host t own) in
    subst (AreTopPrograms (tasks_at host (take (i + 1) ts))) (sym is)
    (subst (λ l. AreTopPrograms l (others ++ a ∷ [])) (sym more) (program_push (tasks_at host (take i ts)) others t a are pid task after))

pub station_passed : (ts : List Task) (i host : ℕ) (t : Task) (others : List (Assigned TopProgram)) → i < length ts → t ≡ get_or ts i t
    → (t.pid.host == host) ≡ false → AreTopPrograms (tasks_at host (take i ts)) others → AreTopPrograms (tasks_at host (take (i + 1) ts)) others
station_passed ts i host t others low here other are =
    let more = at_more ts i host t low here ∙ ap (λ l. tasks_at host (take i ts) ++ l) (other_task host t other) ∙ append-nil (tasks_at host
    (take i ts)) in
    subst (λ l. AreTopPrograms l others) (sym more) are
