-- The lines of a scenario's text, and that each text of a scenario reads as it.
use Rattle.std.proofs.Common.{◌≡◌, ℕ, ◌+◌, ◌<◌, ◌≤◌, ◌^◌, List, [], ◌∷◌, ◌++◌, length, map, Option, Some, None, Result, Ok, Err, refl, ap, sym, ◌∙◌, subst, arith, length-append}
use Rattle.std.proofs.Math.Nat.{div-le_self}
use Rattle.std.specs.List.{AllByRecursion}
use Rattle.std.specs.Option.{option_map_or}
use Rattle.vk_types.specs.Types.{Pid, ProcessSpec}
use Rattle.vk_base.specs.Settings.{Settings, stations_of}
use Rattle.vk_base.proofs.OptionLemmas.{bind_is}
use Rattle.vk_text.specs.Heads.{HasNoFeed, process_of}
use Rattle.vk_text.specs.Lines.{lines_of, words_from}
use Rattle.vk_text.specs.Openings.{BeginsNoHead, line_number, pool_line_of}
use Rattle.vk_text.specs.Spelling.{joined}
use Rattle.vk_text.proofs.Bodies.{text_spelled, title_plain}
use Rattle.vk_text.proofs.OpeningLaws.{openings_back, openings_no_feed, openings_spelled, both_plain}
use Rattle.vk_text.proofs.PlainWords.{no_spaces, no_feeds, joined_no_feed}
use Rattle.vk_text.proofs.ReadBack.{joined_words, line_joined}
use Rattle.vk_event.specs.declared.port.StationPort.{StationPort}
use Rattle.vk_event.specs.declared.scenario.Ending.{Ending}
use Rattle.vk_schedule.specs.declared.plan.LinkPlan.{LinkPlan}
use Rattle.vk_event.specs.declared.scenario.Scenario.{Scenario}
use Rattle.vk_event.specs.declared.task.Given.{Given}
use Rattle.vk_event.specs.declared.task.Given.TheVariants as givens
use Rattle.vk_event.specs.declared.task.Task.{Task}
use Rattle.vk_event.specs.declared.task.TaskKind.TheVariants as kinds
use Rattle.vk_event.specs.declared.task_line.TaskLine.{TaskLine}
use Rattle.vk_event.specs.Endings.{at_last, plan_of, rounds_of, rounds_from, ending_from}
use Rattle.vk_event.specs.Ports.{ArePortsAbove, port_of, port_text, ports_from}
use Rattle.vk_event.specs.Scenario.{idle, most_rounds, opened, plain_title, scenario_by_ports, scenario_end, scenario_with, scenario_from, scenario_by, scenario_of, scenario_on, timed_title}
use Rattle.vk_event.specs.ScenarioLaws.{GiveTasks, IsScenarioFront, IsLawfulScenario, IsPlan, IsReadableLine, ScenariosAreSpelled, ScenariosReadBack, body_lines, closing_lines, ending_lines, given_words, plan_words, rounds_words, scenario_text, task_text, task_words, with_all_given}
use Rattle.vk_event.specs.Tasks.{task_line_of, with_given, with_task_line}
use Rattle.vk_event.proofs.PortLines.{port_parts, ports_back, ports_feeds, ports_told}
use Rattle.vk_schedule.proofs.ReadAgain.{lines_back}
use Rattle.vk_event.proofs.ScenarioHeads.{on_some}
use Rattle.vk_event.proofs.TaskLines.{task_line_is, task_line_read, task_line_plain, plan_is, plan_read, plan_plain, plan_no_port, plan_no_task, port_no_task, rounds_is, rounds_read, rounds_plain}

pub few_rounds : (specs : List ProcessSpec) → most_rounds specs < 2 ^ 64
few_rounds specs = omega (arith, div-le_self 50000 (length (stations_of specs)))

-- from a text to its lines

line_is : (l : List ℕ) (ws : List (List ℕ)) → words_from l 0 ≡ ws → l ≡ joined ws
line_is l ws h = sym (line_joined l) ∙ ap joined h

last_is : (n : ℕ) (e found : Ending) (ls : List (List ℕ)) → at_last n found ls ≡ Ok e → (ls ≡ []) × (found ≡ e)
last_is n e found [] h = (refl, cc)
last_is n e found (l ∷ ls) h = cc

-- what the last two lines tell
record Tells (most : ℕ) (e : Ending) (left : List (List ℕ)) : Type 0 where
  pub plan : IsPlan e.plan
  pub rounds : e.rounds ≤ most
  pub lines : left ≡ joined (plan_words e.plan) ∷ joined (rounds_words e.rounds) ∷ []

rounds_by : (most n : ℕ) (plan : LinkPlan) (l : List ℕ) (ls : List (List ℕ)) (o : Option ℕ) (e : Ending) → most < 2 ^ 64
    → rounds_of most (words_from l 0) ≡ o
    → option_map_or (λ rounds. at_last (n + 1) (record { plan = plan; rounds = rounds }) ls) o (Err n) ≡ Ok e
    → (e.rounds ≤ most) × (plan ≡ e.plan) × (l ∷ ls ≡ joined (rounds_words e.rounds) ∷ [])
rounds_by most n plan l ls None e m is h = cc
rounds_by most n plan l ls (Some rounds) e m is h =
    let last = last_is (n + 1) e (record { plan = plan; rounds = rounds }) ls h in
    let told = rounds_is most (words_from l 0) rounds m is in
    let same : rounds ≡ e.rounds = ap (λ (x : Ending). x.rounds) last.1 in (
      subst (λ k. k ≤ most) same told.0,
      ap (λ (x : Ending). x.plan) last.1,
      ap (λ k. l ∷ k) last.0 ∙ ap (λ k. k ∷ []) (line_is l (rounds_words rounds) told.1 ∙ ap (λ k. joined (rounds_words k)) same),
    )

rounds_told : (most n : ℕ) (plan : LinkPlan) (lines : List (List ℕ)) (e : Ending) → most < 2 ^ 64 → rounds_from most n plan lines ≡ Ok e
    → (e.rounds ≤ most) × (plan ≡ e.plan) × (lines ≡ joined (rounds_words e.rounds) ∷ [])
unfolding rounds_from
rounds_told most n plan [] e m h = cc
rounds_told most n plan (l ∷ ls) e m h = rounds_by most n plan l ls (rounds_of most (words_from l 0)) e m refl h

plan_by : (most n : ℕ) (l : List ℕ) (ls : List (List ℕ)) (o : Option LinkPlan) (e : Ending) → most < 2 ^ 64 → plan_of (words_from l 0) ≡ o
    → option_map_or (λ plan. rounds_from most (n + 1) plan ls) o (Err n) ≡ Ok e → Tells most e (l ∷ ls)
plan_by most n l ls None e m is h = cc
plan_by most n l ls (Some plan) e m is h =
    let rest = rounds_told most (n + 1) plan ls e m h in
    let told = plan_is (words_from l 0) plan is in
    record {
      plan = subst IsPlan rest.1 told.0;
      rounds = rest.0;
      lines = ap (λ k. l ∷ k) rest.2 ∙ ap (λ k. k ∷ joined (rounds_words e.rounds) ∷ [])
          (line_is l (plan_words plan) told.1 ∙ ap (λ (p : LinkPlan). joined (plan_words p)) rest.1);
    }

ending_told : (most n : ℕ) (lines : List (List ℕ)) (e : Ending) → most < 2 ^ 64 → ending_from most n lines ≡ Ok e → Tells most e lines
unfolding ending_from
ending_told most n [] e m h = cc
ending_told most n (l ∷ ls) e m h = plan_by most n l ls (plan_of (words_from l 0)) e m refl h

-- what the lines from here on tell of a scenario
pub record Told (c : Settings) (tasks : List Task) (lines : List (List ℕ)) (s : Scenario) : Type 0 where
  pub given : List TaskLine
  pub ranges : AllByRecursion IsReadableLine given
  pub gives : with_all_given c.specs tasks given ≡ Some s.tasks
  pub body : lines ≡ body_lines s given
  pub config : s.config ≡ c
  pub ports : ArePortsAbove c.specs 0 s.ports
  pub plan : IsPlan s.plan
  pub rounds : s.rounds ≤ most_rounds c.specs

told_ending : (c : Settings) (tasks : List Task) (n : ℕ) (lines : List (List ℕ)) (found : List StationPort × List (List ℕ))
    (r : Result Ending ℕ) (s : Scenario) → ArePortsAbove c.specs 0 found.0 → lines ≡ map port_text found.0 ++ found.1
    → ending_from (most_rounds c.specs) (n + length found.0) found.1 ≡ r → scenario_with c tasks found.0 r ≡ Ok s → Told c tasks lines s
told_ending c tasks n lines found (Err k) s ports front is h = cc
told_ending c tasks n lines found (Ok e) s ports front is h =
    let tells = ending_told (most_rounds c.specs) (n + length found.0) found.1 e (few_rounds c.specs) is in
    let made : Scenario = record { config = c; tasks = tasks; ports = found.0; plan = e.plan; rounds = e.rounds } in
    let same : made ≡ s = cc in
    record {
      given = [];
      ranges = tt;
      gives = ap (λ (x : Scenario). Some x.tasks) same;
      body = front ∙ ap (λ (k : List (List ℕ)). map port_text found.0 ++ k) tells.lines ∙ ap closing_lines same;
      config = ap (λ (x : Scenario). x.config) (sym same);
      ports = subst (λ (x : Scenario). ArePortsAbove c.specs 0 x.ports) same ports;
      plan = subst (λ (x : Scenario). IsPlan x.plan) same tells.plan;
      rounds = subst (λ (x : Scenario). x.rounds ≤ most_rounds c.specs) same tells.rounds;
    }

told_end : (c : Settings) (tasks : List Task) (n : ℕ) (lines : List (List ℕ)) (s : Scenario) → scenario_end c tasks n lines ≡ Ok s
    → Told c tasks lines s
told_end c tasks n lines s h =
    let found = ports_from c.specs 0 lines in
    let told = ports_told c.specs 0 lines in
    told_ending c tasks n lines found (ending_from (most_rounds c.specs) (n + length found.0) found.1) s told.0 told.1 refl h

some_given : (specs : List ProcessSpec) (tasks more : List Task) (o : Option TaskLine) → with_given specs tasks o ≡ Some more
    → (t : TaskLine) × (o ≡ Some t) × (with_given specs tasks (Some t) ≡ Some more)
some_given specs tasks more None h = cc
some_given specs tasks more (Some t) h = (t, refl, h)

told_line : (c : Settings) (tasks more : List Task) (l : List ℕ) (ls : List (List ℕ)) (s : Scenario)
    → with_task_line c.specs tasks l ≡ Some more → Told c more ls s → Told c tasks (l ∷ ls) s
told_line c tasks more l ls s is rest =
    let found = some_given c.specs tasks more (task_line_of (words_from l 0)) is in
    let line = task_line_is (words_from l 0) found.0 found.1 in
    record {
      given = found.0 ∷ rest.given;
      ranges = (line.0, rest.ranges);
      gives = rw found.2 rest.gives;
      body = ap (λ k. l ∷ k) rest.body ∙ ap (λ k. k ∷ body_lines s rest.given) (line_is l (task_words found.0) line.1);
      config = rest.config;
      ports = rest.ports;
      plan = rest.plan;
      rounds = rest.rounds;
    }

told_by : (c : Settings) (tasks : List Task) (n : ℕ) (l : List ℕ) (ls : List (List ℕ)) (s : Scenario) (o : Option (List Task))
    → with_task_line c.specs tasks l ≡ o → ((more : List Task) → scenario_from c more (n + 1) ls ≡ Ok s → Told c more ls s)
    → option_map_or (λ more. scenario_from c more (n + 1) ls) o (scenario_end c tasks n (l ∷ ls)) ≡ Ok s → Told c tasks (l ∷ ls) s
told_by c tasks n l ls s None is after h = told_end c tasks n (l ∷ ls) s h
told_by c tasks n l ls s (Some more) is after h = told_line c tasks more l ls s is (after more h)

pub told_from : (c : Settings) (tasks : List Task) (n : ℕ) (lines : List (List ℕ)) (s : Scenario)
    → scenario_from c tasks n lines ≡ Ok s → Told c tasks lines s
unfolding scenario_from
told_from c tasks n [] s h = cc
told_from c tasks n (l ∷ ls) s h =
    told_by c tasks n l ls s (with_task_line c.specs tasks l) refl (λ more e. told_from c more (n + 1) ls s e) h

-- what a text tells of the scenario that it reads as
pub record Whole (text : List ℕ) (s : Scenario) : Type 0 where
  pub config : Settings
  pub body : List (List ℕ)
  pub found : opened (lines_of text) ≡ Ok (config, body)
  pub some : 0 < length config.specs
  pub told : Told config (map idle config.specs) body s

on_specs : (c : Settings) (specs : List ProcessSpec) (n : ℕ) (body : List (List ℕ)) (s : Scenario) → c.specs ≡ specs →
    scenario_on n c specs body ≡ Ok s → (0 < length c.specs) × Told c (map idle c.specs) body s
unfolding scenario_on
on_specs c [] n body s is h = cc
on_specs c (p ∷ ps) n body s is h =
    (omega (arith, ap length is), told_from c (map idle c.specs) n body s (ap (λ ss. scenario_from c (map idle ss) n body) is ∙ h))

whole_by : (text : List ℕ) (o : Result (Settings × List (List ℕ)) ℕ) (s : Scenario) → opened (lines_of text) ≡ o
    → scenario_by (lines_of text) o ≡ Ok s → Whole text s
unfolding scenario_by
whole_by text (Err n) s is h = cc
whole_by text (Ok found) s is h =
    let on = on_specs found.0 found.0.specs (line_number (lines_of text) found.1) found.1 s refl h in
    record { config = found.0; body = found.1; found = is; some = on.0; told = on.1 }

pub whole_is : (text : List ℕ) (s : Scenario) → scenario_of text ≡ Ok s → Whole text s
whole_is text s h = whole_by text (opened (lines_of text)) s refl h

pub scenarios_spelled : ScenariosAreSpelled
scenarios_spelled text s h =
    let w = whole_is text s h in
    let front = openings_spelled plain_title timed_title (lines_of text) w.body w.config w.found in
    let lines : lines_of text ≡ front.1.0 ++ body_lines s w.told.given = front.1.2 ∙ ap (λ k. front.1.0 ++ k) w.told.body in (
      front.1.0,
      subst (λ (c : Settings). IsScenarioFront c front.1.0) (sym w.told.config) front.1.1,
      (
        w.told.given,
        subst (λ (c : Settings). with_all_given c.specs (map idle c.specs) w.told.given ≡ Some s.tasks) (sym w.told.config) w.told.gives,
        text_spelled text (scenario_text s front.1.0 w.told.given) (front.1.0 ++ body_lines s w.told.given) lines refl,
      ),
    )

-- from the lines to a text

some_words : (pid : Pid) (given : Given) → 0 < length (given_words pid given)
some_words pid (givens.Call call) = omega arith
some_words pid (givens.Program (kinds.Script calls)) = omega arith
some_words pid (givens.Program (kinds.PageServer pages requests)) = omega arith
some_words pid (givens.Program (kinds.PageClient server pages rounds)) = omega arith
some_words pid (givens.Program (kinds.FileServer files requests)) = omega arith
some_words pid (givens.Program (kinds.Loader server file)) = omega arith
some_words pid (givens.Program (kinds.PipeServer requests)) = omega arith
some_words pid (givens.Program (kinds.Group requests pairs)) = omega arith
some_words pid (givens.Program (kinds.GroupHelper coordinator member)) = omega arith

task_parts : (t : TaskLine) → IsReadableLine t → words_from (task_text t) 0 ≡ task_words t
task_parts t h = joined_words (task_words t) (some_words t.pid t.given) (no_spaces (task_words t) (task_line_plain t h))

plan_parts : (p : LinkPlan) → IsPlan p → words_from (joined (plan_words p)) 0 ≡ plan_words p
plan_parts p h = joined_words (plan_words p) (omega arith) (no_spaces (plan_words p) (plan_plain p h))

rounds_parts : (n : ℕ) → n < 2 ^ 64 → words_from (joined (rounds_words n)) 0 ≡ rounds_words n
rounds_parts n h = joined_words (rounds_words n) (omega arith) (no_spaces (rounds_words n) (rounds_plain n h))

ending_read : (most n : ℕ) (p : LinkPlan) (rounds : ℕ) → most < 2 ^ 64 → IsPlan p → rounds ≤ most
    → ending_from most n (joined (plan_words p) ∷ joined (rounds_words rounds) ∷ []) ≡ Ok (record { plan = p; rounds = rounds })
unfolding ending_from rounds_from
ending_read most n p rounds m plan few =
    let first : plan_of (words_from (joined (plan_words p)) 0) ≡ Some p = ap plan_of (plan_parts p plan) ∙ plan_read p plan in
    let second : rounds_of most (words_from (joined (rounds_words rounds)) 0) ≡ Some rounds =
    ap (rounds_of most) (rounds_parts rounds (omega arith)) ∙ rounds_read most rounds m few in
    rw (first, second) refl

-- the first line behind those of tasks gives no process anything
abbrev BeginsNoTask : List ProcessSpec → List Task → List (List ℕ) → Type 0
BeginsNoTask specs tasks [] = Unit {0}
BeginsNoTask specs tasks (l ∷ ls) = with_task_line specs tasks l ≡ None

some_lines : (s : Scenario) → 0 < length (closing_lines s)
some_lines s =
    let all = length-append (map port_text s.ports) (ending_lines s.plan s.rounds) in
    omega (arith, all)

first_no_task : (specs : List ProcessSpec) (ports : List StationPort) (plan : LinkPlan) (rounds : ℕ) (tasks : List Task)
    → ArePortsAbove specs 0 ports → IsPlan plan → BeginsNoTask specs tasks (map port_text ports ++ ending_lines plan rounds)
first_no_task specs [] plan rounds tasks are is =
    ap (λ ws. with_given specs tasks (task_line_of ws)) (plan_parts plan is) ∙ ap (with_given specs tasks) (plan_no_task plan)
first_no_task specs (p ∷ ps) plan rounds tasks are is =
    ap (λ ws. with_given specs tasks (task_line_of ws)) (port_parts p are.0) ∙ ap (with_given specs tasks) (port_no_task p)

at_end : (c : Settings) (tasks : List Task) (n : ℕ) (lines : List (List ℕ)) → 0 < length lines → BeginsNoTask c.specs tasks lines
    → scenario_from c tasks n lines ≡ scenario_end c tasks n lines
unfolding scenario_from
at_end c tasks n [] some other = absurd (omega arith)
at_end c tasks n (l ∷ ls) some other = rw other refl

end_read : (c : Settings) (tasks : List Task) (n : ℕ) (ports : List StationPort) (plan : LinkPlan) (rounds : ℕ)
    → ArePortsAbove c.specs 0 ports → IsPlan plan → rounds ≤ most_rounds c.specs
    → scenario_end c tasks n (map port_text ports ++ ending_lines plan rounds)
    ≡ Ok (record { config = c; tasks = tasks; ports = ports; plan = plan; rounds = rounds })
end_read c tasks n ports plan rounds are is few =
    ap (scenario_by_ports c tasks n) (ports_back c.specs 0 ports (joined (plan_words plan)) (joined (rounds_words rounds) ∷ []) are
    (ap port_of (plan_parts plan is) ∙ plan_no_port plan))
    ∙ ap (scenario_with c tasks ports) (ending_read (most_rounds c.specs) (n + length ports) plan rounds (few_rounds c.specs) is few)

body_of : (c : Settings) (tasks : List Task) (n : ℕ) (s : Scenario) (given : List TaskLine)
    → AllByRecursion IsReadableLine given
    → with_all_given c.specs tasks given ≡ Some s.tasks → s.config ≡ c → ArePortsAbove c.specs 0 s.ports → IsPlan s.plan
    → s.rounds ≤ most_rounds c.specs → scenario_from c tasks n (body_lines s given) ≡ Ok s
unfolding scenario_from
body_of c tasks n s [] ranges gives config ports plan few =
    let same : tasks ≡ s.tasks = cc in
    at_end c tasks n (closing_lines s) (some_lines s) (first_no_task c.specs s.ports s.plan s.rounds tasks ports plan)
    ∙ end_read c tasks n s.ports s.plan s.rounds ports plan few
    ∙ ap (λ ts. let made : Scenario = record { config = c; tasks = ts; ports = s.ports; plan = s.plan; rounds = s.rounds } in Ok made) same
    ∙ ap (λ c. let made : Scenario = record { config = c; tasks = s.tasks; ports = s.ports; plan = s.plan; rounds = s.rounds } in Ok made)
    (sym config)
body_of c tasks n s (t ∷ ts) ranges gives config ports plan few =
    let step = bind_is (with_given c.specs tasks (Some t)) (λ more. with_all_given c.specs more ts) s.tasks gives in
    let line : with_task_line c.specs tasks (task_text t) ≡ Some step.0 =
    ap (λ ws. with_given c.specs tasks (task_line_of ws)) (task_parts t ranges.0)
    ∙ ap (with_given c.specs tasks) (task_line_read t ranges.0) ∙ step.1 in
    rw line (body_of c step.0 (n + 1) s ts ranges.1 step.2 config ports plan few)

task_feeds : (given : List TaskLine) → AllByRecursion IsReadableLine given → (rest : List (List ℕ)) → AllByRecursion HasNoFeed rest
    → AllByRecursion HasNoFeed (map task_text given ++ rest)
task_feeds [] h rest r = r
task_feeds (t ∷ ts) h rest r = (joined_no_feed (task_words t) (no_feeds (task_words t) (task_line_plain t h.0)), task_feeds ts h.1 rest r)

no_feed_in : (s : Scenario) (given : List TaskLine) → AllByRecursion IsReadableLine given → ArePortsAbove s.config.specs 0 s.ports
    → IsPlan s.plan → s.rounds < 2 ^ 64 → AllByRecursion HasNoFeed (body_lines s given)
no_feed_in s given h ports plan few =
    task_feeds given h (closing_lines s) (ports_feeds s.config.specs 0 s.ports (ending_lines s.plan s.rounds) ports (
      joined_no_feed (plan_words s.plan) (no_feeds (plan_words s.plan) (plan_plain s.plan plan)),
      (joined_no_feed (rounds_words s.rounds) (no_feeds (rounds_words s.rounds) (rounds_plain s.rounds few)), tt),
    ))

no_head_word : (pid : Pid) (given : Given) → (process_of (given_words pid given) ≡ None) × (pool_line_of (given_words pid given) ≡ None)
unfolding process_of pool_line_of
no_head_word pid (givens.Call call) = (refl, refl)
no_head_word pid (givens.Program (kinds.Script calls)) = (refl, refl)
no_head_word pid (givens.Program (kinds.PageServer pages requests)) = (refl, refl)
no_head_word pid (givens.Program (kinds.PageClient server pages rounds)) = (refl, refl)
no_head_word pid (givens.Program (kinds.FileServer files requests)) = (refl, refl)
no_head_word pid (givens.Program (kinds.Loader server file)) = (refl, refl)
no_head_word pid (givens.Program (kinds.PipeServer requests)) = (refl, refl)
no_head_word pid (givens.Program (kinds.Group requests pairs)) = (refl, refl)
no_head_word pid (givens.Program (kinds.GroupHelper coordinator member)) = (refl, refl)

closing_begins : (specs : List ProcessSpec) (ports : List StationPort) (plan : LinkPlan) (rounds : ℕ) → ArePortsAbove specs 0 ports
    → IsPlan plan → BeginsNoHead (map port_text ports ++ ending_lines plan rounds)
unfolding process_of pool_line_of
closing_begins specs [] plan rounds are is = (ap process_of (plan_parts plan is), ap pool_line_of (plan_parts plan is))
closing_begins specs (p ∷ ps) plan rounds are is = (ap process_of (port_parts p are.0), ap pool_line_of (port_parts p are.0))

first_is_none : (s : Scenario) (given : List TaskLine) → AllByRecursion IsReadableLine given → ArePortsAbove s.config.specs 0 s.ports
    → IsPlan s.plan → BeginsNoHead (body_lines s given)
first_is_none s [] h ports plan = closing_begins s.config.specs s.ports s.plan s.rounds ports plan
first_is_none s (t ∷ ts) h ports plan =
    let word = no_head_word t.pid t.given in
    (ap process_of (task_parts t h.0) ∙ word.0, ap pool_line_of (task_parts t h.0) ∙ word.1)

back_by : (s : Scenario) (opening : List (List ℕ)) (given : List TaskLine) → IsLawfulScenario s → IsScenarioFront s.config opening →
    AllByRecursion IsReadableLine given → GiveTasks s given → scenario_of (scenario_text s opening given) ≡ Ok s
unfolding scenario_by
back_by s opening given is front ranges gives =
    let few : s.rounds < 2 ^ 64 = let least = is.rounds in omega (arith, least, few_rounds s.config.specs) in
    let body : List (List ℕ) = body_lines s given in
    let feeds = both_plain opening body
    (openings_no_feed plain_title timed_title s.config opening (title_plain plain_title refl) (title_plain timed_title refl) is.told front)
    (no_feed_in s given ranges is.ports is.plan few) in
    let lines : lines_of (scenario_text s opening given) ≡ opening ++ body = lines_back (opening ++ body) feeds in
    let found = openings_back plain_title timed_title s.config opening body refl is.told front (first_is_none s given ranges is.ports is.plan) in
    let number = line_number (opening ++ body) body in
    ap (λ ls. scenario_by ls (opened ls)) lines ∙ ap (scenario_by (opening ++ body)) found
    ∙ on_some number s.config s.config.specs body is.some
    ∙ body_of s.config (map idle s.config.specs) number s given ranges gives refl is.ports is.plan is.rounds

pub scenarios_back : ScenariosReadBack
scenarios_back = back_by
