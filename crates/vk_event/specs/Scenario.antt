-- The scenario of a text.
use Rattle.std.specs.Prelude.{ℕ, ◌+◌, ◌/◌, List, [], ◌∷◌, length, map, codes, Result, Ok, Err}
use Rattle.std.specs.Option.{option_map_or}
use Rattle.vk_types.specs.Types.{ProcessSpec}
use Rattle.vk_base.specs.Settings.{Settings, stations_of}
use Rattle.vk_text.specs.Lines.{lines_of}
use Rattle.vk_text.specs.Openings.{HasProcesses, line_number, opening_of}
use Rattle.vk_event.specs.declared.port.StationPort.{StationPort}
use Rattle.vk_event.specs.declared.scenario.Ending.{Ending}
use Rattle.vk_event.specs.declared.scenario.Scenario.{Scenario}
use Rattle.vk_event.specs.declared.scenario.TheConstants.{TICKS}
use Rattle.vk_schedule.specs.declared.schedule.TextRefusal.{TextRefusal}
use Rattle.vk_schedule.specs.declared.schedule.TextRefusal.TheVariants as refusals
use Rattle.vk_event.specs.declared.task.Task.{Task}
use Rattle.vk_event.specs.declared.task.TaskKind.TheVariants as kinds
use Rattle.vk_event.specs.Endings.{ending_from}
use Rattle.vk_event.specs.Ports.{ports_from}
use Rattle.vk_event.specs.Tasks.{with_task_line}

-- a process that is given nothing has the script of no calls
abbrev pub idle : ProcessSpec → Task
idle s = record { pid = s.pid; kind = kinds.Script [] }

-- each round ticks every station once
abbrev pub most_rounds : List ProcessSpec → ℕ
most_rounds specs = TICKS / length (stations_of specs)

-- the scenario of these tasks and ports, and of what the last two lines tell
abbrev pub scenario_with : Settings → List Task → List StationPort → Result Ending ℕ → Result Scenario TextRefusal
scenario_with c tasks ports (Ok e) = Ok (record { config = c; tasks = tasks; ports = ports; plan = e.plan; rounds = e.rounds })
scenario_with c tasks ports (Err n) = Err (refusals.BadInput n)

-- the scenario of these tasks, of the ports that the lines from line n on tell, and of the last two lines behind theirs
abbrev pub scenario_by_ports : Settings → List Task → ℕ → List StationPort × List (List ℕ) → Result Scenario TextRefusal
scenario_by_ports c tasks n found = scenario_with c tasks found.0 (ending_from (most_rounds c.specs) (n + length found.0) found.1)

abbrev pub scenario_end : Settings → List Task → ℕ → List (List ℕ) → Result Scenario TextRefusal
scenario_end c tasks n lines = scenario_by_ports c tasks n (ports_from c.specs 0 lines)

-- the scenario of this configuration and of these tasks, and of the lines from line n on
unfoldable pub scenario_from : Settings → List Task → ℕ → List (List ℕ) → Result Scenario TextRefusal
scenario_from c tasks n [] = Err (refusals.BadInput n)
scenario_from c tasks n (l ∷ ls) =
    option_map_or (λ more. scenario_from c more (n + 1) ls) (with_task_line c.specs tasks l) (scenario_end c tasks n (l ∷ ls))

-- there is at least one process, else the line behind the opening is bad
unfoldable pub scenario_on : ℕ → Settings → List ProcessSpec → List (List ℕ) → Result Scenario TextRefusal
scenario_on n c [] body = Err (refusals.BadInput n)
scenario_on n c (s ∷ ss) body = scenario_from c (map idle (s ∷ ss)) n body

unfoldable pub scenario_by : List (List ℕ) → Result (Settings × List (List ℕ)) ℕ → Result Scenario TextRefusal
scenario_by lines (Err n) = Err (refusals.BadInput n)
scenario_by lines (Ok found) = scenario_on (line_number lines found.1) found.0 found.0.specs found.1

-- the titles of the two formats
abbrev pub plain_title : List ℕ
plain_title = codes "vkernel scenario 1"

abbrev pub timed_title : List ℕ
timed_title = codes "vkernel scenario 2"

abbrev pub opened : List (List ℕ) → Result (Settings × List (List ℕ)) ℕ
opened lines = opening_of plain_title timed_title lines

-- the scenario that the text spells, or the first bad line
abbrev pub scenario_of : List ℕ → Result Scenario TextRefusal
scenario_of text = scenario_by (lines_of text) (opened (lines_of text))

-- the text opens with a process
abbrev pub HasScenarioProcess : List ℕ → Type 0
HasScenarioProcess text = HasProcesses (opened (lines_of text))
