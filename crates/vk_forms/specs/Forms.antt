-- The forms of each text, row by row: a line whose words stand for themselves, or, in upper case, for words of a kind.
use Rattle.std.specs.Prelude.{ℕ, List, [], ◌∷◌, ◌++◌, map, codes}
use Rattle.vk_forms.specs.declared.table.TextKind.{TextKind}
use Rattle.vk_forms.specs.declared.table.TextKind.TheVariants as texts

-- what stands behind `call PID`, or behind `do PID` in a scenario
abbrev pub calls : List (List ℕ)
calls =
    codes "send PID MESSAGE" ∷
    codes "receive" ∷
    codes "receivesegment COUNT COUNT" ∷
    codes "reply MESSAGE PID" ∷
    codes "replysegment MESSAGE PID COUNT COUNT COUNT" ∷
    codes "forward MESSAGE PID PID" ∷
    codes "moveto PID COUNT COUNT COUNT" ∷
    codes "movefrom PID COUNT COUNT COUNT" ∷
    codes "setpid COUNT PID local" ∷
    codes "setpid COUNT PID remote" ∷
    codes "setpid COUNT PID both" ∷
    codes "getpid COUNT local" ∷
    codes "getpid COUNT remote" ∷
    codes "getpid COUNT both" ∷
    codes "load COUNT COUNT" ∷
    codes "store COUNT BYTES" ∷
    codes "exit" ∷
    []

abbrev pub schedule_opening : List (List ℕ)
schedule_opening =
    codes "vkernel 1" ∷
    codes "vkernel 2" ∷
    codes "times TRIES INTERVAL LIFE" ∷
    codes "process PID SIZE" ∷
    codes "pool HOST POOL" ∷
    []

abbrev pub scenario_opening : List (List ℕ)
scenario_opening =
    codes "vkernel scenario 1" ∷
    codes "vkernel scenario 2" ∷
    codes "times TRIES INTERVAL LIFE" ∷
    codes "process PID SIZE" ∷
    codes "pool HOST POOL" ∷
    []

abbrev pub trace_opening : List (List ℕ)
trace_opening =
    codes "vkernel trace 1" ∷
    codes "process PID SIZE" ∷
    []

abbrev pub observed_opening : List (List ℕ)
observed_opening =
    codes "vkernel observed 1" ∷
    codes "process PID SIZE" ∷
    []

abbrev pub nodes_opening : List (List ℕ)
nodes_opening =
    codes "vkernel node 1" ∷
    codes "times TRIES INTERVAL LIFE" ∷
    codes "process PID SIZE" ∷
    codes "pool HOST POOL" ∷
    codes "station HOST" ∷
    []

abbrev pub schedule_body : List (List ℕ)
schedule_body =
    codes "collect PROCESS" ∷
    codes "tick HOST" ∷
    codes "deliver HOST HOST NUMBER OUTPUT" ∷
    []

abbrev pub scenario_body : List (List ℕ)
scenario_body =
    codes "program PROCESS pageserver PAGES COUNT" ∷
    codes "program PROCESS pageclient PID PAGES COUNT" ∷
    codes "program PROCESS fileserver FILES COUNT" ∷
    codes "program PROCESS loader PID FILE" ∷
    codes "program PROCESS pipeserver COUNT" ∷
    codes "program PROCESS grouphelper PID PID" ∷
    codes "port HOST PORT" ∷
    codes "link BYTE BYTE BYTE SEED" ∷
    codes "ticks ROUNDS" ∷
    []

abbrev pub steps : List (List ℕ)
steps =
    codes "arrive PID NUMBER" ∷
    codes "take PID" ∷
    codes "finish PID" ∷
    codes "fail PID noprocess" ∷
    codes "fail PID timedout" ∷
    codes "open PID NUMBER NUMBER" ∷
    codes "copy PID NUMBER NUMBER COUNT COUNT" ∷
    codes "end PID ok" ∷
    codes "end PID timedout" ∷
    codes "end PID gone" ∷
    codes "hear PID NUMBER PID" ∷
    codes "found PID PID" ∷
    codes "lost PID" ∷
    codes "collect PROCESS" ∷
    []

abbrev pub nodes_body : List (List ℕ)
nodes_body =
    codes "collect PROCESS" ∷
    codes "tick" ∷
    codes "frame FRAME" ∷
    []

-- what is given to see
abbrev pub answers : List (List ℕ)
answers =
    codes "ok" ∷
    codes "ok BYTES" ∷
    codes "ok MESSAGE" ∷
    codes "ok PID" ∷
    codes "ok PID MESSAGE" ∷
    codes "ok PID MESSAGE COUNT" ∷
    codes "noprocess" ∷
    codes "timedout" ∷
    codes "badsegment" ∷
    codes "notawaiting" ∷
    codes "noaccess" ∷
    codes "badrange" ∷
    codes "toolong" ∷
    codes "gone" ∷
    codes "notfound" ∷
    codes "namesfull" ∷
    codes "busy" ∷
    codes "notyet" ∷
    codes "dead" ∷
    []

-- one pair more in front of each of these rows
abbrev pub with_pair : List (List ℕ) → List (List ℕ)
with_pair rows = codes "PID PID" ∷ map (λ row. codes "PID PID " ++ row) rows

-- the pairs of a group, 1 to 16
abbrev pub pairs : List (List ℕ)
pairs =
    with_pair (with_pair (with_pair (with_pair (with_pair (with_pair (with_pair (with_pair
    (with_pair (with_pair (with_pair (with_pair (with_pair (with_pair (with_pair (with_pair [])))))))))))))))

abbrev pub opening_rows : TextKind → List (List ℕ)
opening_rows texts.Schedule = schedule_opening
opening_rows texts.Scenario = scenario_opening
opening_rows texts.Trace = trace_opening
opening_rows texts.Observed = observed_opening
opening_rows texts.Nodes = nodes_opening

abbrev pub call_front : TextKind → List ℕ
call_front texts.Scenario = codes "do PROCESS"
call_front texts.Schedule = codes "call PROCESS"
call_front texts.Trace = codes "call PROCESS"
call_front texts.Observed = codes "call PROCESS"
call_front texts.Nodes = codes "call PROCESS"

-- what no other text has: the pairs of a group, and answers
abbrev pub extra_front : TextKind → List ℕ
extra_front texts.Scenario = codes "program PROCESS group COUNT"
extra_front texts.Observed = codes "saw"
extra_front texts.Schedule = []
extra_front texts.Trace = []
extra_front texts.Nodes = []

abbrev pub extra_rows : TextKind → List (List ℕ)
extra_rows texts.Scenario = pairs
extra_rows texts.Observed = answers
extra_rows texts.Schedule = []
extra_rows texts.Trace = []
extra_rows texts.Nodes = []

abbrev pub body_rows : TextKind → List (List ℕ)
body_rows texts.Schedule = schedule_body
body_rows texts.Scenario = scenario_body
body_rows texts.Trace = steps
body_rows texts.Observed = steps
body_rows texts.Nodes = nodes_body

-- A form: words that come first, and a row.
pub record Form : Type 0 where
  pub front : List ℕ
  pub row : List ℕ

-- each of these rows behind these words
abbrev pub behind : List ℕ → List (List ℕ) → List Form
behind front rows = map (λ row. record { front = front; row = row }) rows

-- the forms of the lines of the text
abbrev pub forms_of : TextKind → List Form
forms_of text =
    behind [] (opening_rows text) ++ behind (call_front text) calls
    ++ behind (extra_front text) (extra_rows text) ++ behind [] (body_rows text)
