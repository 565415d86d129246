-- Steps as words.
use Rattle.std.specs.Prelude.{ℕ, List, [], ◌∷◌, codes, bytes_eq, Option, Some, None, if◌then◌else◌}
use Rattle.vk_base.specs.declared.limits.TheConstants.{LAST_NUMBER}
use Rattle.vk_types.specs.Types.{Ending, Pid, Step}
use Rattle.vk_base.specs.Options.{◌>>=◌}
use Rattle.vk_base.specs.declared.answer.Ending.TheVariants as endings
use Rattle.vk_base.specs.declared.step.Step.TheVariants as steps
use Rattle.vk_text.specs.Calls.{first_as, ended, call_of}
use Rattle.vk_text.specs.Words.{positive_of, count_of, pid_of}

-- the number of a Send, a move or a lookup: 1 to 2^63 - 1
abbrev pub ordinal_of : List ℕ → Option ℕ
ordinal_of word = positive_of LAST_NUMBER word

-- how a Send fails
abbrev pub failure_of : List ℕ → Option Ending
failure_of word =
    if bytes_eq word (codes "noprocess") then Some endings.NoProcess
    else if bytes_eq word (codes "timedout") then Some endings.TimedOut
    else None

-- how a move ends
abbrev pub ending_of : List ℕ → Option Ending
ending_of word =
    if bytes_eq word (codes "ok") then Some endings.Ok
    else if bytes_eq word (codes "timedout") then Some endings.TimedOut
    else if bytes_eq word (codes "gone") then Some endings.Gone
    else None

-- what the word spells, where it is the last
abbrev pub last_as : {A : Type 0} → (List ℕ → Option A) → List (List ℕ) → Option A
last_as spelled ws = first_as spelled ws >>= λ (a, ws). ended ws a

-- `PID CALLTEXT`
unfoldable pub call_step_of : List (List ℕ) → Option Step
call_step_of ws = first_as pid_of ws >>= λ (pid, ws). call_of ws >>= λ call. Some (steps.Call pid call)

-- a step of `PID`
unfoldable pub pid_step_of : (Pid → Step) → List (List ℕ) → Option Step
pid_step_of make ws = last_as pid_of ws >>= λ pid. Some (make pid)

-- `SENDER NUMBER`
unfoldable pub arrive_of : List (List ℕ) → Option Step
arrive_of ws = first_as pid_of ws >>= λ (sender, ws). last_as ordinal_of ws >>= λ number. Some (steps.Arrive sender number)

-- `PID FAILURE`
unfoldable pub fail_of : List (List ℕ) → Option Step
fail_of ws = first_as pid_of ws >>= λ (pid, ws). last_as failure_of ws >>= λ why. Some (steps.Fail pid why)

-- `SENDER NUMBER MOVE`
unfoldable pub open_of : List (List ℕ) → Option Step
open_of ws =
    first_as pid_of ws >>= λ (sender, ws). first_as ordinal_of ws >>= λ (number, ws).
    last_as ordinal_of ws >>= λ moving. Some (steps.OpenMove sender number moving)

-- `SENDER NUMBER MOVE OFFSET COUNT`
unfoldable pub copy_of : List (List ℕ) → Option Step
copy_of ws =
    first_as pid_of ws >>= λ (sender, ws). first_as ordinal_of ws >>= λ (number, ws).
    first_as ordinal_of ws >>= λ (moving, ws). first_as count_of ws >>= λ (offset, ws).
    last_as count_of ws >>= λ count. Some (steps.Copy sender number moving offset count)

-- `PID ENDING`
unfoldable pub end_of : List (List ℕ) → Option Step
end_of ws = first_as pid_of ws >>= λ (pid, ws). last_as ending_of ws >>= λ why. Some (steps.End pid why)

-- `ASKER LOOKUP PID`
unfoldable pub hear_of : List (List ℕ) → Option Step
hear_of ws =
    first_as pid_of ws >>= λ (asker, ws). first_as ordinal_of ws >>= λ (number, ws).
    last_as pid_of ws >>= λ pid. Some (steps.Hear asker number pid)

-- `ASKER PID`
unfoldable pub found_of : List (List ℕ) → Option Step
found_of ws = first_as pid_of ws >>= λ (asker, ws). last_as pid_of ws >>= λ pid. Some (steps.Found asker pid)

-- the step that these words spell
abbrev pub step_of : List (List ℕ) → Option Step
step_of [] = None
step_of (w ∷ ws) =
    if bytes_eq w (codes "call") then call_step_of ws
    else if bytes_eq w (codes "arrive") then arrive_of ws
    else if bytes_eq w (codes "take") then pid_step_of steps.Take ws
    else if bytes_eq w (codes "finish") then pid_step_of steps.Finish ws
    else if bytes_eq w (codes "fail") then fail_of ws
    else if bytes_eq w (codes "open") then open_of ws
    else if bytes_eq w (codes "copy") then copy_of ws
    else if bytes_eq w (codes "end") then end_of ws
    else if bytes_eq w (codes "hear") then hear_of ws
    else if bytes_eq w (codes "found") then found_of ws
    else if bytes_eq w (codes "lost") then pid_step_of steps.Lost ws
    else if bytes_eq w (codes "collect") then pid_step_of steps.Collect ws
    else None
