-- What lines give to processes.
use Rattle.std.specs.Prelude.{ℕ, ◌*◌, ◌-◌, ◌&&◌, nat_le, Bool, true, false, List, [], ◌∷◌, ◌++◌, codes, bytes_eq, Option, Some, None, option_map, if◌then◌else◌}
use Rattle.std.specs.List.{list_any}
use Rattle.vk_types.specs.Types.{Pid, ProcessSpec}
use Rattle.vk_base.specs.Options.{◌>>=◌}
use Rattle.vk_base.specs.Pids.{same_pid}
use Rattle.vk_base.specs.Settings.{is_process}
use Rattle.vk_text.specs.Calls.{first_as, ended, call_of}
use Rattle.vk_text.specs.Lines.{words_from}
use Rattle.vk_base.specs.declared.limits.TheConstants.{MESSAGE_BYTES, SEGMENT_BYTES}
use Rattle.vk_text.specs.Words.{count_of, number_of, positive_of, pid_of}
use Rattle.vk_event.specs.Pairs.{are_pairs}
use Rattle.vk_event.specs.declared.pair.HelperPair.{HelperPair}
use Rattle.vk_event.specs.declared.task.Given.{Given}
use Rattle.vk_event.specs.declared.task.Given.TheVariants as givens
use Rattle.vk_event.specs.declared.task.Task.{Task}
use Rattle.vk_event.specs.declared.task.TaskKind.{TaskKind}
use Rattle.vk_event.specs.declared.task.TaskKind.TheVariants as kinds
use Rattle.vk_event.specs.declared.task.TheConstants.{FILES, IMAGE_BYTES, PAGES, PAGE_BYTES}
use Rattle.vk_event.specs.declared.task_line.TaskLine.{TaskLine}

-- no line has given it anything yet
abbrev pub is_idle : TaskKind → Bool
is_idle (kinds.Script []) = true
is_idle (kinds.Script (c ∷ cs)) = false
is_idle (kinds.PageServer pages requests) = false
is_idle (kinds.PageClient server pages rounds) = false
is_idle (kinds.FileServer files requests) = false
is_idle (kinds.Loader server file) = false
is_idle (kinds.PipeServer requests) = false
is_idle (kinds.Group requests pairs) = false
is_idle (kinds.GroupHelper coordinator member) = false

-- a call stands behind those of a script; a program is given to a process that has nothing yet
abbrev pub given_kind : Given → TaskKind → Option TaskKind
given_kind (givens.Call call) (kinds.Script calls) = Some (kinds.Script (calls ++ call ∷ []))
given_kind (givens.Call call) (kinds.PageServer pages requests) = None
given_kind (givens.Call call) (kinds.PageClient server pages rounds) = None
given_kind (givens.Call call) (kinds.FileServer files requests) = None
given_kind (givens.Call call) (kinds.Loader server file) = None
given_kind (givens.Call call) (kinds.PipeServer requests) = None
given_kind (givens.Call call) (kinds.Group requests pairs) = None
given_kind (givens.Call call) (kinds.GroupHelper coordinator member) = None
given_kind (givens.Program program) kind = if is_idle kind then Some program else None

-- bytes of memory that a process of this program needs
abbrev pub memory_of : TaskKind → ℕ
memory_of (kinds.Script calls) = 0
memory_of (kinds.PageServer pages requests) = PAGE_BYTES
memory_of (kinds.PageClient server pages rounds) = 2 * PAGE_BYTES
memory_of (kinds.FileServer files requests) = IMAGE_BYTES
memory_of (kinds.Loader server file) = IMAGE_BYTES
memory_of (kinds.PipeServer requests) = SEGMENT_BYTES
memory_of (kinds.Group requests pairs) = SEGMENT_BYTES
memory_of (kinds.GroupHelper coordinator member) = MESSAGE_BYTES

abbrev pub memory_for : Given → ℕ
memory_for (givens.Call call) = 0
memory_for (givens.Program kind) = memory_of kind

-- there is this process, and it has so many bytes of memory
abbrev pub has_memory : List ProcessSpec → Pid → ℕ → Bool
has_memory specs pid bytes = list_any (λ s. is_process pid s && nat_le bytes s.size) specs

-- the tasks, where the process has this too; there are none where it may not have it
abbrev pub given_to : Pid → Given → List Task → Option (List Task)
given_to pid given [] = None
given_to pid given (t ∷ ts) =
    if same_pid t.pid pid then option_map (λ kind. record t { kind = kind } ∷ ts) (given_kind given t.kind)
    else option_map (λ more. t ∷ more) (given_to pid given ts)

-- `PID CALLTEXT`
unfoldable pub do_of : List (List ℕ) → Option TaskLine
do_of ws = first_as pid_of ws >>= λ (pid, ws). call_of ws >>= λ call. Some (record { pid = pid; given = givens.Call call })

-- `PAGES REQUESTS`
unfoldable pub server_of : List (List ℕ) → Option TaskKind
server_of ws =
    first_as (positive_of PAGES) ws >>= λ (pages, ws). first_as count_of ws >>= λ (requests, ws). ended ws (kinds.PageServer pages requests)

-- `SERVER PAGES ROUNDS`
unfoldable pub client_of : List (List ℕ) → Option TaskKind
client_of ws =
    first_as pid_of ws >>= λ (server, ws). first_as (positive_of PAGES) ws >>= λ (pages, ws).
    first_as count_of ws >>= λ (rounds, ws). ended ws (kinds.PageClient server pages rounds)

-- `FILES REQUESTS`
unfoldable pub file_server_of : List (List ℕ) → Option TaskKind
file_server_of ws =
    first_as (positive_of FILES) ws >>= λ (files, ws). first_as count_of ws >>= λ (requests, ws). ended ws (kinds.FileServer files requests)

-- `SERVER I`
unfoldable pub loader_of : List (List ℕ) → Option TaskKind
loader_of ws = first_as pid_of ws >>= λ (server, ws). first_as (number_of (FILES - 1)) ws
    >>= λ (file, ws). ended ws (kinds.Loader server file)

-- `REQUESTS`
unfoldable pub pipe_server_of : List (List ℕ) → Option TaskKind
pipe_server_of ws = first_as count_of ws >>= λ (requests, ws). ended ws (kinds.PipeServer requests)

-- `HELPER MEMBER`
unfoldable pub pair_of : List (List ℕ) → Option (HelperPair × List (List ℕ))
pair_of ws =
    first_as pid_of ws >>= λ (helper, ws). first_as pid_of ws >>= λ (member, ws). Some (record { helper = helper; member = member }, ws)

-- pairs up to the line's end
unfoldable pub pairs_of : List (List ℕ) → Option (List HelperPair)
pairs_of [] = Some []
pairs_of (h ∷ []) = None
pairs_of (h ∷ m ∷ ws) =
    pid_of h >>= λ helper. pid_of m >>= λ member. pairs_of ws >>= λ more. Some (record { helper = helper; member = member } ∷ more)

-- the program of these pairs, where they make a group
abbrev pub if_group : ℕ → List HelperPair → Option TaskKind
if_group requests pairs = if are_pairs pairs then Some (kinds.Group requests pairs) else None

-- `REQUESTS HELPER MEMBER ..`
unfoldable pub group_of : List (List ℕ) → Option TaskKind
group_of ws = first_as count_of ws >>= λ (requests, ws). pairs_of ws >>= if_group requests

-- `COORDINATOR MEMBER`
unfoldable pub group_helper_of : List (List ℕ) → Option TaskKind
group_helper_of ws =
    first_as pid_of ws >>= λ (coordinator, ws). first_as pid_of ws >>= λ (member, ws). ended ws (kinds.GroupHelper coordinator member)

-- the name of a program and what it is to do
unfoldable pub kind_of : List (List ℕ) → Option TaskKind
kind_of [] = None
kind_of (w ∷ ws) =
    if bytes_eq w (codes "pageserver") then server_of ws
    else if bytes_eq w (codes "pageclient") then client_of ws
    else if bytes_eq w (codes "fileserver") then file_server_of ws
    else if bytes_eq w (codes "loader") then loader_of ws
    else if bytes_eq w (codes "pipeserver") then pipe_server_of ws
    else if bytes_eq w (codes "group") then group_of ws
    else if bytes_eq w (codes "grouphelper") then group_helper_of ws
    else None

-- `PID PROGRAM`
unfoldable pub program_of : List (List ℕ) → Option TaskLine
program_of ws = first_as pid_of ws >>= λ (pid, ws). kind_of ws >>= λ kind. Some (record { pid = pid; given = givens.Program kind })

-- what these words give to a process
unfoldable pub task_line_of : List (List ℕ) → Option TaskLine
task_line_of [] = None
task_line_of (w ∷ ws) =
    if bytes_eq w (codes "do") then do_of ws
    else if bytes_eq w (codes "program") then program_of ws
    else None

-- the tasks with what this line gives, where its process is there, has the memory for it, and may have it
abbrev pub with_given : List ProcessSpec → List Task → Option TaskLine → Option (List Task)
with_given specs tasks None = None
with_given specs tasks (Some t) = if has_memory specs t.pid (memory_for t.given) then given_to t.pid t.given tasks else None

abbrev pub with_task_line : List ProcessSpec → List Task → List ℕ → Option (List Task)
with_task_line specs tasks line = with_given specs tasks (task_line_of (words_from line 0))
