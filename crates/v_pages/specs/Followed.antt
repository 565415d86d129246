-- What it is to follow a task: in a list of steps, each call of the process is the task's next one.
use Rattle.std.specs.Prelude.{ℕ, zero, suc, ◌≡◌, List, [], ◌++◌, length, slice_get, Option, Some, None, option_to_list}
use Rattle.vk_types.specs.Types.{Answer, Call, Observation, Pid, ProcessSpec, Step}
use Rattle.vk_base.specs.declared.step.Step.TheVariants as steps
use Rattle.vk_base.specs.Kernel.{◌>>=◌}
use Rattle.vk_base.specs.Pids.{same_pid}
use Rattle.vk_base.specs.Steps.{only_if}
use Rattle.v_laws.specs.Places.{seen_at}

-- what there is at the places before this one, in order
unfoldable pub up_to : {A : Type 0} → (ℕ → Option A) → ℕ → List A
up_to at zero = []
up_to at (suc i) = up_to at i ++ option_to_list (at i)

-- the call that a process makes by a step, and the one that it makes at a place
abbrev pub call_by : Pid → Step → Option Call
call_by r (steps.Call pid c) = only_if (same_pid pid r) (Some c)
call_by r s = None

abbrev pub call_at : List Step → Pid → ℕ → Option Call
call_at ss r i = slice_get ss i >>= call_by r

-- the answer that a process gets by what is seen, and the one that it gets at a place
abbrev pub answer_in : Pid → Observation → Option Answer
answer_in r o = only_if (same_pid o.pid r) (Some o.answer)

abbrev pub answer_at : List ProcessSpec → List Step → Pid → ℕ → Option Answer
answer_at specs ss r i = seen_at specs ss i >>= answer_in r

-- the calls that it made before a place, and the answers that it got
abbrev pub calls_before : List Step → Pid → ℕ → List Call
calls_before ss r i = up_to (call_at ss r) i

abbrev pub answers_before : List ProcessSpec → List Step → Pid → ℕ → List Answer
answers_before specs ss r i = up_to (answer_at specs ss r) i

-- After these calls and these answers this call is the next of a task: each call before was answered, and the task says it.
pub record IsNextCall (task : List Answer → Option Call) (earlier : List Call) (answers : List Answer) (c : Call) : Type 0 where
  pub answered : length answers ≡ length earlier
  pub told : task answers ≡ Some c

-- the process follows a task: each call that it makes is the task's next one
abbrev pub FollowsTask : (List Answer → Option Call) → List ProcessSpec → List Step → Pid → Type 0
FollowsTask task specs ss r =
    (i : ℕ) (c : Call) → call_at ss r i ≡ Some c → IsNextCall task (calls_before ss r i) (answers_before specs ss r i) c
