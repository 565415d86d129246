-- Places of a list of steps, counted from 0, and what happens there in the run from the initial kernel.
use Rattle.std.specs.Prelude.{ℕ, ◌≡◌, ◌+◌, ◌<◌, Bool, true, false, ◌&&◌, List, [], take, slice_get, Option, Some, None, is_none, option_map}
use Rattle.vk_types.specs.Types.{Call, Message, Name, Observation, Pid, Process, ProcessSpec, Step}
use Rattle.vk_base.specs.declared.answer.Answer.TheVariants as answers
use Rattle.vk_base.specs.declared.call.Call.TheVariants as calls
use Rattle.vk_base.specs.declared.kernel.State.TheVariants as states
use Rattle.vk_base.specs.declared.step.Step.TheVariants as steps
use Rattle.vk_base.specs.Calls.{Effect, call_refusal}
use Rattle.vk_base.specs.Kernel.{◌>>=◌, Kernel, initial_kernel, name_of, holds_of, held}
use Rattle.vk_base.specs.Pids.{same_host}
use Rattle.vk_base.specs.Ranges.{range_of, bytes_in, with_bytes}
use Rattle.vk_base.specs.Steps.{Run, Taking, effect, only_if, run, taking}
use Rattle.v_laws.specs.Reached.{saw}

-- the kernel before the step at this place
abbrev pub before : List ProcessSpec → List Step → ℕ → Option Kernel
before specs ss i = option_map (λ (r : Run). r.after) (run (initial_kernel specs) (take i ss))

-- what the step at this place does
abbrev pub effect_at : List ProcessSpec → List Step → ℕ → Option Effect
effect_at specs ss i = do
  k ← before specs ss i
  s ← slice_get ss i
  effect k s

-- what is seen of it
abbrev pub seen_at : List ProcessSpec → List Step → ℕ → Option Observation
seen_at specs ss i = effect_at specs ss i >>= λ e. e.seen

-- a process before it, and after it
abbrev pub process_at : List ProcessSpec → List Step → ℕ → Pid → Option Process
process_at specs ss i pid = before specs ss i >>= λ k. k.procs pid

abbrev pub process_after : List ProcessSpec → List Step → ℕ → Pid → Option Process
process_after specs ss i pid = effect_at specs ss i >>= λ e. e.after.procs pid

-- the exchange that a step takes, where it is a Take
abbrev pub taken_by : Kernel → Step → Option Name
taken_by k (steps.Take r) = option_map (λ (t : Taking). t.name) (taking k r)
taken_by k s = None

-- the exchange that is taken at this place
abbrev pub taken_at : List ProcessSpec → List Step → ℕ → Option Name
taken_at specs ss i = do
  k ← before specs ss i
  s ← slice_get ss i
  taken_by k s

-- the exchange whose message a step brings to a queue: one that arrives, the new one of a local Send, or the one that a Forward
-- hands on, where that is not refused
abbrev pub brought_by : Kernel → Step → Option Name
brought_by k (steps.Arrive sender number) = Some (name_of sender number)
brought_by k (steps.Call pid (calls.Send target m)) =
    k.procs pid >>= λ p. only_if (same_host pid target && is_none (call_refusal k pid p (calls.Send target m)))
    (Some (name_of pid (p.sends + 1)))
brought_by k (steps.Call pid (calls.Forward m from to)) = do
  p ← k.procs pid
  number ← held k pid from
  only_if (is_none (call_refusal k pid p (calls.Forward m from to))) (Some (name_of from number))
brought_by k s = None

-- the exchange whose message comes to a queue at this place
abbrev pub brought_at : List ProcessSpec → List Step → ℕ → Option Name
brought_at specs ss i = do
  k ← before specs ss i
  s ← slice_get ss i
  brought_by k s

-- What a process replies by a call: to whom, with which message, and the place and the bytes for that process's memory,
-- which are the caller's as they are at the call.
abbrev pub given_by : Process → Call → Option (Pid × Message × ℕ × List ℕ)
given_by p (calls.Reply m to) = Some (to, m, 0, [])
given_by p (calls.ReplySegment m to dest src count) = Some (to, m, dest, bytes_in (range_of src count) p.memory)
given_by p c = None

-- At this place a process replies to the message of this number that it holds of s, with this message and these bytes, and is
-- answered ok.
pub record IsReplyAt (specs : List ProcessSpec) (ss : List Step) (i : ℕ) (s holder : Pid) (number : ℕ) (reply : Message) (dest : ℕ)
    (bytes : List ℕ) : Type 0 where
  pub holds : (before specs ss i >>= λ k. held k holder s) ≡ Some number
  pub call : Call
  pub is : slice_get ss i ≡ Some (steps.Call holder call)
  pub answered : seen_at specs ss i ≡ saw holder call answers.Ok
  pub caller : Process
  pub then : process_at specs ss i holder ≡ Some caller
  pub gives : given_by caller call ≡ Some (s, reply, dest, bytes)

-- At this place the Send of this number is over for s, with this reply, and these bytes are in its memory.
pub record IsFinishAt (specs : List ProcessSpec) (ss : List Step) (i : ℕ) (s target : Pid) (number : ℕ) (reply : Message) (dest : ℕ)
    (bytes : List ℕ) : Type 0 where
  pub process : Process
  pub before : process_at specs ss i s ≡ Some process
  pub message : Message
  pub waits : process.state ≡ states.Blocked (calls.Send target message)
  pub last : process.sends ≡ number
  pub after : process_after specs ss i s ≡ Some
      (record process {
        memory = with_bytes process.memory dest bytes;
        state = states.Done (calls.Send target message)
            (answers.Replied reply);
      })

-- What s gets at this place is the reply to its own message: a process of its target's station, the target itself unless the
-- message was forwarded, took that message before, replied to it between the two places, and gave just what s gets.
pub record HasOwnReply (specs : List ProcessSpec) (ss : List Step) (i : ℕ) (s : Pid) : Type 0 where
  pub target : Pid
  pub holder : Pid
  pub near : same_host target holder ≡ true
  pub number : ℕ
  pub reply : Message
  pub dest : ℕ
  pub bytes : List ℕ
  pub finish : IsFinishAt specs ss i s target number reply dest bytes
  pub reply_place : ℕ
  pub before_finish : reply_place < i
  pub replies : IsReplyAt specs ss reply_place s holder number reply dest bytes
  pub take_place : ℕ
  pub before_reply : take_place < reply_place
  pub receives : slice_get ss take_place ≡ Some (steps.Take holder)
  pub takes : taken_at specs ss take_place ≡ Some (name_of s number)

-- a message is brought to a queue at an earlier place, and at none from there on
pub record IsBroughtBefore (specs : List ProcessSpec) (ss : List Step) (j : ℕ) (n : Name) : Type 0 where
  pub place : ℕ
  pub earlier : place < j
  pub brought : brought_at specs ss place ≡ Some n
  pub last : (a : ℕ) → place < a → a < j → brought_at specs ss a ≡ Some n → ⊥

-- at a place between these two the process that holds the message hands it on, and is answered ok
pub record IsForwardedBetween (specs : List ProcessSpec) (ss : List Step) (i j : ℕ) (n : Name) : Type 0 where
  pub place : ℕ
  pub behind : i < place
  pub earlier : place < j
  pub holder : Pid
  pub holds : (before specs ss place >>= λ k. held k holder n.sender) ≡ Some n.number
  pub message : Message
  pub to : Pid
  pub is : slice_get ss place ≡ Some (steps.Call holder (calls.Forward message n.sender to))
  pub answered : seen_at specs ss place ≡ saw holder (calls.Forward message n.sender to) answers.Ok

-- the step at this place is a Forward
abbrev pub is_forward : Step → Bool
is_forward (steps.Call pid (calls.Forward m from to)) = true
is_forward s = false

abbrev pub is_forward_at : List Step → ℕ → Bool
is_forward_at ss i = holds_of is_forward (slice_get ss i)
