-- What a step of a machine answers.
use Rattle.std.specs.Prelude.{ℕ, ◌≡◌, ◌+◌, ◌≤◌, ◌<◌, Bool, false, is_none, Option, Some, None, IsSome, Result, Ok, Err, if◌then◌else◌}
use Rattle.vk_types.specs.Types.{Call, Direction, Move, Observation, Step}
use Rattle.vk_base.specs.declared.call.Call.TheVariants as calls
use Rattle.vk_base.specs.declared.kernel.Direction.TheVariants as directions
use Rattle.vk_base.specs.declared.limits.TheConstants.{NOTED_BYTES}
use Rattle.vk_base.specs.declared.step.Step.TheVariants as steps
use Rattle.vk_base.specs.Calls.{Effect, call_step}
use Rattle.vk_base.specs.Kernel.{◌>>=◌, Kernel, name_of, move_of}
use Rattle.vk_base.specs.Steps.{effect}
use Rattle.v_machine.specs.declared.refusal.ApplyRefusal.{ApplyRefusal}
use Rattle.v_machine.specs.declared.refusal.ApplyRefusal.TheVariants.{NotAllowed, Limit, NoMemory}
use Rattle.v_machine.specs.Tables.{Tables, kernel_of}

-- Bytes that a step notes for a remote move: a MoveTo that is begun those of its caller, a MoveFrom that is opened those of
-- the sender. No step lowers what was noted.
abbrev pub is_begun : Option Effect → Bool
is_begun None = false
is_begun (Some e) = is_none e.seen

abbrev pub noted_at_opening : Option Move → ℕ
noted_at_opening None = 0
noted_at_opening (Some m) = noted_by m.direction m.count
  where
    noted_by : Direction → ℕ → ℕ
    noted_by directions.To count = 0
    noted_by directions.From count = count

-- what a call notes that does this
abbrev pub noted_by_call : Call → Option Effect → ℕ
noted_by_call (calls.MoveTo partner dest src count) o = if is_begun o then count else 0
noted_by_call c o = 0

abbrev pub notes : Kernel → Step → ℕ
notes k (steps.Call pid c) = noted_by_call c (call_step k pid c)
notes k (steps.OpenMove sender number moving) = noted_at_opening (k.exchanges (name_of sender number) >>= λ e. move_of e moving)
notes k s = 0

-- the most bytes that a machine notes
abbrev pub most : ℕ
most = NOTED_BYTES

-- when each refusal comes, of a step to a kernel in which so many bytes were noted
abbrev pub IsRefused : Kernel → ℕ → Step → ApplyRefusal → Type 0
IsRefused k noted s NotAllowed = effect k s ≡ None
IsRefused k noted s Limit = IsSome (effect k s) × (most < noted + notes k s)
IsRefused k noted s NoMemory = IsSome (effect k s) × (noted + notes k s ≤ most)

-- What applying a step gives: what is seen of it; or that it is not allowed, that too many bytes would be noted, or that
-- memory is wanting, and then all stays as it was.
abbrev pub Applied : Step → Tables → Tables → Result (Option Observation) ApplyRefusal → Type 0
Applied s old new (Ok seen) = (effect (kernel_of old) s ≡ Some (record { after = kernel_of new; seen = seen })) ×
    (new.noted ≡ old.noted + notes (kernel_of old) s) × (new.noted ≤ most)
Applied s old new (Err why) = IsRefused (kernel_of old) old.noted s why × (new ≡ old)
