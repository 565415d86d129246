-- When a work fails. A work is a remote Send, a remote move or a lookup in which a process is blocked. Of a list of inputs the
-- newest is the first.
use Rattle.std.specs.Prelude.{◌≡◌, ℕ, ◌+◌, true, false, List, ◌∷◌, Some}
use Rattle.std.specs.List.{list_any}
use Rattle.vk_types.specs.Types.{Call, Pid, Refusal}
use Rattle.vk_base.specs.declared.answer.Answer.TheVariants as answers
use Rattle.vk_base.specs.declared.answer.Refusal.TheVariants as refusals
use Rattle.vk_base.specs.declared.call.Call.TheVariants as calls
use Rattle.vk_base.specs.Pids.{same_pid}
use Rattle.vk_base.specs.Settings.{Settings}
use Rattle.vk_rules.specs.Entries.{Input, Ticked}
use Rattle.vk_rules.specs.Readings.{Reading, reading}
use Rattle.vk_rules.specs.Right.{entries_of, entry_of, own_pids}
use Rattle.vk_rules.specs.Works.{has_round, is_due, is_unanswered}
use Rattle.v_whole.specs.Delays.{IsGivenUp}
use Rattle.v_whole.specs.EveryFrame.{AreOwnInputs}
use Rattle.v_ended.specs.Ends.{blocked_behind, finished_behind, is_work}

-- what the station's entries say behind these inputs
abbrev pub reading_behind : Settings → ℕ → List Input → Reading
reading_behind c host is = reading c host (entries_of c host is)

-- A process of the station is blocked in this call, behind whatever happened there.
pub record IsBlocked (c : Settings) (host : ℕ) (is : List Input) (s : Pid) (call : Call) : Type 0 where
  pub own : AreOwnInputs host is
  pub here : list_any (same_pid s) (own_pids c host) ≡ true
  pub blocked : blocked_behind c host (entries_of c host is) s ≡ Some call

-- the call is a work
pub record IsAtWork (c : Settings) (host : ℕ) (is : List Input) (s : Pid) (call : Call) : Type 0 where
  pub waits : IsBlocked c host is s call
  pub work : is_work s call ≡ true

-- what happens next ends the call with this refusal
abbrev pub EndsRefused : Settings → ℕ → List Input → Input → Pid → Call → Refusal → Type 0
EndsRefused c host is i s call why = finished_behind c host (entries_of c host (i ∷ is)) s ≡ Some (call, answers.Refused why)

-- a lookup fails with NotFound, a Send and a move with TimedOut
abbrev pub failure_of : Call → Refusal
failure_of (calls.GetPid logical scope) = refusals.NotFound
failure_of call = refusals.TimedOut

-- A work fails only at a due tick at which it is unanswered.
abbrev pub FailuresComeWhenDue : Type 0
FailuresComeWhenDue = (c : Settings) (host : ℕ) (is : List Input) (i : Input) (s : Pid) (call : Call) → IsAtWork c host is s call →
    EndsRefused c host is i s call (failure_of call) → IsGivenUp c.times (reading_behind c host is) i s

-- There it does.
abbrev pub UnansweredWorksFail : Type 0
UnansweredWorksFail = (c : Settings) (host : ℕ) (is : List Input) (i : Input) (s : Pid) (call : Call) → IsAtWork c host is s call →
    IsGivenUp c.times (reading_behind c host is) i s → EndsRefused c host is i s call (failure_of call)

-- a round of the process's work goes out at the next tick, and it is still blocked in its call
pub record GoesOutAgain (c : Settings) (host : ℕ) (is : List Input) (s : Pid) (call : Call) : Type 0 where
  pub round : has_round s (entry_of c host (entries_of c host is) Ticked) ≡ true
  pub waits : blocked_behind c host (entries_of c host (Ticked ∷ is)) s ≡ Some call

-- At every other due tick it goes out again.
abbrev pub DueWorksGoOutAgain : Type 0
DueWorksGoOutAgain = (c : Settings) (host : ℕ) (is : List Input) (s : Pid) (call : Call) → IsAtWork c host is s call →
    is_due c.times ((reading_behind c host is).now + 1) ((reading_behind c host is).work s) ≡ true →
    is_unanswered c.times ((reading_behind c host is).work s) ≡ false → GoesOutAgain c host is s call

-- no round of it goes out at the next tick, and it is still blocked in its call
pub record Rests (c : Settings) (host : ℕ) (is : List Input) (s : Pid) (call : Call) : Type 0 where
  pub none : has_round s (entry_of c host (entries_of c host is) Ticked) ≡ false
  pub waits : blocked_behind c host (entries_of c host (Ticked ∷ is)) s ≡ Some call

-- At a tick that is not due it rests.
abbrev pub WorksRestUntilDue : Type 0
WorksRestUntilDue = (c : Settings) (host : ℕ) (is : List Input) (s : Pid) (call : Call) → IsAtWork c host is s call →
    is_due c.times ((reading_behind c host is).now + 1) ((reading_behind c host is).work s) ≡ false → Rests c host is s call
