-- Where a packet ends a work with a refusal: a MoveNegative ends a move as gone, a Negative a Send as without a process.
use Rattle.std.specs.Prelude.{◌≡◌, ℕ, true, List, Some}
use Rattle.vk_types.specs.Types.{Call, Pid}
use Rattle.vk_base.specs.declared.answer.Refusal.TheVariants as refusals
use Rattle.vk_base.specs.Kernel.{name_of, holds_of}
use Rattle.vk_base.specs.Packets.{Packet, Negative, MoveNegative}
use Rattle.vk_base.specs.Settings.{Settings}
use Rattle.vk_base.specs.Steps.{is_in_move}
use Rattle.vk_rules.specs.Entries.{Input, taken_packet}
use Rattle.vk_rules.specs.Right.{entries_of, entry_of}
use Rattle.vk_rules.specs.Works.{awaits}
use Rattle.v_due.specs.Failures.{IsAtWork, EndsRefused, reading_behind}

-- what happens next is that the station takes this packet
abbrev pub IsTakenNext : Settings → ℕ → List Input → Input → Packet → Type 0
IsTakenNext c host is i p = taken_packet (entry_of c host (entries_of c host is) i) ≡ Some p

-- it takes a MoveNegative of the move in which the process is
pub record TakesMoveNegative (c : Settings) (host : ℕ) (is : List Input) (i : Input) (s : Pid) : Type 0 where
  pub from : Pid
  pub number : ℕ
  pub moving : ℕ
  pub taken : IsTakenNext c host is i (MoveNegative from s number moving)
  pub running : holds_of (is_in_move (name_of from number) moving) ((reading_behind c host is).view.procs s) ≡ true

-- A work ends as gone only by a MoveNegative of the move that runs; and by that it does.
abbrev pub GoneComesByMoveNegatives : Type 0
GoneComesByMoveNegatives = (c : Settings) (host : ℕ) (is : List Input) (i : Input) (s : Pid) (call : Call) → IsAtWork c host is s call →
    EndsRefused c host is i s call refusals.Gone → TakesMoveNegative c host is i s

abbrev pub MoveNegativesEndMoves : Type 0
MoveNegativesEndMoves = (c : Settings) (host : ℕ) (is : List Input) (i : Input) (s : Pid) (call : Call) → IsAtWork c host is s call →
    TakesMoveNegative c host is i s → EndsRefused c host is i s call refusals.Gone

-- it takes a Negative of the Send in which the process waits, from the target of that
pub record TakesNegative (c : Settings) (host : ℕ) (is : List Input) (i : Input) (s : Pid) : Type 0 where
  pub target : Pid
  pub number : ℕ
  pub taken : IsTakenNext c host is i (Negative target s number)
  pub awaited : holds_of (λ p. awaits s p target number) ((reading_behind c host is).view.procs s) ≡ true

-- A work ends as without a process only by a Negative of the Send in which the process waits; and by that it does.
abbrev pub RemoteSendsFailByNegatives : Type 0
RemoteSendsFailByNegatives = (c : Settings) (host : ℕ) (is : List Input) (i : Input) (s : Pid) (call : Call) → IsAtWork c host is s call →
    EndsRefused c host is i s call refusals.NoProcess → TakesNegative c host is i s

abbrev pub NegativesEndSends : Type 0
NegativesEndSends = (c : Settings) (host : ℕ) (is : List Input) (i : Input) (s : Pid) (call : Call) → IsAtWork c host is s call →
    TakesNegative c host is i s → EndsRefused c host is i s call refusals.NoProcess
