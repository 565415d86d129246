-- A process takes the first message that waits at it: what it gets, and its list.
use Rattle.std.proofs.Common.{◌≡◌, ℕ, ◌+◌, ◌≤◌, nat_le, true, List, [], ◌∷◌, drop, length, map, take, Option, Some, None, refl, subst, arith}
use Rattle.std.proofs.lemmas.Bool.{cond-true, le-leb, leb-true}
use Rattle.std.proofs.lemmas.Grind.{common_steps}
use Rattle.std.proofs.lemmas.Option.{same_Some, none-some}
use Rattle.vk_types.specs.Types.{Activity, Exchange, Message, Name, Pid, Waiting}
use Rattle.vk_base.specs.declared.activity.Activity.TheVariants as activities
use Rattle.vk_base.specs.declared.activity.Waiting.TheVariants as waitings
use Rattle.vk_base.specs.declared.kernel.State.TheVariants as states
use Rattle.vk_base.specs.Activities.{as_receive, call_of, receive_in, state_of}
use Rattle.vk_base.specs.Kernel.{receiving}
use Rattle.vk_base.specs.Ranges.{lies_in, range_of, with_bytes}
use Rattle.vk_base.specs.Steps.{received, with_part}
unfoldable use Rattle.vk_base.specs.Steps.{taking, taken}
use Rattle.vk_procs.specs.declared.seat.Seat.{Seat}
use Rattle.vk_procs.specs.Seats.{memory_by, outcome_by, process_of, reached, reached_by}
use Rattle.vk_stands.specs.Fit.{may_wait}
use Rattle.vk_stands.specs.Tables.{seat_name}

-- The receive in which a process waits.
pub record IsReceive (d : Activity) (w : Waiting) : Type 0 where
  pub blocked : d ≡ activities.Blocked w
  pub itself : as_receive w ≡ Some w
  pub call : receiving (state_of d) ≡ Some (call_of w)
  pub no_send : (target : Pid) (m : Message) → w ≡ waitings.Send target m → ⊥

receive_by : (v w : Waiting) → as_receive v ≡ Some w → IsReceive (activities.Blocked v) w
receive_by waitings.Receive w is = subst (IsReceive (activities.Blocked waitings.Receive)) (same_Some waitings.Receive w is)
    (record { blocked = refl; itself = refl; call = refl; no_send = λ target m e. cc })
receive_by (waitings.ReceiveSegment start count) w is =
    subst (IsReceive (activities.Blocked (waitings.ReceiveSegment start count))) (same_Some (waitings.ReceiveSegment start count) w is)
    (record { blocked = refl; itself = refl; call = refl; no_send = λ target m e. cc })
receive_by (waitings.Send target m) w is = absurd (none-some w is)
receive_by (waitings.MoveTo partner dest src count) w is = absurd (none-some w is)
receive_by (waitings.MoveFrom partner dest src count) w is = absurd (none-some w is)
receive_by (waitings.GetPid logical scope) w is = absurd (none-some w is)

pub receive_is : (d : Activity) (w : Waiting) → receive_in d ≡ Some w → IsReceive d w
receive_is activities.Ready w is = absurd (none-some w is)
receive_is (activities.Blocked v) w is = receive_by v w is
receive_is (activities.Done v o) w is = absurd (none-some w is)

-- What it gets.
abbrev pub reached_seat : Waiting → Pid → Message → List ℕ → Seat → Seat
reached_seat w from m part s = record s { memory = memory_by w part s.memory; doing = activities.Done w (outcome_by w from m part) }

lies_shorter : (start count size : ℕ) (part : List ℕ) → nat_le (start + count) size ≡ true →
    nat_le (start + length (take count part)) size ≡ true
lies_shorter start count size part lies =
    let a : start + count ≤ size = leb-true (start + count) size lies in
    let b : length (take count part) ≤ count = grind (arith, common_steps) in
    le-leb (start + length (take count part)) size (omega (arith, a, b))

pub reached_process : (w : Waiting) (from : Pid) (e : Exchange) (s : Seat) → as_receive w ≡ Some w →
    may_wait s.pid (length s.memory) w ≡ true →
    process_of (reached_seat w from e.shown e.part s)
    ≡ record (process_of s) {
      memory = with_part (call_of w) e s.memory;
      state = states.Done (call_of w) (received (call_of w) from e);
    }
reached_process waitings.Receive from e s is fits = refl
reached_process (waitings.ReceiveSegment start count) from e s is fits = λ i. record (process_of s) {
  memory = cond-true (lies_in (range_of start (length (take count e.part))) (length s.memory))
      (with_bytes s.memory start (take count e.part)) s.memory (lies_shorter start count (length s.memory) e.part fits) i;
  state = states.Done (call_of (waitings.ReceiveSegment start count)) (received (call_of (waitings.ReceiveSegment start count)) from e);
}
reached_process (waitings.Send target m) from e s is fits = absurd (none-some (waitings.Send target m) is)
reached_process (waitings.MoveTo partner dest src count) from e s is fits = absurd (none-some (waitings.MoveTo partner dest src count) is)
reached_process (waitings.MoveFrom partner dest src count) from e s is fits =
    absurd (none-some (waitings.MoveFrom partner dest src count) is)
reached_process (waitings.GetPid logical scope) from e s is fits = absurd (none-some (waitings.GetPid logical scope) is)

name_by : (o : Option Waiting) (from : Pid) (m : Message) (part : List ℕ) (s : Seat) → seat_name (reached_by o from m part s) ≡ seat_name s
name_by None from m part s = refl
name_by (Some w) from m part s = refl

pub reached_name : (from : Pid) (m : Message) (part : List ℕ) (s : Seat) → seat_name (reached from m part s) ≡ seat_name s
reached_name from m part s = name_by (receive_in s.doing) from m part s

pub rest_of : (f : ℕ → Option Name) (q : List ℕ) (n : Name) (ns : List Name) → map Some (n ∷ ns) ≡ map f q → map Some ns ≡ map f (drop 1 q)
rest_of f [] n ns e = cc
rest_of f (slot ∷ q) n ns e = cc
