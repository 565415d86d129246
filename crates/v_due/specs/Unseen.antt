-- What changes nothing that a process sees: a Pending, a copy of a Send that has an alien, and a reply that comes late.
use Rattle.std.specs.Prelude.{◌≡◌, ℕ, ◌≤◌, false, List, [], ◌∷◌, Some}
use Rattle.vk_types.specs.Types.{Message, Pid}
use Rattle.vk_base.specs.Kernel.{holds_of}
use Rattle.vk_base.specs.Packets.{Send, Reply, Pending, Negative}
use Rattle.vk_base.specs.Settings.{Settings}
use Rattle.vk_rules.specs.Aliens.{Alien}
use Rattle.vk_rules.specs.Entries.{Input}
use Rattle.vk_rules.specs.Works.{awaits}
use Rattle.v_ages.specs.Apart.{in_slot}
use Rattle.v_whole.specs.EveryFrame.{AreOwnInputs}
use Rattle.v_due.specs.Failures.{reading_behind}
use Rattle.v_due.specs.Negatives.{IsTakenNext}
use Rattle.v_due.specs.Turns.{next_entry}

-- the station's view is what it was: its processes with their memories and answers, messages, names and lookups
abbrev pub ChangesNothing : Settings → ℕ → List Input → Input → Type 0
ChangesNothing c host is i = (reading_behind c host (i ∷ is)).view ≡ (reading_behind c host is).view

-- and nothing is told
pub record PassesBy (c : Settings) (host : ℕ) (is : List Input) (i : Input) : Type 0 where
  pub view : ChangesNothing c host is i
  pub silent : (next_entry c host is i).frames ≡ []

abbrev pub PendingsPassBy : Type 0
PendingsPassBy = (c : Settings) (host : ℕ) (is : List Input) (i : Input) (from to : Pid) (number : ℕ) →
    IsTakenNext c host is i (Pending from to number) → PassesBy c host is i

-- A copy of a Send: its sender has an alien of this Send, or of a later one. It may be answered, but changes nothing.
pub record IsKnown (c : Settings) (host : ℕ) (is : List Input) (from : Pid) (number : ℕ) : Type 0 where
  pub slot : ℕ
  pub alien : Alien
  pub there : in_slot (reading_behind c host is).slots slot ≡ Some alien
  pub sender : alien.name.sender ≡ from
  pub reached : number ≤ alien.name.number

abbrev pub CopiesChangeNothing : Type 0
CopiesChangeNothing = (c : Settings) (host : ℕ) (is : List Input) (i : Input) (from to : Pid) (number : ℕ) (message : Message)
    (part : List ℕ) →
    AreOwnInputs host is → IsTakenNext c host is i (Send from to number message part) → IsKnown c host is from number →
    ChangesNothing c host is i

-- A late reply: the process does not wait in this Send to that target, or not any more.
abbrev pub LateRepliesPassBy : Type 0
LateRepliesPassBy = (c : Settings) (host : ℕ) (is : List Input) (i : Input) (from to : Pid) (number : ℕ) (message : Message)
    (dest : ℕ)
    (bytes : List ℕ) →
    IsTakenNext c host is i (Reply from to number message dest bytes) →
    holds_of (λ p. awaits to p from number) ((reading_behind c host is).view.procs to) ≡ false → PassesBy c host is i

-- so does a late Negative
abbrev pub LateNegativesPassBy : Type 0
LateNegativesPassBy = (c : Settings) (host : ℕ) (is : List Input) (i : Input) (from to : Pid) (number : ℕ) →
    IsTakenNext c host is i (Negative from to number) →
    holds_of (λ p. awaits to p from number) ((reading_behind c host is).view.procs to) ≡ false → PassesBy c host is i
