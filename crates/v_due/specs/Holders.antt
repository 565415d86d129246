-- Where the process exits that has the message of another station's Send: its sender is told, by a Negative in the name of the target.
use Rattle.std.specs.Prelude.{◌≡◌, ℕ, true, List, ◌∷◌, ◌++◌, map, Some}
use Rattle.vk_types.specs.Types.{Exchange}
use Rattle.vk_base.specs.declared.call.Call.TheVariants as calls
use Rattle.vk_base.specs.Kernel.{is_at_target}
use Rattle.vk_base.specs.Packets.{Packet, Negative}
use Rattle.vk_base.specs.Settings.{Settings}
use Rattle.vk_rules.specs.Aliens.{Alien}
use Rattle.vk_rules.specs.CallOutcomes.{is_ok}
use Rattle.vk_rules.specs.Entries.{Entry, Input, Called}
use Rattle.vk_rules.specs.Frames.{Frame}
use Rattle.v_ages.specs.Apart.{in_slot}
use Rattle.v_due.specs.Failures.{reading_behind}
use Rattle.v_due.specs.Turns.{next_entry}

-- the packet is one of those that the entry sends
pub record IsAmongSent (e : Entry) (p : Packet) : Type 0 where
  pub before : List Packet
  pub after : List Packet
  pub is : map (λ (f : Frame). f.packet) e.frames ≡ before ++ p ∷ after

-- The process exits next at which the message of this alien waits, or which has taken it: the target, or to which it was handed on.
pub record HolderOfAlienExits (c : Settings) (host : ℕ) (is : List Input) (i : Input) (slot : ℕ) : Type 0 where
  pub alien : Alien
  pub there : in_slot (reading_behind c host is).slots slot ≡ Some alien
  pub exchange : Exchange
  pub sent : (reading_behind c host is).view.exchanges alien.name ≡ Some exchange
  pub waits : is_at_target exchange.stage ≡ true
  pub exits : i ≡ Called exchange.at calls.Exit
  pub answered : is_ok (next_entry c host is i).answer ≡ true

abbrev pub ExitsTellSenders : Type 0
ExitsTellSenders = (c : Settings) (host : ℕ) (is : List Input) (i : Input) (slot : ℕ) → (h : HolderOfAlienExits c host is i slot) →
    IsAmongSent (next_entry c host is i) (Negative h.exchange.target h.alien.name.sender h.alien.name.number)
