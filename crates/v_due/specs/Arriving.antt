-- A young Send packet for a live process, which finds a slot, arrives in its event.
use Rattle.std.specs.Prelude.{◌≡◌, ◌≢◌, ℕ, ◌<◌, true, false, List, [], ◌∷◌, length, Option, Some, None}
use Rattle.vk_types.specs.Types.{Exchange, Message, Name, Pid}
use Rattle.vk_base.specs.Kernel.{name_of, is_at_target, is_live}
use Rattle.vk_base.specs.Packets.{Packet, Send}
use Rattle.vk_base.specs.Settings.{Settings}
use Rattle.vk_frame.specs.declared.header.Header.{Header}
use Rattle.vk_frame.specs.Rules.{is_young}
use Rattle.vk_packet.specs.Rules.{is_lawful}
use Rattle.vk_rules.specs.Aliens.{Alien, arrival_in, is_alien_of}
use Rattle.vk_rules.specs.Entries.{Input, Delivered}
use Rattle.vk_rules.specs.Frames.{Framed, is_between, is_for}
use Rattle.v_ages.specs.Apart.{in_slot}
use Rattle.v_whole.specs.EveryFrame.{AreOwnInputs}
use Rattle.v_due.specs.Failures.{reading_behind}
use Rattle.v_due.specs.Turns.{next_entry}

-- a Send, as it comes
pub record Sent : Type 0 where
  pub header : Header
  pub from : Pid
  pub to : Pid
  pub number : ℕ
  pub message : Message
  pub part : List ℕ

abbrev pub packet_with : Sent → Packet
packet_with s = Send s.from s.to s.number s.message s.part

abbrev pub comes : Sent → Input
comes s = Delivered (Framed s.header (packet_with s))

-- Its frame is for this station, from another, and young; its packet is a lawful one between the two, to a live process.
pub record IsSendWelcome (c : Settings) (host : ℕ) (is : List Input) (s : Sent) : Type 0 where
  pub own : AreOwnInputs host is
  pub for : is_for host s.header ≡ true
  pub young : is_young s.header (reading_behind c host is).now c.times.life ≡ true
  pub between : is_between s.header (packet_with s) ≡ true
  pub lawful : is_lawful (packet_with s) ≡ true
  pub live : is_live ((reading_behind c host is).view.procs s.to) ≡ true

-- its sender has no alien, and this is the lowest free slot
pub record HasFreeSlot (slots : List (Option Alien)) (from : Pid) (slot : ℕ) : Type 0 where
  pub none : (i : ℕ) → is_alien_of from (in_slot slots i) ≡ false
  pub within : slot < length slots
  pub free : in_slot slots slot ≡ None
  pub lowest : (i : ℕ) → i < slot → in_slot slots i ≢ None

-- its sender has an alien of an earlier Send, in this slot
pub record HasOlderAlien (slots : List (Option Alien)) (from : Pid) (number slot : ℕ) : Type 0 where
  pub alien : Alien
  pub is : in_slot slots slot ≡ Some alien
  pub sender : alien.name.sender ≡ from
  pub earlier : alien.name.number < number

-- IT ARRIVES: behind the event its message waits at the process, or this one has taken it.
pub record Arrives (c : Settings) (host : ℕ) (is : List Input) (s : Sent) (slot : ℕ) : Type 0 where
  pub arrival : arrival_in (next_entry c host is (comes s)) ≡ Some (name_of s.from s.number)
  pub exchange : Exchange
  pub there : (reading_behind c host (comes s ∷ is)).view.exchanges (name_of s.from s.number) ≡ Some exchange
  pub at : exchange.at ≡ s.to
  pub message : exchange.message ≡ s.message
  pub part : exchange.part ≡ s.part
  pub waits : is_at_target exchange.stage ≡ true
  -- nothing is told to its sender
  pub silent : (next_entry c host is (comes s)).frames ≡ []
  -- the slot has its alien, and no other one has any of its sender
  pub alien : in_slot (reading_behind c host (comes s ∷ is)).slots slot
      ≡ Some (record { name = name_of s.from s.number; newest = s.header.stamp; closed = None })
  pub only : (i : ℕ) → is_alien_of s.from (in_slot (reading_behind c host (comes s ∷ is)).slots i) ≡ true → i ≡ slot
  -- no other message of its sender waits or is held
  pub alone : (n : Name) (x : Exchange) → n.sender ≡ s.from → (reading_behind c host (comes s ∷ is)).view.exchanges n ≡ Some x →
      is_at_target x.stage ≡ true → n ≡ name_of s.from s.number

abbrev pub NewSendsArrive : Type 0
NewSendsArrive = (c : Settings) (host : ℕ) (is : List Input) (s : Sent) (slot : ℕ) → IsSendWelcome c host is s →
    HasFreeSlot (reading_behind c host is).slots s.from slot → Arrives c host is s slot

-- It replaces the older one.
abbrev pub LaterSendsReplace : Type 0
LaterSendsReplace = (c : Settings) (host : ℕ) (is : List Input) (s : Sent) (slot : ℕ) → IsSendWelcome c host is s →
    HasOlderAlien (reading_behind c host is).slots s.from s.number slot → Arrives c host is s slot
