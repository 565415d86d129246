-- What the clock does with its ports, one at each station.
use Rattle.std.specs.Prelude.{ℕ, ◌≡◌, ◌≤◌, ◌+◌, ◌⊎◌, Bool, true, false, List, [], ◌∷◌}
use Rattle.turn_cell.specs.declared.replay.Room.{Room}
use Rattle.turn_cell.specs.declared.replay.Room.TheVariants as rooms
use Rattle.vk_hub.specs.declared.event.Arrival.{Arrival}
use Rattle.vk_hub.specs.declared.event.Arrival.TheVariants as arrivals
use Rattle.vk_port.specs.declared.port.Pumped.{Pumped}
use Rattle.vk_port.specs.Ports.{Action, Does, HasPumped, PortValue}
use Rattle.v_run.specs.Passages.{HasHeard, OnlyTicks, lost_count, tick_count}
use Rattle.vk_threads.specs.Works.{FindsFull}

-- each port did these actions, none but ticks of its own accord
abbrev pub AreTicked : List PortValue → List PortValue → List (List Action) → Type 0
AreTicked [] [] [] = Unit {0}
AreTicked (p ∷ ps) (q ∷ qs) (acts ∷ all) = Does p q acts × OnlyTicks acts × AreTicked ps qs all
AreTicked ps qs all = ⊥

-- each ticked at least so often, and at most so often
abbrev pub TickBetween : ℕ → ℕ → List (List Action) → Type 0
TickBetween low high [] = Unit {0}
TickBetween low high (acts ∷ all) = (low ≤ tick_count acts) × (tick_count acts ≤ high) × TickBetween low high all

-- the fetches of all by which no frame was delivered
abbrev pub all_lost : List (List Action) → ℕ
all_lost [] = 0
all_lost (acts ∷ all) = lost_count acts + all_lost all

-- one of these ports finds no room
abbrev pub OneFindsFull : List PortValue → List (List Action) → Type 0
OneFindsFull [] all = ⊥
OneFindsFull (p ∷ ps) [] = ⊥
OneFindsFull (p ∷ ps) (acts ∷ all) = FindsFull p acts ⊎ OneFindsFull ps all

-- one of these ports heard that the hub had ended
abbrev pub OneHears : List (List Action) → Type 0
OneHears [] = ⊥
OneHears (acts ∷ all) = HasHeard acts ⊎ OneHears all

-- Each port ticked between so often and so often, and together they lost at most so many fetches.
pub record HaveTicked (low high lost : ℕ) (old new : List PortValue) : Type 0 where
  pub acts : List (List Action)
  pub does : AreTicked old new acts
  pub ticks : TickBetween low high acts
  pub few : all_lost acts ≤ lost

-- The same, until one of them met this Room.
pub record HaveTickedCut (low high lost : ℕ) (old new : List PortValue) (why : Room) : Type 0 where
  pub acts : List (List Action)
  pub does : AreTicked old new acts
  pub ticks : TickBetween low high acts
  pub few : all_lost acts ≤ lost
  pub full : why ≡ rooms.Full → OneFindsFull new acts

-- the first of these ports, where there is one, pumped once
abbrev pub FirstPumps : List PortValue → List PortValue → Type 0
FirstPumps (p ∷ ps) (q ∷ qs) = (given : Pumped) × HasPumped p q given
FirstPumps ps qs = Unit {0}

-- One look: it heard that the hub had ended, or did not.
abbrev pub HaveLooked : List PortValue → List PortValue → Bool → Type 0
HaveLooked old new true = (t : HaveTicked 0 0 1 old new) × OneHears t.acts
HaveLooked old new false = HaveTicked 0 0 0 old new × FirstPumps old new

-- that the hub has ended
abbrev pub is_stop : Arrival → Bool
is_stop arrivals.Stopped = true
is_stop arrivals.Frame = false
is_stop arrivals.Nothing = false

-- The clock looked again and again: until it heard that the hub had ended, or while it did not.
abbrev pub HaveWatched : List PortValue → List PortValue → Bool → Type 0
HaveWatched old new true = HaveTicked 0 0 0 old new
HaveWatched old new false = (t : HaveTicked 0 0 1 old new) × OneHears t.acts

-- The clock went just so many rounds, or fewer where it heard that the hub had ended; and where it met a Room, a part of one more.
pub record HaveRounds (rounds : ℕ) (old new : List PortValue) : Type 0 where
  pub done : ℕ
  pub few : done ≤ rounds
  pub ticked : HaveTicked done done 1 old new
  pub all : (done ≡ rounds) ⊎ OneHears ticked.acts

-- it heard that the hub had ended, or went all rounds and did not hear it
abbrev pub HaveGone : ℕ → List PortValue → List PortValue → Bool → Type 0
HaveGone rounds old new true = HaveRounds rounds old new
HaveGone rounds old new false = HaveTicked rounds rounds 0 old new

pub record HaveRoundsCut (rounds : ℕ) (old new : List PortValue) (why : Room) : Type 0 where
  pub done : ℕ
  pub high : ℕ
  pub near : high ≤ done + 1
  pub few : high ≤ rounds
  pub ticked : HaveTickedCut done high 1 old new why

-- the port may tick
abbrev pub may_tick : PortValue → Type 0
may_tick p = p.ticks ≡ true
