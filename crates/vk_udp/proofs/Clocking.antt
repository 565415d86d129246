-- The clock's port, one stretch behind the other.
use Rattle.std.proofs.Common.{◌≡◌, ℕ, ◌+◌, ◌≤◌, inr, true, false, Some, None, List, [], ◌∷◌, ◌++◌, length, refl, ◌∙◌, subst, arith}
use Rattle.vk_types.specs.Types.{EventAnswer}
use Rattle.turn_cell.specs.declared.replay.Room.{Room}
use Rattle.vk_base.specs.declared.event.StationEvent.TheVariants as events
use Rattle.vk_port.specs.Ports.{Action, Delivers, Does, Enters, HasDelivered, HasHeard as HeardOnce, HasMade, Hears, IsCutEvent, IsCutPump, IsMet, IsRefused, PortValue}
use Rattle.vk_port.specs.Stations.{frames_at}
use Rattle.vk_port.proofs.Logs.{does_more, does_nothing}
use Rattle.v_run.specs.Passages.{OnlyTicks, lost_count, tick_count}
use Rattle.vk_threads.proofs.Clocks.{cut_pumps, cut_tick, only_ticks, ticks_append}
use Rattle.vk_threads.proofs.Playing.{heard_append, lost_append, met_own, met_pump}
use Rattle.vk_udp.specs.Clocked.{HasClocked, HasLookedOn}
use Rattle.vk_udp.proofs.Bringing.{the_room}

-- So far it ticked so often, and lost nothing.
pub record ClocksSoFar (n : ℕ) (old now : PortValue) : Type 0 where
  pub acts : List Action
  pub does : Does old now acts
  pub only : OnlyTicks acts
  pub ticks : tick_count acts ≡ n
  pub lost : lost_count acts ≡ 0

pub clocks_none : (p : PortValue) → ClocksSoFar 0 p p
clocks_none p = record { acts = []; does = does_nothing p; only = tt; ticks = refl; lost = refl }

-- it did these things behind
clocks_more : (n m : ℕ) (old mid new : PortValue) (more : List Action) → ClocksSoFar n old mid → Does mid new more → OnlyTicks more
    → tick_count more ≡ m → lost_count more ≡ 0 → ClocksSoFar (n + m) old new
clocks_more n m old mid new more so does only ticks lost = record {
  acts = so.acts ++ more;
  does = does_more old mid new so.acts more so.does does;
  only = only_ticks so.acts more so.only only;
  ticks = (let sum = ticks_append so.acts more in let was = so.ticks in omega arith);
  lost = (let sum = lost_append so.acts more in let was = so.lost in omega arith);
}

pub clocks_tick : (n : ℕ) (old mid new : PortValue) (a : EventAnswer) → ClocksSoFar n old mid → HasMade mid new [] events.Tick a
    → ClocksSoFar (n + 1) old new
clocks_tick n old mid new a so made =
    clocks_more n 1 old mid new (Enters made.before events.Tick (length (frames_at mid.station.origin made.before events.Tick)) ∷ []) so made.does (tt, tt)
    (omega arith) refl

rest_same : (n : ℕ) (old new : PortValue) → ClocksSoFar (n + 0) old new → ClocksSoFar n old new
rest_same n old new so = let same : n + 0 ≡ n = omega arith in subst (λ m. ClocksSoFar m old new) same so

pub looked_delivered : (old new : PortValue) (a : EventAnswer) → HasDelivered old new a → HasLookedOn old new false
looked_delivered old new a it = (
  Delivers it.heard it.frame it.before (length (frames_at old.station.origin it.before (events.Deliver it.frame))) ∷ [],
  it.does,
  tt,
  refl,
  refl,
)

pub clocks_looked : (n : ℕ) (old mid new : PortValue) → ClocksSoFar n old mid → HasLookedOn mid new false → ClocksSoFar n old new
clocks_looked n old mid new so it = rest_same n old new (clocks_more n 0 old mid new it.0 so it.1 it.2 it.3 it.4)

pub still_ticks : (n : ℕ) (old new : PortValue) → ClocksSoFar n old new → old.ticks ≡ true → new.ticks ≡ true
still_ticks n old new so may = so.does.same.ticks ∙ may

-- it heard that the hub had ended
pub clocks_stopped : (n rounds : ℕ) (old mid new : PortValue) → n ≤ rounds → ClocksSoFar n old mid → HeardOnce mid new [] → HasClocked old new rounds None
clocks_stopped n rounds old mid new low so it =
    let more = Hears it.heard ∷ [] in record {
      acts = so.acts ++ more;
      does = does_more old mid new so.acts more so.does it.does;
      only = only_ticks so.acts more so.only tt;
      few = (let sum = ticks_append so.acts more in let was = so.ticks in omega arith);
      all = λ none. inr (heard_append so.acts more tt);
      losses = (let sum = lost_append so.acts more in let was = so.lost in omega arith);
      full = λ is. absurd (cc is);
    }

-- it met a Room: at a tick, or at a pump
pub clocks_cut_tick : (n rounds : ℕ) (old mid new : PortValue) (why : Room) → n + 1 ≤ rounds → ClocksSoFar n old mid
    → IsRefused mid new why [] (IsCutEvent mid.station.origin events.Tick) → HasClocked old new rounds (Some why)
clocks_cut_tick n rounds old mid new why low so it =
    let cut = cut_tick mid.station.origin it.last it.met it.cut in record {
      acts = so.acts ++ it.last;
      does = does_more old mid new so.acts it.last so.does it.does;
      only = only_ticks so.acts it.last so.only cut.0;
      few = (let sum = ticks_append so.acts it.last in let was = so.ticks in let some = cut.1 in omega arith);
      all = λ none. absurd (cc none);
      losses = (let sum = lost_append so.acts it.last in let was = so.lost in let none = cut.2 in omega arith);
      full = λ is. met_own new (so.acts ++ it.last) mid.station.origin events.Tick refl it.last it.met it.cut
          (subst (λ (w : Room). IsMet new w it.met) (the_room why is) it.is_met);
    }

pub clocks_cut_pump : (n rounds : ℕ) (old mid new : PortValue) (why : Room) → n ≤ rounds → ClocksSoFar n old mid
    → IsRefused mid new why [] (IsCutPump mid.station.origin mid.host) → HasClocked old new rounds (Some why)
clocks_cut_pump n rounds old mid new why low so it =
    let cut = cut_pumps mid.station.origin mid.host it.last it.met it.cut in record {
      acts = so.acts ++ it.last;
      does = does_more old mid new so.acts it.last so.does it.does;
      only = only_ticks so.acts it.last so.only cut.0;
      few = (let sum = ticks_append so.acts it.last in let was = so.ticks in let none = cut.1 in omega arith);
      all = λ none. absurd (cc none);
      losses = (let sum = lost_append so.acts it.last in let was = so.lost in let some = cut.2 in omega arith);
      full = λ is. met_pump new so.acts mid.station.origin mid.host it.last it.met it.cut
          (subst (λ (w : Room). IsMet new w it.met) (the_room why is) it.is_met);
    }
