-- What a job's actions say, one behind the other.
use Rattle.std.proofs.Common.{◌≡◌, ℕ, ◌+◌, ◌≤◌, ◌||◌, Bool, true, false, Option, List, [], ◌∷◌, ◌++◌, length, refl, sym, ap, ◌∙◌, subst, arith, append_assoc, append-nil, ◌⊎◌, inl, inr}
use Rattle.std.proofs.lemmas.Bool.{or_cases}
use Rattle.vk_types.specs.Types.{Answer, Call, EventAnswer, Pid, StationEvent}
use Rattle.turn_cell.specs.declared.replay.Room.{Room}
use Rattle.turn_cell.specs.declared.replay.Room.TheVariants as rooms
use Rattle.vk_base.specs.declared.event.StationEvent.TheVariants as events
use Rattle.vk_hub.specs.declared.event.HubEvent.{HubEvent}
use Rattle.vk_hub.specs.declared.event.HubEvent.TheVariants as hub_events
use Rattle.vk_hub.specs.Hubs.{is_at_limit, others}
use Rattle.vk_port.specs.Ports.{Action, AtHub, AtStation, Delivers, Does, Drops, Enters, HasDelivered, HasHeard as HeardOnce, Hears, IsCutEvent, IsCutPump, IsMet, IsPumping, IsRefused, Met, PortValue}
use Rattle.vk_port.specs.Stations.{StationHistory, brings_last_number, frames_at, is_full, is_used_up}
use Rattle.vk_rules.specs.Each.{Each}
use Rattle.v_run.specs.Passages.{HasDropped, HasHeard, OnlyPumps, Plays, answer_in, answers_by, call_in, calls_by, lost_count}
use Rattle.vk_threads.specs.Works.{FindsFull, HasPumped, HasPumpedCut}
use Rattle.vk_threads.proofs.Finishing.{at_limit}
use Rattle.vk_port.proofs.Logs.{does_more}

-- One behind the other.
pub calls_append : (xs ys : List Action) → calls_by (xs ++ ys) ≡ calls_by xs ++ calls_by ys
calls_append [] ys = refl
calls_append (Enters before e posted ∷ xs) ys =
    ap (λ l. call_in e ++ l) (calls_append xs ys) ∙ sym (append_assoc (call_in e) (calls_by xs) (calls_by ys))
calls_append (Delivers heard frame before posted ∷ xs) ys = calls_append xs ys
calls_append (Drops heard frame ∷ xs) ys = calls_append xs ys
calls_append (Hears heard ∷ xs) ys = calls_append xs ys

pub answers_append : (o : StationHistory) (xs ys : List Action) → answers_by o (xs ++ ys) ≡ answers_by o xs ++ answers_by o ys
answers_append o [] ys = refl
answers_append o (Enters before e posted ∷ xs) ys =
    ap (λ l. answer_in o before e ++ l) (answers_append o xs ys)
    ∙ sym (append_assoc (answer_in o before e) (answers_by o xs) (answers_by o ys))
answers_append o (Delivers heard frame before posted ∷ xs) ys = answers_append o xs ys
answers_append o (Drops heard frame ∷ xs) ys = answers_append o xs ys
answers_append o (Hears heard ∷ xs) ys = answers_append o xs ys

pub lost_append : (xs ys : List Action) → lost_count (xs ++ ys) ≡ lost_count xs + lost_count ys
lost_append [] ys = omega arith
lost_append (Enters before e posted ∷ xs) ys = lost_append xs ys
lost_append (Delivers heard frame before posted ∷ xs) ys = lost_append xs ys
lost_append (Drops heard frame ∷ xs) ys = let rest = lost_append xs ys in omega arith
lost_append (Hears heard ∷ xs) ys = let rest = lost_append xs ys in omega arith

pub heard_append : (xs ys : List Action) → HasHeard ys → HasHeard (xs ++ ys)
heard_append [] ys has = has
heard_append (Enters before e posted ∷ xs) ys has = heard_append xs ys has
heard_append (Delivers heard frame before posted ∷ xs) ys has = heard_append xs ys has
heard_append (Drops heard frame ∷ xs) ys has = heard_append xs ys has
heard_append (Hears heard ∷ xs) ys has = tt

pub dropped_append : (f : List ℕ) (xs ys : List Action) → HasDropped f ys → HasDropped f (xs ++ ys)
dropped_append f [] ys has = has
dropped_append f (Enters before e posted ∷ xs) ys has = dropped_append f xs ys has
dropped_append f (Delivers heard frame before posted ∷ xs) ys has = dropped_append f xs ys has
dropped_append f (Drops heard frame ∷ xs) ys has = inr (dropped_append f xs ys has)
dropped_append f (Hears heard ∷ xs) ys has = dropped_append f xs ys has

module _ (task : List Answer → Option Call) (r : Pid) (o : StationHistory) where
  pub plays_append : (calls : List Call) (answers : List Answer) (xs ys : List Action) → Plays task r o calls answers xs
      → Plays task r o (calls ++ calls_by xs) (answers ++ answers_by o xs) ys → Plays task r o calls answers (xs ++ ys)
  plays_append calls answers [] ys one two =
      let P : List Call × List Answer → Type 0 = λ x. Plays task r o x.0 x.1 ys in
      subst P (λ i. (append-nil calls i, append-nil answers i)) two
  plays_append calls answers (Enters before e posted ∷ xs) ys one two =
      let P : List Call × List Answer → Type 0 = λ x. Plays task r o x.0 x.1 ys in (
        one.0,
        plays_append (calls ++ call_in e) (answers ++ answer_in o before e) xs ys one.1
            (subst P (λ i. (sym (append_assoc calls (call_in e) (calls_by xs)) i, sym (append_assoc answers (answer_in o before e) (answers_by o xs)) i)) two),
      )
  plays_append calls answers (Delivers heard frame before posted ∷ xs) ys one two = plays_append calls answers xs ys one two
  plays_append calls answers (Drops heard frame ∷ xs) ys one two = plays_append calls answers xs ys one two
  plays_append calls answers (Hears heard ∷ xs) ys one two = plays_append calls answers xs ys one two

  -- pumps are no doings of a process
  pub pumping_plays : (calls : List Call) (answers : List Answer) (xs ys : List Action) → Each (IsPumping o) xs → Plays task r o calls answers ys
      → Plays task r o calls answers (xs ++ ys)
  pumping_plays calls answers [] ys pumping plays = plays
  pumping_plays calls answers (Enters before e posted ∷ xs) ys pumping plays = absurd pumping.0
  pumping_plays calls answers (Delivers heard frame before posted ∷ xs) ys pumping plays = pumping_plays calls answers xs ys pumping.1 plays
  pumping_plays calls answers (Drops heard frame ∷ xs) ys pumping plays = absurd pumping.0
  pumping_plays calls answers (Hears heard ∷ xs) ys pumping plays = absurd pumping.0

pub record IsQuiet (o : StationHistory) (xs : List Action) : Type 0 where
  pub calls : calls_by xs ≡ []
  pub answers : answers_by o xs ≡ []
  pub lost : lost_count xs ≡ 0

pub pumping_quiet : (o : StationHistory) (xs : List Action) → Each (IsPumping o) xs → IsQuiet o xs
pumping_quiet o [] pumping = record { calls = refl; answers = refl; lost = refl }
pumping_quiet o (Enters before e posted ∷ xs) pumping = absurd pumping.0
pumping_quiet o (Delivers heard frame before posted ∷ xs) pumping =
    let rest = pumping_quiet o xs pumping.1 in record { calls = rest.calls; answers = rest.answers; lost = rest.lost }
pumping_quiet o (Drops heard frame ∷ xs) pumping = absurd pumping.0
pumping_quiet o (Hears heard ∷ xs) pumping = absurd pumping.0

-- What was met, where it is Full.
or_used : (a b : Bool) → (a || b) ≡ true → b ≡ false → a ≡ true
or_used true b is none = refl
or_used false b is none = absurd (cc (is, none))

pub met_own : (p : PortValue) (acts : List Action) (o : StationHistory) (e : StationEvent) → brings_last_number e ≡ false → (last : List Action) (m : Met)
    → IsCutEvent o e last m → IsMet p rooms.Full m → FindsFull p acts
met_own p acts o e plain [] m cut met =
    let here : is_full p.station.origin p.seat.seen e ≡ true = (subst (IsMet p rooms.Full) cut met).1 in inl (or_used _ _ here plain)
met_own p acts o e plain (Enters before x posted ∷ []) (AtHub (hub_events.Post frame)) cut met = inr (inr (at_limit (others p.hub_seat.seen) met.1))
met_own p acts o e plain (Enters before x posted ∷ []) (AtHub (hub_events.Fetch h)) cut met = absurd cut
met_own p acts o e plain (Enters before x posted ∷ []) (AtHub hub_events.Finished) cut met = absurd cut
met_own p acts o e plain (Enters before x posted ∷ []) (AtHub hub_events.Halt) cut met = absurd cut
met_own p acts o e plain (Enters before x posted ∷ []) (AtStation y) cut met = absurd cut
met_own p acts o e plain (Enters before x posted ∷ (y ∷ ys)) m cut met = absurd cut
met_own p acts o e plain (Delivers heard frame before posted ∷ xs) m cut met = absurd cut
met_own p acts o e plain (Drops heard frame ∷ xs) m cut met = absurd cut
met_own p acts o e plain (Hears heard ∷ xs) m cut met = absurd cut

dropped_full : (p : PortValue) (first : List Action) (heard : List (ℕ × HubEvent)) (frame : List ℕ)
    → (is_used_up p.station.origin p.seat.seen ≡ true) ⊎ (brings_last_number (events.Deliver frame) ≡ true)
    → FindsFull p (first ++ Drops heard frame ∷ [])
dropped_full p first heard frame (inl used) = inl used
dropped_full p first heard frame (inr last) = inr (inl (frame, dropped_append frame first (Drops heard frame ∷ []) (inl refl), last))

pub met_pump : (p : PortValue) (first : List Action) (o : StationHistory) (host : ℕ) (last : List Action) (m : Met)
    → IsCutPump o host last m → IsMet p rooms.Full m → FindsFull p (first ++ last)
met_pump p first o host [] m cut met =
    let here : is_at_limit p.hub_seat.seen (hub_events.Fetch host) ≡ true = (subst (IsMet p rooms.Full) cut met).1 in
    inr (inr (at_limit (others p.hub_seat.seen) here))
met_pump p first o host (Drops heard frame ∷ []) m cut met =
    let here : is_full p.station.origin p.seat.seen (events.Deliver frame) ≡ true = (subst (IsMet p rooms.Full) cut met).1 in
    dropped_full p first heard frame (or_cases _ _ here)
met_pump p first o host (Drops heard frame ∷ (y ∷ ys)) m cut met = absurd cut
met_pump p first o host (Delivers heard frame before posted ∷ []) (AtHub (hub_events.Post f)) cut met = inr (inr (at_limit (others p.hub_seat.seen) met.1))
met_pump p first o host (Delivers heard frame before posted ∷ []) (AtHub (hub_events.Fetch h)) cut met = absurd cut
met_pump p first o host (Delivers heard frame before posted ∷ []) (AtHub hub_events.Finished) cut met = absurd cut
met_pump p first o host (Delivers heard frame before posted ∷ []) (AtHub hub_events.Halt) cut met = absurd cut
met_pump p first o host (Delivers heard frame before posted ∷ []) (AtStation y) cut met = absurd cut
met_pump p first o host (Delivers heard frame before posted ∷ (y ∷ ys)) m cut met = absurd cut
met_pump p first o host (Enters before x posted ∷ xs) m cut met = absurd cut
met_pump p first o host (Hears heard ∷ xs) m cut met = absurd cut

-- Pumping on.
only_append : (xs ys : List Action) → OnlyPumps xs → OnlyPumps ys → OnlyPumps (xs ++ ys)
only_append [] ys one two = two
only_append (Enters before e posted ∷ xs) ys one two = absurd one
only_append (Delivers heard frame before posted ∷ xs) ys one two = only_append xs ys one two
only_append (Drops heard frame ∷ xs) ys one two = only_append xs ys one two
only_append (Hears heard ∷ xs) ys one two = only_append xs ys one two

-- so far it only pumped, and lost nothing
abbrev pub PumpsSoFar : PortValue → PortValue → Type 0
PumpsSoFar old now = (acts : List Action) × Does old now acts × OnlyPumps acts × (lost_count acts ≡ 0)

pub pumps_delivered : (old mid new : PortValue) (a : EventAnswer) → PumpsSoFar old mid → HasDelivered mid new a → PumpsSoFar old new
pumps_delivered old mid new a so it =
    let last = Delivers it.heard it.frame it.before (length (frames_at mid.station.origin it.before (events.Deliver it.frame))) ∷ [] in
    (so.0 ++ last, does_more old mid new so.0 last so.1 it.does, only_append so.0 last so.2 tt, (let sum = lost_append so.0 last in let none = so.3 in omega arith))

pub pumps_nothing : (old mid new : PortValue) → PumpsSoFar old mid → Does mid new [] → PumpsSoFar old new
pumps_nothing old mid new so it =
    (so.0 ++ [], does_more old mid new so.0 [] so.1 it, only_append so.0 [] so.2 tt, (let sum = lost_append so.0 [] in let none = so.3 in omega arith))

pub pumps_stopped : (old mid new : PortValue) → PumpsSoFar old mid → HeardOnce mid new [] → HasPumped old new
pumps_stopped old mid new so it =
    let last = Hears it.heard ∷ [] in (
      so.0 ++ last,
      does_more old mid new so.0 last so.1 it.does,
      only_append so.0 last so.2 tt,
      (let sum = lost_append so.0 last in let none = so.3 in omega arith),
      heard_append so.0 last tt,
    )

cut_pump_only : (o : StationHistory) (host : ℕ) (last : List Action) (m : Met) → IsCutPump o host last m → OnlyPumps last × (lost_count last ≤ 1)
cut_pump_only o host [] m cut = (tt, omega arith)
cut_pump_only o host (Drops heard frame ∷ []) m cut = (tt, omega arith)
cut_pump_only o host (Drops heard frame ∷ (y ∷ ys)) m cut = absurd cut
cut_pump_only o host (Delivers heard frame before posted ∷ []) m cut = (tt, omega arith)
cut_pump_only o host (Delivers heard frame before posted ∷ (y ∷ ys)) m cut = absurd cut
cut_pump_only o host (Enters before x posted ∷ xs) m cut = absurd cut
cut_pump_only o host (Hears heard ∷ xs) m cut = absurd cut

pub pumps_cut : (old mid new : PortValue) (why : Room) → PumpsSoFar old mid → IsRefused mid new why [] (IsCutPump mid.station.origin mid.host)
    → HasPumpedCut old new why
pumps_cut old mid new why so it =
    let only = cut_pump_only mid.station.origin mid.host it.last it.met it.cut in (
      so.0 ++ it.last,
      does_more old mid new so.0 it.last so.1 it.does,
      only_append so.0 it.last so.2 only.0,
      (let sum = lost_append so.0 it.last in let none = so.3 in let few = only.1 in omega arith),
      (λ full. met_pump new so.0 mid.station.origin mid.host it.last it.met it.cut (subst (λ (w : Room). IsMet new w it.met) full it.is_met)),
    )
