-- From the turns at the cell and at the hub to what a port did.
use Rattle.std.proofs.Common.{◌≡◌, ◌≢◌, ◌⊎◌, inl, inr, ℕ, ◌<◌, ◌≤◌, Bool, true, false, List, [], ◌∷◌, ◌++◌, length, take, Some, refl, sym, ap, subst, ◌∙◌, arith}
use mathlib.Core.List.{IsPrefix}
use Rattle.std.proofs.lemmas.List.{append-nil, append_cancel_right, take_all}
use Rattle.std.proofs.lemmas.Option.{same_Some}
use Rattle.vk_types.specs.Types.{Call, EventAnswer, Pid, StationEvent}
use Rattle.turn_cell.specs.History.{events_of}
use Rattle.turn_cell.specs.Rooms.{is_full as is_room_full}
use Rattle.turn_cell.specs.Seats.{Cell, HasEntered, HasLooked, IsComplete, IsSameSeat, Sitting}
use Rattle.turn_cell.specs.declared.replay.Room.{Room}
use Rattle.turn_cell.proofs.Histories.{events_own, prefix_self}
use Rattle.vk_base.specs.declared.event.StationEvent.TheVariants as events
use Rattle.vk_hub.specs.declared.event.Fetched.{Fetched}
use Rattle.vk_hub.specs.declared.event.Fetched.TheVariants as fetched
use Rattle.vk_hub.specs.declared.event.HubEvent.{HubEvent}
use Rattle.vk_hub.specs.declared.event.HubEvent.TheVariants as hub_events
use Rattle.vk_hub.specs.Hubs.{HubLog, fetched_from, is_at_limit, traffic_of}
use Rattle.vk_hub.specs.Links.{Frame}
use Rattle.vk_rules.specs.Each.{Each}
use Rattle.vk_rules.proofs.Lists.{each_append}
use Rattle.vk_port.specs.Ports.{Action, AtHub, AtStation, Delivers, Does, Drops, Enters, HasDelivered, HasHeard, HasMade, Hears, IsCutEvent, IsCutPump, IsLog, IsMet, IsPumping, IsRefused, Met, PortValue, berth_of, fetched_at, stand_of}
use Rattle.vk_port.specs.Stations.{EntryShown, StationHistory, entry_at, entry_shown, frames_at, is_full, is_own, is_ready}
use Rattle.vk_port.specs.Turns.{HasFetchedFrame, HasPosted, HasStoppedPosting, HoldsAnswer, HoldsTick, IsCallAnswer, is_collect}
use Rattle.vk_port.proofs.Answers.{call_answer, collect_answer, tick_answer}
use Rattle.vk_port.proofs.Logs.{berth_same, does_more, same_over}

-- what a seat had entered before its new entry
own_before : {S E : Type 0} (old new : Sitting S E) (before : List (ℕ × E)) (e : E) → new.number ≡ old.number → IsComplete new →
    new.seen ≡ before ++ (old.number, e) ∷ [] → new.mine ≡ old.mine ++ e ∷ [] → events_of old.number before ≡ old.mine
own_before old new before e same complete seen mine =
    append_cancel_right (events_of old.number before) old.mine (e ∷ [])
    (sym (events_own old.number e before)
    ∙ ap (events_of old.number) (sym seen)
    ∙ ap (λ n. events_of n new.seen) (sym same)
    ∙ complete
    ∙ mine)

module _ (host : ℕ) (station : Cell StationHistory) (hub : Cell HubLog) (ticks : Bool) where
  abbrev pub port_at : Sitting StationHistory StationEvent → Sitting HubLog HubEvent → PortValue
  port_at s g = record { host = host; station = station; hub = hub; seat = s; hub_seat = g; ticks = ticks }

  -- An event was entered.
  module _ (s t : Sitting StationHistory StationEvent) (g : Sitting HubLog HubEvent) (e : StationEvent)
      (old new : EntryShown) (same : IsSameSeat s t) (complete : IsComplete t) (own : is_own station.origin e ≡ true)
      (turn : HasEntered (λ before. (is_ready station.origin before e ≡ true) × (is_full station.origin before e ≡ false)
      × (new ≡ entry_shown old.room (entry_at station.origin before e))) s t e) where
    abbrev pub before : List (ℕ × StationEvent)
    before = turn.before

    abbrev pub frames : List Frame
    frames = frames_at station.origin before e

    frames_are : new.frames ≡ frames
    frames_are = ap (λ (x : EntryShown). x.frames) turn.gives.2

    pub some_answer : new.answer ≡ Some (entry_at station.origin before e).answer
    some_answer = ap (λ (x : EntryShown). x.answer) turn.gives.2

    entered : (h : Sitting HubLog HubEvent) (count : ℕ) → count ≤ length frames → HasPosted g h (take count frames) →
        Does (port_at s g) (port_at t h) (Enters before e count ∷ [])
    entered h count few posted = record {
      same = record { host = refl; station = refl; hub = refl; ticks = refl; seat = same; hub_seat = posted.same };
      log = (
        record {
          later = turn.later;
          mine = own_before s t before e same.2 complete turn.seen turn.mine;
          own = own;
          ready = turn.gives.0;
          room = turn.gives.1;
          posted_few = few;
        },
        (
          subst (IsPrefix (before ++ (s.number, e) ∷ [])) (sym turn.seen) (prefix_self (before ++ (s.number, e) ∷ [])),
          posted.seen,
          turn.mine,
          posted.mine,
        ),
      );
    }

    -- and all its frames were posted
    pub made : (h : Sitting HubLog HubEvent) (given : EventAnswer) → new.answer ≡ Some given → HasPosted g h new.frames →
        HasMade (port_at s g) (port_at t h) [] e given
    made h given answer posted = record {
      before = before;
      does = entered h (length frames) (omega arith)
          (subst (HasPosted g h) (frames_are ∙ sym (take_all (length frames) frames (omega arith))) posted);
      seen = turn.seen;
      answer = same_Some given (entry_at station.origin before e).answer (sym answer ∙ some_answer);
    }

    -- or some of them, before the hub refused one
    pub cut : (h : Sitting HubLog HubEvent) (why : Room) → HasStoppedPosting g h new.frames why →
        IsRefused (port_at s g) (port_at t h) why [] (IsCutEvent station.origin e)
    cut h why stopped =
        let few : stopped.count < length frames = let low = stopped.few in omega (arith, ap length frames_are) in
        record {
          last = Enters before e stopped.count ∷ [];
          met = AtHub (hub_events.Post stopped.frame);
          does = entered h stopped.count (omega arith) (subst (λ l. HasPosted g h (take stopped.count l)) frames_are stopped.posted);
          cut = (refl, few);
          is_met = (refl, stopped.refused);
        }

  -- It was not.
  pub looked : (s t : Sitting StationHistory StationEvent) (g : Sitting HubLog HubEvent) → IsSameSeat s t → HasLooked s t →
      Does (port_at s g) (port_at t g) []
  looked s t g same looked_on = record {
    same = record { host = refl; station = refl; hub = refl; ticks = refl; seat = same; hub_seat = (refl, refl, refl) };
    log = (looked_on.0, prefix_self g.seen, looked_on.1, refl);
  }

  pub refused : (s t : Sitting StationHistory StationEvent) (g : Sitting HubLog HubEvent) (e : StationEvent) (why : Room) → IsSameSeat s t →
      HasLooked s t → is_ready station.origin t.seen e ≡ true → is_full station.origin t.seen e ≡ is_room_full why →
      IsRefused (port_at s g) (port_at t g) why [] (IsCutEvent station.origin e)
  refused s t g e why same looked_on ready full = record {
    last = [];
    met = AtStation e;
    does = looked s t g same looked_on;
    cut = refl;
    is_met = (ready, full);
  }

  -- A fetch.
  pub fetched_some : (s : Sitting StationHistory StationEvent) (g h : Sitting HubLog HubEvent) (f : Fetched) → IsSameSeat g h → IsComplete h →
      HasEntered (λ before. (is_at_limit before (hub_events.Fetch host) ≡ false)
      × (f ≡ fetched_from hub.origin.programs (traffic_of hub.origin before) host)) g h (hub_events.Fetch host) →
      HasFetchedFrame (port_at s g) (port_at s h) f
  fetched_some s g h f same complete turn = record {
    same = record { host = refl; station = refl; hub = refl; ticks = refl; seat = (refl, refl, refl); hub_seat = same };
    heard = turn.before;
    at = record {
      later = turn.later;
      mine = own_before g h turn.before (hub_events.Fetch host) same.2 complete turn.seen turn.mine;
      room = turn.gives.0;
      answered = sym turn.gives.1;
    };
    stand = λ i. record { seen = s.seen; mine = s.mine; heard = turn.seen i; sent = turn.mine i };
  }

-- A frame that was fetched is delivered, or refused; or the fetch heard that the hub has ended.
module _ (p q : PortValue) (frame : Frame) (got : HasFetchedFrame p q (fetched.Frame frame)) where
  abbrev pub e : StationEvent
  e = events.Deliver frame

  berth : berth_of q ≡ berth_of p
  berth = berth_same p q got.same

  -- the log of the entry, as it goes on from the fetch
  on : (r : PortValue) (before : List (ℕ × StationEvent)) (count : ℕ) → Does q r (Enters before e count ∷ []) →
      Does p r (Delivers got.heard frame before count ∷ [])
  on r before count does =
      let entry : IsLog (berth_of p) (fetched_at (berth_of p) (stand_of p) got.heard) (Enters before e count ∷ []) (stand_of r) =
      subst (λ s. IsLog (berth_of p) s (Enters before e count ∷ []) (stand_of r)) got.stand
      (subst (λ b. IsLog b (stand_of q) (Enters before e count ∷ []) (stand_of r)) berth does.log) in
      record { same = same_over p q r got.same does.same; log = ((got.at, entry.0), entry.1) }

  dropped_does : (r : PortValue) → Does q r [] → Does p r (Drops got.heard frame ∷ [])
  dropped_does r does =
      let none : IsLog (berth_of p) (fetched_at (berth_of p) (stand_of p) got.heard) [] (stand_of r) =
      subst (λ s. IsLog (berth_of p) s [] (stand_of r)) got.stand
      (subst (λ b. IsLog b (stand_of q) [] (stand_of r)) berth does.log) in
      record { same = same_over p q r got.same does.same; log = (got.at, none) }

  -- as the event of the delivery was cut short
  cut_short : (r : PortValue) (why : Room) (last : List Action) (met : Met) → Does q r last → IsCutEvent q.station.origin e last met →
      IsMet r why met → IsRefused p r why [] (IsCutPump p.station.origin p.host)
  cut_short r why [] met does is is_met =
      record { last = Drops got.heard frame ∷ []; met = met; does = dropped_does r does; cut = is; is_met = is_met }
  cut_short r why (Enters before x posted ∷ []) (AtHub (hub_events.Post f)) does is is_met = record {
    last = Delivers got.heard frame before posted ∷ [];
    met = AtHub (hub_events.Post f);
    does = on r before posted (subst (λ y. Does q r (Enters before y posted ∷ [])) is.0 does);
    cut = subst (λ (c : Cell StationHistory). posted < length (frames_at c.origin before e)) got.same.station is.1;
    is_met = is_met;
  }
  cut_short r why acts met does is is_met = absurd is

  pub undelivered : (r : PortValue) (why : Room) → IsRefused q r why [] (IsCutEvent q.station.origin e) →
      IsRefused p r why [] (IsCutPump p.station.origin p.host)
  undelivered r why refused = cut_short r why refused.last refused.met refused.does refused.cut refused.is_met

-- After what a port did before.
module _ (p q r : PortValue) (first : List Action) (does : Does p q first) where
  pub made_after : (e : StationEvent) (given : EventAnswer) → HasMade q r [] e given → HasMade p r first e given
  made_after e given made =
      let P : Cell StationHistory → Type 0 = λ c. Does q r (Enters made.before e (length (frames_at c.origin made.before e)) ∷ []) in
      record {
        before = made.before;
        does =
            does_more p q r first (Enters made.before e (length (frames_at p.station.origin made.before e)) ∷ []) does
            (subst P does.same.station made.does);
        seen = made.seen ∙ ap (λ n. made.before ++ (n, e) ∷ []) does.same.seat.2;
        answer = subst (λ (c : Cell StationHistory). given ≡ (entry_at c.origin made.before e).answer) does.same.station made.answer;
      }

  pub heard_after : HasHeard q r [] → HasHeard p r first
  heard_after heard = record { heard = heard.heard; does = does_more p q r first (Hears heard.heard ∷ []) does heard.does }

  pub refused_after : (why : Room) (IsCut IsCutThen : List Action → Met → Type 0) → ((acts : List Action) (m : Met) → IsCut acts m → IsCutThen acts m) →
      IsRefused q r why [] IsCut → IsRefused p r why first IsCutThen
  refused_after why IsCut IsCutThen weaker refused = record {
    last = refused.last;
    met = refused.met;
    does = does_more p q r first refused.last does refused.does;
    cut = weaker refused.last refused.met refused.cut;
    is_met = refused.is_met;
  }

-- Delivered frames, and turns in which nothing was done.
pub pumped_more : (p q r : PortValue) (first : List Action) (given : EventAnswer) → Each (IsPumping p.station.origin) first → Does p q first →
    HasDelivered q r given → (next : List Action) × Each (IsPumping p.station.origin) next × Does p r next
pumped_more p q r first given all does made =
    let e : StationEvent = events.Deliver made.frame in
    let P : Cell StationHistory → Type 0 =
    λ c. Does q r (Delivers made.heard made.frame made.before (length (frames_at c.origin made.before e)) ∷ []) in
    let last : Action = Delivers made.heard made.frame made.before (length (frames_at p.station.origin made.before e)) in (
      first ++ last ∷ [],
      each_append (IsPumping p.station.origin) first (last ∷ []) all (refl, tt),
      does_more p q r first (last ∷ []) does (subst P does.same.station made.does),
    )

pub rested_more : (p q r : PortValue) (first : List Action) → Does p q first → Does q r [] → Does p r first
rested_more p q r first does none = subst (Does p r) (append-nil first) (does_more p q r first [] does none)

-- What was made is answered so.
pub made_call : (p q : PortValue) (first : List Action) (pid : Pid) (call : Call) (given : EventAnswer) →
    HasMade p q first (events.Call pid call) given → IsCallAnswer given
made_call p q first pid call given made = subst IsCallAnswer (sym made.answer) (call_answer p.station.origin made.before pid call)

pub made_tick : (p q : PortValue) (first : List Action) (given : EventAnswer) → HasMade p q first events.Tick given → HoldsTick given
made_tick p q first given made = subst HoldsTick (sym made.answer) (tick_answer p.station.origin made.before)

pub made_collect : (p q : PortValue) (e : StationEvent) (given : EventAnswer) → is_collect e ≡ true → HasMade p q [] e given → HoldsAnswer given
made_collect p q (events.Collect pid) given is made =
    subst HoldsAnswer (sym made.answer) (collect_answer p.station.origin made.before pid made.does.log.0.ready)
made_collect p q (events.Call pid call) given is made = absurd (cc is)
made_collect p q events.Tick given is made = absurd (cc is)
made_collect p q (events.Deliver frame) given is made = absurd (cc is)

pub got_frame : (p q : PortValue) (f : Fetched) (frame : Frame) → f ≡ fetched.Frame frame → (f ≢ fetched.Nothing → HasFetchedFrame p q f) →
    HasFetchedFrame p q (fetched.Frame frame)
got_frame p q f frame is got = subst (HasFetchedFrame p q) is (got (λ none. let bad : fetched.Frame frame ≡ fetched.Nothing = sym is ∙ none in cc))

-- A refusal after frames that were delivered before.
module _ (p q r : PortValue) (first : List Action) (does : Does p q first) (why : Room) (e : StationEvent) where
  pub refused_event : IsRefused q r why [] (IsCutEvent q.station.origin e) →
      IsRefused p r why first (λ last m. IsCutEvent p.station.origin e last m ⊎ IsCutPump p.station.origin p.host last m)
  refused_event refusal =
      refused_after p q r first does why (IsCutEvent q.station.origin e)
      (λ last m. IsCutEvent p.station.origin e last m ⊎ IsCutPump p.station.origin p.host last m)
      (λ last m is. inl (subst (λ (c : Cell StationHistory). IsCutEvent c.origin e last m) does.same.station is))
      refusal

  pub refused_pump : IsRefused q r why [] (IsCutPump q.station.origin q.host) →
      IsRefused p r why first (λ last m. IsCutEvent p.station.origin e last m ⊎ IsCutPump p.station.origin p.host last m)
  refused_pump refusal =
      refused_after p q r first does why (IsCutPump q.station.origin q.host)
      (λ last m. IsCutEvent p.station.origin e last m ⊎ IsCutPump p.station.origin p.host last m)
      (λ last m is. inr (subst (λ h. IsCutPump p.station.origin h last m) does.same.host
      (subst (λ (c : Cell StationHistory). IsCutPump c.origin q.host last m) does.same.station is)))
      refusal
