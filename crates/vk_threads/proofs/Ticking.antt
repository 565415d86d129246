-- From what the clock did with its ports, and how it closed them, to its end.
use Rattle.std.proofs.Common.{◌≡◌, ◌≢◌, ℕ, ◌+◌, ◌≤◌, Bool, true, false, Option, Some, None, List, [], ◌∷◌, ◌++◌, ◌⊎◌, inl, inr, length, map, drop, take, get_or, zero, suc, refl, sym, ap, ◌∙◌, subst, arith}
use Rattle.turn_cell.proofs.Histories.{prefix_self}
use Rattle.turn_cell.specs.Seats.{Cell}
use Rattle.turn_cell.specs.declared.replay.Room.{Room}
use Rattle.turn_cell.specs.declared.replay.Room.TheVariants as rooms
use Rattle.vk_base.specs.Settings.{Settings}
use Rattle.vk_base.proofs.ListLemmas.{all_written}
use Rattle.vk_hub.specs.Hubs.{HubLog, has_halt}
use Rattle.vk_hub.specs.declared.event.HubEvent.{HubEvent}
use Rattle.vk_hub.specs.declared.event.HubEvent.TheVariants as hub_events
use Rattle.vk_port.specs.Ports.{Action, PortValue}
use Rattle.vk_rules.specs.Each.{Each}
use Rattle.v_run.specs.Jobs.{EndsRole, GoesOn, HaltsNot, KeepsTime, MetFull, OneOf, last_entries, losses}
use Rattle.v_run.specs.Passages.{HasHeard, Passage, Ticks}
use Rattle.vk_threads.specs.declared.end.Seats.{Seats}
use Rattle.vk_threads.specs.Clocks.{AreTicked, HaveRounds, HaveRoundsCut, OneFindsFull, OneHears, TickBetween, all_lost}
use Rattle.vk_threads.specs.Ends.{AreThrough, ArePortsClosed, GoesAllRounds, IsAt, IsOf, MayEnd, TicksAll, port_host, role_of, ticking}
use Rattle.vk_threads.specs.Works.{HasClosed}
use Rattle.vk_threads.proofs.Ending.{Behind, closed_behind, halt_finished, halted_behind, is_through, last_none, met_full, none_finished, none_halt, passage_of}

-- one passage for each port, of which the first may have halted the hub
abbrev pub quiet : List PortValue → List PortValue → List (List Action) → List Passage
quiet [] qs all = []
quiet (p ∷ ps) [] all = []
quiet (p ∷ ps) (q ∷ qs) [] = []
quiet (p ∷ ps) (q ∷ qs) (a ∷ all) = passage_of p q a Ticks [] q.hub_seat.seen ∷ quiet ps qs all

abbrev pub AreHalted : List HubEvent → Type 0
AreHalted last = (last ≡ []) ⊎ (last ≡ hub_events.Halt ∷ [])

-- What does not depend on how the first was closed.
quiet_through : (ps qs : List PortValue) (all : List (List Action)) (ss : List Seats) → AreTicked ps qs all → ArePortsClosed qs ss false
    → AreThrough ps ss (quiet ps qs all)
quiet_through [] [] [] [] does closed = tt
quiet_through [] [] [] (s ∷ ss) does closed = absurd closed
quiet_through (p ∷ ps) (q ∷ qs) (a ∷ all) (s ∷ ss) does closed = (
  is_through p q a Ticks s [] q.hub_seat.seen does.0 (closed_behind q s closed.1) (closed.0 ∙ does.0.same.host) does.1 last_none,
  quiet_through ps qs all ss does.2 closed.2,
)
quiet_through (p ∷ ps) (q ∷ qs) (a ∷ all) [] does closed = absurd closed
quiet_through [] (x ∷ qs) all ss does closed = absurd does
quiet_through [] [] (a ∷ all) ss does closed = absurd does
quiet_through (p ∷ ps) [] all ss does closed = absurd does
quiet_through (p ∷ ps) (x ∷ qs) [] ss does closed = absurd does

quiet_roles : (ps qs : List PortValue) (all : List (List Action)) → AreTicked ps qs all → map role_of (quiet ps qs all) ≡ ticking ps
quiet_roles [] [] [] does = refl
quiet_roles (p ∷ ps) (q ∷ qs) (a ∷ all) does = ap (λ l. Ticks ∷ l) (quiet_roles ps qs all does.2)
quiet_roles [] (x ∷ qs) all does = absurd does
quiet_roles [] [] (a ∷ all) does = absurd does
quiet_roles (p ∷ ps) [] all does = absurd does
quiet_roles (p ∷ ps) (x ∷ qs) [] does = absurd does

quiet_time : (done high rounds : ℕ) (ps qs : List PortValue) (all : List (List Action)) → high ≤ done + 1 → high ≤ rounds → AreTicked ps qs all
    → TickBetween done high all → Each (λ (g : Passage). KeepsTime done rounds g g.role) (quiet ps qs all)
quiet_time done high rounds [] [] [] near few does ticks = tt
quiet_time done high rounds (p ∷ ps) (q ∷ qs) (a ∷ all) near few does ticks =
    let most = ticks.1 in ((ticks.0, omega arith, omega arith), quiet_time done high rounds ps qs all near few does.2 ticks.2)
quiet_time done high rounds [] (x ∷ qs) all near few does ticks = absurd does
quiet_time done high rounds [] [] (a ∷ all) near few does ticks = absurd does
quiet_time done high rounds (p ∷ ps) [] all near few does ticks = absurd does
quiet_time done high rounds (p ∷ ps) (x ∷ qs) [] near few does ticks = absurd does

quiet_losses : (ps qs : List PortValue) (all : List (List Action)) → AreTicked ps qs all → losses (quiet ps qs all) ≡ all_lost all
quiet_losses [] [] [] does = refl
quiet_losses (p ∷ ps) (q ∷ qs) (a ∷ all) does = let rest = quiet_losses ps qs all does.2 in omega arith
quiet_losses [] (x ∷ qs) all does = absurd does
quiet_losses [] [] (a ∷ all) does = absurd does
quiet_losses (p ∷ ps) [] all does = absurd does
quiet_losses (p ∷ ps) (x ∷ qs) [] does = absurd does

quiet_last : (ps qs : List PortValue) (all : List (List Action)) → AreTicked ps qs all → last_entries (quiet ps qs all) ≡ 0
quiet_last [] [] [] does = refl
quiet_last (p ∷ ps) (q ∷ qs) (a ∷ all) does = let rest = quiet_last ps qs all does.2 in omega arith
quiet_last [] (x ∷ qs) all does = absurd does
quiet_last [] [] (a ∷ all) does = absurd does
quiet_last (p ∷ ps) [] all does = absurd does
quiet_last (p ∷ ps) (x ∷ qs) [] does = absurd does

quiet_ends : (c : Settings) (ps qs : List PortValue) (all : List (List Action)) → AreTicked ps qs all
    → Each (λ (g : Passage). EndsRole c g g.role) (quiet ps qs all)
quiet_ends c [] [] [] does = tt
quiet_ends c (p ∷ ps) (q ∷ qs) (a ∷ all) does = (none_finished, quiet_ends c ps qs all does.2)
quiet_ends c [] (x ∷ qs) all does = absurd does
quiet_ends c [] [] (a ∷ all) does = absurd does
quiet_ends c (p ∷ ps) [] all does = absurd does
quiet_ends c (p ∷ ps) (x ∷ qs) [] does = absurd does

quiet_halts : (ps qs : List PortValue) (all : List (List Action)) → AreTicked ps qs all
    → Each (λ (g : Passage). HaltsNot g g.role) (quiet ps qs all)
quiet_halts [] [] [] does = tt
quiet_halts (p ∷ ps) (q ∷ qs) (a ∷ all) does = (tt, quiet_halts ps qs all does.2)
quiet_halts [] (x ∷ qs) all does = absurd does
quiet_halts [] [] (a ∷ all) does = absurd does
quiet_halts (p ∷ ps) [] all does = absurd does
quiet_halts (p ∷ ps) (x ∷ qs) [] does = absurd does

quiet_goes : (c : Settings) (ps qs : List PortValue) (all : List (List Action)) → AreTicked ps qs all
    → Each (λ (g : Passage). GoesOn c g g.role) (quiet ps qs all)
quiet_goes c [] [] [] does = tt
quiet_goes c (p ∷ ps) (q ∷ qs) (a ∷ all) does = (tt, quiet_goes c ps qs all does.2)
quiet_goes c [] (x ∷ qs) all does = absurd does
quiet_goes c [] [] (a ∷ all) does = absurd does
quiet_goes c (p ∷ ps) [] all does = absurd does
quiet_goes c (p ∷ ps) (x ∷ qs) [] does = absurd does

-- they went all rounds, or one of them heard that the hub had ended
quiet_all : (rounds : ℕ) (ps qs : List PortValue) (all : List (List Action)) → AreTicked ps qs all → TickBetween rounds rounds all
    → Each (λ (g : Passage). TicksAll rounds g g.role) (quiet ps qs all)
quiet_all rounds [] [] [] does ticks = tt
quiet_all rounds (p ∷ ps) (q ∷ qs) (a ∷ all) does ticks =
    let low = ticks.0 in let most = ticks.1 in (omega arith, quiet_all rounds ps qs all does.2 ticks.2)
quiet_all rounds [] (x ∷ qs) all does ticks = absurd does
quiet_all rounds [] [] (a ∷ all) does ticks = absurd does
quiet_all rounds (p ∷ ps) [] all does ticks = absurd does
quiet_all rounds (p ∷ ps) (x ∷ qs) [] does ticks = absurd does

quiet_hears : (ps qs : List PortValue) (all : List (List Action)) → AreTicked ps qs all → OneHears all
    → OneOf (λ (g : Passage). HasHeard g.actions) (quiet ps qs all)
quiet_hears [] [] [] does hears = absurd hears
quiet_hears (p ∷ ps) (q ∷ qs) (a ∷ all) does (inl has) = inl has
quiet_hears (p ∷ ps) (q ∷ qs) (a ∷ all) does (inr rest) = inr (quiet_hears ps qs all does.2 rest)
quiet_hears [] (x ∷ qs) all does hears = absurd does
quiet_hears [] [] (a ∷ all) does hears = absurd does
quiet_hears (p ∷ ps) [] all does hears = absurd does
quiet_hears (p ∷ ps) (x ∷ qs) [] does hears = absurd does

quiet_whole : (rounds done : ℕ) (ps qs : List PortValue) (all : List (List Action)) → AreTicked ps qs all → TickBetween done done all
    → (done ≡ rounds) ⊎ OneHears all → GoesAllRounds rounds (quiet ps qs all)
quiet_whole rounds done ps qs all does ticks (inl is) = inl (quiet_all rounds ps qs all does (subst (λ n. TickBetween n n all) is ticks))
quiet_whole rounds done ps qs all does ticks (inr hears) = inr (quiet_hears ps qs all does hears)

quiet_full : (c : Settings) (ps qs : List PortValue) (all : List (List Action)) → AreTicked ps qs all → Each (IsOf c) ps → OneFindsFull qs all
    → OneOf (MetFull c) (quiet ps qs all)
quiet_full c [] [] [] does of full = absurd full
quiet_full c (p ∷ ps) (q ∷ qs) (a ∷ all) does of (inl full) = inl (met_full c p q a Ticks [] of.0 does.0 full)
quiet_full c (p ∷ ps) (q ∷ qs) (a ∷ all) does of (inr full) = inr (quiet_full c ps qs all does.2 of.1 full)
quiet_full c [] (x ∷ qs) all does of full = absurd does
quiet_full c [] [] (a ∷ all) does of full = absurd does
quiet_full c (p ∷ ps) [] all does of full = absurd does
quiet_full c (p ∷ ps) (x ∷ qs) [] does of full = absurd does

-- No Room was met, and the hub was not halted.
clock_over : (rounds : ℕ) (ps qs : List PortValue) (ss : List Seats) → HaveRounds rounds ps qs → ArePortsClosed qs ss false
    → MayEnd ps (ticking ps) rounds ss None
clock_over rounds ps qs ss it closed =
    let t = it.ticked in
    record {
      passages = quiet ps qs t.acts;
      through = quiet_through ps qs t.acts ss t.does closed;
      each = quiet_roles ps qs t.acts t.does;
      done = it.done;
      time = quiet_time it.done it.done rounds ps qs t.acts (omega arith) it.few t.does t.ticks;
      whole = λ is. quiet_whole rounds it.done ps qs t.acts t.does t.ticks it.all;
      halted = λ is. absurd (cc is);
      job = λ c of. record {
        losses = (let lost = quiet_losses ps qs t.acts t.does in let few = t.few in omega arith);
        last_entries = (let none = quiet_last ps qs t.acts t.does in omega arith);
        roles = quiet_ends c ps qs t.acts t.does;
        halts = λ is. quiet_halts ps qs t.acts t.does;
        goes_on = λ is. quiet_goes c ps qs t.acts t.does;
        full = λ is. absurd (cc is);
      };
    }

some_is : (x y : Room) → Some x ≡ Some y → x ≡ y
some_is x y is = cc is

-- A Room was met: the first port halted the hub, or found it halted.
halted_through : (p q : PortValue) (ps qs : List PortValue) (a : List Action) (all : List (List Action)) (s : Seats) (ss : List Seats) (last : List HubEvent)
    → AreHalted last → AreTicked (p ∷ ps) (q ∷ qs) (a ∷ all) → Behind q s last q.hub_seat.seen → s.host ≡ q.host → ArePortsClosed qs ss false
    → AreThrough (p ∷ ps) (s ∷ ss) (passage_of p q a Ticks last q.hub_seat.seen ∷ quiet ps qs all)
halted_through p q ps qs a all s ss last (inl is) does behind host closed = (
  is_through p q a Ticks s last q.hub_seat.seen does.0 behind (host ∙ does.0.same.host) does.1 (inl is),
  quiet_through ps qs all ss does.2 closed,
)
halted_through p q ps qs a all s ss last (inr is) does behind host closed = (
  is_through p q a Ticks s last q.hub_seat.seen does.0 behind (host ∙ does.0.same.host) does.1 (inr (inr is)),
  quiet_through ps qs all ss does.2 closed,
)

halted_few : (last : List HubEvent) → AreHalted last → length last ≤ 1
halted_few last (inl is) = let e : length last ≡ 0 = ap length is in omega arith
halted_few last (inr is) = let e : length last ≡ 1 = ap length is in omega arith

halted_unfinished : (last : List HubEvent) → AreHalted last → last ≢ hub_events.Finished ∷ []
halted_unfinished last (inl is) = λ e. none_finished (sym is ∙ e)
halted_unfinished last (inr is) = λ e. halt_finished (sym is ∙ e)

halted_full : (c : Settings) (p q : PortValue) (ps qs : List PortValue) (a : List Action) (all : List (List Action)) (last : List HubEvent)
    → AreTicked (p ∷ ps) (q ∷ qs) (a ∷ all) → Each (IsOf c) (p ∷ ps) → OneFindsFull (q ∷ qs) (a ∷ all)
    → OneOf (MetFull c) (passage_of p q a Ticks last q.hub_seat.seen ∷ quiet ps qs all)
halted_full c p q ps qs a all last does of (inl full) = inl (met_full c p q a Ticks last of.0 does.0 full)
halted_full c p q ps qs a all last does of (inr full) = inr (quiet_full c ps qs all does.2 of.1 full)

first_end : (rounds done high : ℕ) (p q : PortValue) (ps qs : List PortValue) (a : List Action) (all : List (List Action)) (s : Seats) (ss : List Seats)
    (why : Room) (last : List HubEvent) → AreHalted last → high ≤ done + 1 → high ≤ rounds → AreTicked (p ∷ ps) (q ∷ qs) (a ∷ all)
    → TickBetween done high (a ∷ all) → all_lost (a ∷ all) ≤ 1 → (why ≡ rooms.Full → OneFindsFull (q ∷ qs) (a ∷ all))
    → Behind q s last q.hub_seat.seen → has_halt s.hub_seat.seen ≡ true → s.host ≡ q.host → ArePortsClosed qs ss false
    → MayEnd (p ∷ ps) (ticking (p ∷ ps)) rounds (s ∷ ss) (Some why)
first_end rounds done high p q ps qs a all s ss why last ends near few does ticks lost full behind halted host closed = record {
  passages = passage_of p q a Ticks last q.hub_seat.seen ∷ quiet ps qs all;
  through = halted_through p q ps qs a all s ss last ends does behind host closed;
  each = ap (λ l. Ticks ∷ l) (quiet_roles ps qs all does.2);
  done = done;
  time = (let most = ticks.1 in ((ticks.0, omega arith, omega arith), quiet_time done high rounds ps qs all near few does.2 ticks.2));
  whole = λ is. absurd (cc is);
  halted = λ is. halted;
  job = λ c of. record {
    losses = (let rest = quiet_losses ps qs all does.2 in omega arith);
    last_entries = (let none = quiet_last ps qs all does.2 in let one = halted_few last ends in omega arith);
    roles = (halted_unfinished last ends, quiet_ends c ps qs all does.2);
    halts = λ is. absurd (cc is);
    goes_on = λ is. absurd (cc is);
    full = λ is. halted_full c p q ps qs a all last does of (full (some_is why rooms.Full is));
  };
}

cut_end : (rounds done high : ℕ) (ps qs : List PortValue) (all : List (List Action)) (ss : List Seats) (why : Room) → high ≤ done + 1 → high ≤ rounds
    → AreTicked ps qs all → TickBetween done high all → all_lost all ≤ 1 → (why ≡ rooms.Full → OneFindsFull qs all) → ArePortsClosed qs ss true
    → MayEnd ps (ticking ps) rounds ss (Some why)
cut_end rounds done high [] [] [] [] why near few does ticks lost full closed = record {
  passages = [];
  through = tt;
  each = refl;
  done = done;
  time = tt;
  whole = λ is. absurd (cc is);
  halted = λ is. tt;
  job = λ c of. record {
    losses = omega arith;
    last_entries = omega arith;
    roles = tt;
    halts = λ is. tt;
    goes_on = λ is. tt;
    full = λ is. absurd (full (some_is why rooms.Full is));
  };
}
cut_end rounds done high [] [] [] (s ∷ ss) why near few does ticks lost full closed = absurd closed
cut_end rounds done high (p ∷ ps) (q ∷ qs) (a ∷ all) [] why near few does ticks lost full closed = absurd closed
cut_end rounds done high (p ∷ ps) (q ∷ qs) (a ∷ all) (s ∷ ss) why near few does ticks lost full closed =
    either (halted_behind q s q.hub_seat.seen closed.1.seat closed.1.same (prefix_self q.hub_seat.seen) closed.1.heard closed.1.sent)
  where
    either : (Behind q s [] q.hub_seat.seen) ⊎ (Behind q s (hub_events.Halt ∷ []) q.hub_seat.seen)
        → MayEnd (p ∷ ps) (ticking (p ∷ ps)) rounds (s ∷ ss) (Some why)
    either (inl behind) =
        first_end rounds done high p q ps qs a all s ss why [] (inl refl) near few does ticks lost full behind
        (closed.1.halted refl) closed.0 closed.2
    either (inr behind) =
        first_end rounds done high p q ps qs a all s ss why (hub_events.Halt ∷ []) (inr refl) near few does ticks lost full behind
        (closed.1.halted refl) closed.0 closed.2
cut_end rounds done high [] (x ∷ qs) all ss why near few does ticks lost full closed = absurd does
cut_end rounds done high [] [] (a ∷ all) ss why near few does ticks lost full closed = absurd does
cut_end rounds done high (p ∷ ps) [] all ss why near few does ticks lost full closed = absurd does
cut_end rounds done high (p ∷ ps) (x ∷ qs) [] ss why near few does ticks lost full closed = absurd does

pub clock_cut : (rounds : ℕ) (ps qs : List PortValue) (ss : List Seats) (why : Room) → HaveRoundsCut rounds ps qs why → ArePortsClosed qs ss true
    → MayEnd ps (ticking ps) rounds ss (Some why)
clock_cut rounds ps qs ss why it closed =
    let t = it.ticked in
    cut_end rounds it.done it.high ps qs t.acts ss why it.near it.few t.does t.ticks t.few t.full closed

-- No Room was met, and the first port halted the hub, or found it halted.
first_over : (rounds done : ℕ) (p q : PortValue) (ps qs : List PortValue) (a : List Action) (all : List (List Action)) (s : Seats) (ss : List Seats)
    (last : List HubEvent) → AreHalted last → done ≤ rounds → AreTicked (p ∷ ps) (q ∷ qs) (a ∷ all) → TickBetween done done (a ∷ all)
    → all_lost (a ∷ all) ≤ 1 → (done ≡ rounds) ⊎ OneHears (a ∷ all) → Behind q s last q.hub_seat.seen → s.host ≡ q.host
    → ArePortsClosed qs ss false → MayEnd (p ∷ ps) (ticking (p ∷ ps)) rounds (s ∷ ss) None
first_over rounds done p q ps qs a all s ss last ends few does ticks lost whole behind host closed = record {
  passages = passage_of p q a Ticks last q.hub_seat.seen ∷ quiet ps qs all;
  through = halted_through p q ps qs a all s ss last ends does behind host closed;
  each = ap (λ l. Ticks ∷ l) (quiet_roles ps qs all does.2);
  done = done;
  time = (let most = ticks.1 in ((ticks.0, omega arith, omega arith), quiet_time done done rounds ps qs all (omega arith) few does.2 ticks.2));
  whole = λ is. quiet_whole rounds done (p ∷ ps) (q ∷ qs) (a ∷ all) does ticks whole;
  halted = λ is. absurd (cc is);
  job = λ c of. record {
    losses = (let rest = quiet_losses ps qs all does.2 in omega arith);
    last_entries = (let none = quiet_last ps qs all does.2 in let one = halted_few last ends in omega arith);
    roles = (halted_unfinished last ends, quiet_ends c ps qs all does.2);
    halts = λ is. (tt, quiet_halts ps qs all does.2);
    goes_on = λ is. (tt, quiet_goes c ps qs all does.2);
    full = λ is. absurd (cc is);
  };
}

halted_over : (rounds done : ℕ) (ps qs : List PortValue) (all : List (List Action)) (ss : List Seats) → done ≤ rounds → AreTicked ps qs all
    → TickBetween done done all → all_lost all ≤ 1 → (done ≡ rounds) ⊎ OneHears all → ArePortsClosed qs ss true
    → MayEnd ps (ticking ps) rounds ss None
halted_over rounds done [] [] [] [] few does ticks lost whole closed = record {
  passages = [];
  through = tt;
  each = refl;
  done = done;
  time = tt;
  whole = λ is. inl tt;
  halted = λ is. tt;
  job = λ c of. record {
    losses = omega arith;
    last_entries = omega arith;
    roles = tt;
    halts = λ is. tt;
    goes_on = λ is. tt;
    full = λ is. absurd (cc is);
  };
}
halted_over rounds done [] [] [] (s ∷ ss) few does ticks lost whole closed = absurd closed
halted_over rounds done (p ∷ ps) (q ∷ qs) (a ∷ all) [] few does ticks lost whole closed = absurd closed
halted_over rounds done (p ∷ ps) (q ∷ qs) (a ∷ all) (s ∷ ss) few does ticks lost whole closed =
    either (halted_behind q s q.hub_seat.seen closed.1.seat closed.1.same (prefix_self q.hub_seat.seen) closed.1.heard closed.1.sent)
  where
    either : (Behind q s [] q.hub_seat.seen) ⊎ (Behind q s (hub_events.Halt ∷ []) q.hub_seat.seen)
        → MayEnd (p ∷ ps) (ticking (p ∷ ps)) rounds (s ∷ ss) None
    either (inl behind) = first_over rounds done p q ps qs a all s ss [] (inl refl) few does ticks lost whole behind closed.0 closed.2
    either (inr behind) =
        first_over rounds done p q ps qs a all s ss (hub_events.Halt ∷ []) (inr refl) few does ticks lost whole behind closed.0 closed.2
halted_over rounds done [] (x ∷ qs) all ss few does ticks lost whole closed = absurd does
halted_over rounds done [] [] (a ∷ all) ss few does ticks lost whole closed = absurd does
halted_over rounds done (p ∷ ps) [] all ss few does ticks lost whole closed = absurd does
halted_over rounds done (p ∷ ps) (x ∷ qs) [] ss few does ticks lost whole closed = absurd does

-- No Room was met.
pub clock_done : (rounds : ℕ) (ps qs : List PortValue) (ss : List Seats) (halts : Bool) → HaveRounds rounds ps qs → ArePortsClosed qs ss halts
    → MayEnd ps (ticking ps) rounds ss None
clock_done rounds ps qs ss false it closed = clock_over rounds ps qs ss it closed
clock_done rounds ps qs ss true it closed =
    let t = it.ticked in halted_over rounds it.done ps qs t.acts ss it.few t.does t.ticks t.few it.all closed

-- THE PORTS ARE CLOSED, one behind the other.
pub closed_first : (p : PortValue) (ps : List PortValue) (s : Seats) (ss : List Seats) (halts : Bool) → s.host ≡ p.host
    → HasClosed p s.seat s.hub_seat halts → ArePortsClosed ps ss false → ArePortsClosed (p ∷ ps) (s ∷ ss) halts
closed_first p ps s ss halts host one others = (host, one, others)

drop_next : (xs : List ℕ) (n y : ℕ) (ys : List ℕ) → y ∷ ys ≡ drop n xs → (get_or xs n 0 ≡ y) × (ys ≡ drop (suc n) xs)
drop_next [] zero y ys is = absurd (cc is)
drop_next [] (suc n) y ys is = absurd (cc is)
drop_next (x ∷ xs) zero y ys is = (sym (ap (λ l. get_or l 0 0) is), ap (drop 1) is)
drop_next (x ∷ xs) (suc n) y ys is = drop_next xs n y ys is

pub host_next : (p : PortValue) (left all : List PortValue) (hosts : List ℕ) (at : ℕ) → all ≡ p ∷ left → map port_host all ≡ drop at hosts
    → (get_or hosts at 0 ≡ p.host) × (map port_host left ≡ drop (at + 1) hosts)
host_next p left all hosts at is are =
    let next = drop_next hosts at p.host (map port_host left) (sym (ap (map port_host) is) ∙ are) in
    let more : suc at ≡ at + 1 = omega arith in
    (next.0, subst (λ n. map port_host left ≡ drop n hosts) more next.1)

-- Whatever the ports did, they are at their hub and stations as before.
still_at : (hub : Cell HubLog) (ps qs : List PortValue) (all : List (List Action)) → AreTicked ps qs all → Each (IsAt hub) ps → Each (IsAt hub) qs
still_at hub [] [] [] does at = tt
still_at hub (p ∷ ps) (q ∷ qs) (a ∷ all) does at = (does.0.same.hub ∙ at.0, still_at hub ps qs all does.2 at.1)
still_at hub [] (x ∷ qs) all does at = absurd does
still_at hub [] [] (a ∷ all) does at = absurd does
still_at hub (p ∷ ps) [] all does at = absurd does
still_at hub (p ∷ ps) (x ∷ qs) [] does at = absurd does

still_hosts : (ps qs : List PortValue) (all : List (List Action)) → AreTicked ps qs all → map port_host qs ≡ map port_host ps
still_hosts [] [] [] does = refl
still_hosts (p ∷ ps) (q ∷ qs) (a ∷ all) does =
    ap (λ h. h ∷ map port_host qs) does.0.same.host ∙ ap (λ l. p.host ∷ l) (still_hosts ps qs all does.2)
still_hosts [] (x ∷ qs) all does = absurd does
still_hosts [] [] (a ∷ all) does = absurd does
still_hosts (p ∷ ps) [] all does = absurd does
still_hosts (p ∷ ps) (x ∷ qs) [] does = absurd does

-- as the code has them
module _ (ps shown qs : List PortValue) (n : ℕ) (value : shown ≡ ps) (count : n ≡ length ps) (same : length qs ≡ length shown) where
  whole : take n (qs ++ drop (length qs) ps) ≡ qs
  whole = all_written n qs ps count (same ∙ ap length value)

  pub closing_at : (hub : Cell HubLog) (all : List (List Action)) → AreTicked shown qs all → Each (IsAt hub) ps
      → Each (IsAt hub) (take n (qs ++ drop (length qs) ps))
  closing_at hub all does at = subst (Each (IsAt hub)) (sym whole) (still_at hub shown qs all does (subst (Each (IsAt hub)) (sym value) at))

  pub closing_hosts : (hosts told : List ℕ) (all : List (List Action)) → AreTicked shown qs all → map port_host ps ≡ hosts → told ≡ hosts
      → map port_host (take n (qs ++ drop (length qs) ps)) ≡ told
  closing_hosts hosts told all does are is =
      ap (map port_host) whole ∙ still_hosts shown qs all does ∙ ap (map port_host) value ∙ are ∙ sym is

  pub closing_done : (rounds : ℕ) (ss : List Seats) (halts : Bool) → HaveRounds rounds shown qs
      → ArePortsClosed (take n (qs ++ drop (length qs) ps)) ss halts → MayEnd ps (ticking ps) rounds ss None
  closing_done rounds ss halts it closed =
      subst (λ l. MayEnd l (ticking l) rounds ss None) value
      (clock_done rounds shown qs ss halts it (subst (λ l. ArePortsClosed l ss halts) whole closed))

  pub closing_cut : (rounds : ℕ) (ss : List Seats) (why : Room) → HaveRoundsCut rounds shown qs why
      → ArePortsClosed (take n (qs ++ drop (length qs) ps)) ss true → MayEnd ps (ticking ps) rounds ss (Some why)
  closing_cut rounds ss why it closed =
      subst (λ l. MayEnd l (ticking l) rounds ss (Some why)) value
      (clock_cut rounds shown qs ss why it (subst (λ l. ArePortsClosed l ss true) whole closed))
