-- What seats came back, against the passages that left them.
use Rattle.std.proofs.Common.{append_assoc, ◌≡◌, ℕ, ◌==◌, ◌||◌, eqb-true, eq-eqb, Bool, true, false, cond, Option, Some, None, All, List, [], ◌∷◌, ◌++◌, filter, map, refl, sym, ap, ◌∙◌, subst, inl, inr}
use mathlib.Core.List.{IsPrefix}
use Rattle.std.specs.List.{list_any}
use Rattle.std.proofs.lemmas.Bool.{or_parts}
use Rattle.std.proofs.lemmas.Option.{same_Some}
use Rattle.std.proofs.lemmas.List.Elements.{All-cons, All-head, All-nil, All-tail}
use Rattle.vk_types.specs.Types.{StationEvent}
use Rattle.turn_cell.specs.declared.replay.Room.{Room}
use Rattle.turn_cell.specs.declared.replay.Room.TheVariants as rooms
use Rattle.turn_cell.specs.History.{events_of}
use Rattle.turn_cell.specs.Seats.{Cell, IsSeatOf, Sitting, numbers_of}
use Rattle.vk_base.specs.Settings.{Settings, has_station}
use Rattle.vk_hub.specs.declared.event.HubEvent.{HubEvent}
use Rattle.vk_hub.specs.Hubs.{HubLog}
use Rattle.vk_port.specs.Stations.{StationHistory}
use Rattle.vk_rules.specs.Each.{Each}
use Rattle.v_run.specs.Closed.{IsClosed, numbers_at}
use Rattle.v_run.specs.Jobs.{JobEnd, OneOf}
use Rattle.v_run.specs.Passages.{Passage, host_of, hub_number_of, number_of}
use Rattle.v_run.specs.Runs.{passages_of}
use Rattle.vk_threads.specs.Ended.{AllLeft, AreEndsOf, AreLeft, cell_at}
use Rattle.vk_threads.specs.Gathered.{all_seats, hub_seat_in, is_at, is_met_full, is_met_no_memory, met_full, met_no_memory, seat_in, seats_at, spare_of}
use Rattle.vk_threads.specs.declared.end.End.{End}
use Rattle.vk_threads.specs.declared.end.Seats.{Seats}
use Rattle.vk_threads.specs.declared.opening.Site.{Site}
use Rattle.vk_threads.proofs.Sitting.{among, site_host}

abbrev pub sat_at : ℕ → List Seats → List (Sitting StationHistory StationEvent)
sat_at h ss = seats_at h (map spare_of ss)

module _ (sites : List Site) (hub : Cell HubLog) where
  left_both : (ss ts : List Seats) (gs fs : List Passage) → AllLeft sites hub ss gs → AllLeft sites hub ts fs → AllLeft sites hub (ss ++ ts) (gs ++ fs)
  left_both [] ts [] fs one two = two
  left_both [] ts (g ∷ gs) fs one two = absurd one
  left_both (s ∷ ss) ts [] fs one two = absurd one
  left_both (s ∷ ss) ts (g ∷ gs) fs one two = (one.0, left_both ss ts gs fs one.1 two)

  pub all_left : (es : List End) (js : List JobEnd) → AreEndsOf sites hub es js → AllLeft sites hub (all_seats es) (passages_of js)
  all_left [] [] are = tt
  all_left [] (j ∷ js) are = absurd are
  all_left (e ∷ es) [] are = absurd are
  all_left (e ∷ es) (j ∷ js) are = left_both e.seats.items (all_seats es) j.passages (passages_of js) are.0.0 (all_left es js are.1)

  none_met : (e : Option Room) (j : Option Room) → e ≡ j → is_met_full e ≡ false → is_met_no_memory e ≡ false → j ≡ None
  none_met None j same full wanting = sym same
  none_met (Some rooms.Full) j same full wanting = absurd (cc full)
  none_met (Some rooms.NoMemory) j same full wanting = absurd (cc wanting)

  full_met : (e : Option Room) (j : Option Room) → e ≡ j → is_met_full e ≡ true → j ≡ Some rooms.Full
  full_met None j same full = absurd (cc full)
  full_met (Some rooms.Full) j same full = sym same
  full_met (Some rooms.NoMemory) j same full = absurd (cc full)

  -- where no job met a Room
  pub unlimited : (es : List End) (js : List JobEnd) → AreEndsOf sites hub es js → list_any met_no_memory es ≡ false → list_any met_full es ≡ false
      → Each (λ (j : JobEnd). j.met ≡ None) js
  unlimited [] [] are wanting full = tt
  unlimited [] (j ∷ js) are wanting full = absurd are
  unlimited (e ∷ es) [] are wanting full = absurd are
  unlimited (e ∷ es) (j ∷ js) are wanting full =
      let less = or_parts (met_no_memory e) (list_any met_no_memory es) wanting in
      let few = or_parts (met_full e) (list_any met_full es) full in
      (none_met e.met j.met are.0.1 few.0 less.0, unlimited es js are.1 less.1 few.1)

  limited_by : (e : End) (es : List End) (j : JobEnd) (js : List JobEnd) → e.met ≡ j.met
      → (list_any met_full es ≡ true → OneOf (λ (j : JobEnd). j.met ≡ Some rooms.Full) js) → (b : Bool) → met_full e ≡ b
      → (b || list_any met_full es) ≡ true → OneOf (λ (j : JobEnd). j.met ≡ Some rooms.Full) (j ∷ js)
  limited_by e es j js same rest true is any = inl (full_met e.met j.met same is)
  limited_by e es j js same rest false is any = inr (rest any)

  -- where one met a full one
  pub limited : (es : List End) (js : List JobEnd) → AreEndsOf sites hub es js → list_any met_full es ≡ true
      → OneOf (λ (j : JobEnd). j.met ≡ Some rooms.Full) js
  limited [] [] are full = absurd (cc full)
  limited [] (j ∷ js) are full = absurd are
  limited (e ∷ es) [] are full = absurd are
  limited (e ∷ es) (j ∷ js) are full = limited_by e es j js are.0.1 (limited es js are.1) (met_full e) refl full

  -- the seats' numbers are those of the passages
  pub hub_numbers : (ss : List Seats) (gs : List Passage) → AllLeft sites hub ss gs → numbers_of (map hub_seat_in ss) ≡ map hub_number_of gs
  hub_numbers [] [] are = refl
  hub_numbers [] (g ∷ gs) are = absurd are
  hub_numbers (s ∷ ss) [] are = absurd are
  hub_numbers (s ∷ ss) (g ∷ gs) are =
      ap (λ n. n ∷ numbers_of (map hub_seat_in ss)) are.0.2.hub_number ∙ ap (λ l. hub_number_of g ∷ l) (hub_numbers ss gs are.1)

  numbers_by : (s : Seats) (ss : List Seats) (n : ℕ) (ns : List ℕ) (b : Bool) → s.seat.number ≡ n → (h : ℕ) → numbers_of (sat_at h ss) ≡ ns
      → numbers_of (map seat_in (cond b (spare_of s ∷ filter (is_at h) (map spare_of ss)) (filter (is_at h) (map spare_of ss)))) ≡ cond b (n ∷ ns) ns
  numbers_by s ss n ns true one h rest = ap (λ k. k ∷ numbers_of (sat_at h ss)) one ∙ ap (λ l. n ∷ l) rest
  numbers_by s ss n ns false one h rest = rest

  pub station_numbers : (ss : List Seats) (gs : List Passage) (h : ℕ) → AllLeft sites hub ss gs → numbers_of (sat_at h ss) ≡ numbers_at h gs
  station_numbers [] [] h are = refl
  station_numbers [] (g ∷ gs) h are = absurd are
  station_numbers (s ∷ ss) [] h are = absurd are
  station_numbers (s ∷ ss) (g ∷ gs) h are =
      numbers_by s ss (number_of g) (numbers_at h gs) (s.host == h) are.0.2.number h (station_numbers ss gs h are.1)
      ∙ ap (λ k. cond (k == h) (number_of g ∷ numbers_at h gs) (numbers_at h gs)) are.0.2.host

  -- all seats at the hub are of the hub
  pub hub_seats : (ss : List Seats) (gs : List Passage) → AllLeft sites hub ss gs → All (IsSeatOf hub) (map hub_seat_in ss)
  hub_seats [] [] are = All-nil (IsSeatOf hub)
  hub_seats [] (g ∷ gs) are = absurd are
  hub_seats (s ∷ ss) [] are = absurd are
  hub_seats (s ∷ ss) (g ∷ gs) are = All-cons (IsSeatOf hub) s.hub_seat (map hub_seat_in ss) are.0.2.hub_seat (hub_seats ss gs are.1)

  -- all seats at a station are of its cell
  of_cell_by : (s : Seats) (ss : List Seats) (h : ℕ) (cell own : Cell StationHistory) → cell_at sites s.host ≡ Some own → IsSeatOf own s.seat
      → cell_at sites h ≡ Some cell → All (IsSeatOf cell) (sat_at h ss) → (b : Bool) → (s.host == h) ≡ b
      → All (IsSeatOf cell) (map seat_in (cond b (spare_of s ∷ filter (is_at h) (map spare_of ss)) (filter (is_at h) (map spare_of ss))))
  of_cell_by s ss h cell own there one found rest true is =
      let same : own ≡ cell = same_Some own cell (sym there ∙ (ap (cell_at sites) (eqb-true s.host h is) ∙ found)) in
      All-cons (IsSeatOf cell) s.seat (sat_at h ss) (subst (λ (x : Cell StationHistory). IsSeatOf x s.seat) same one) rest
  of_cell_by s ss h cell own there one found rest false is = rest

  pub of_cell : (ss : List Seats) (gs : List Passage) (h : ℕ) (cell : Cell StationHistory) → AllLeft sites hub ss gs → cell_at sites h ≡ Some cell
      → All (IsSeatOf cell) (sat_at h ss)
  of_cell [] [] h cell are found = All-nil (IsSeatOf cell)
  of_cell [] (g ∷ gs) h cell are found = absurd are
  of_cell (s ∷ ss) [] h cell are found = absurd are
  of_cell (s ∷ ss) (g ∷ gs) h cell are found =
      of_cell_by s ss h cell are.0.0 (ap (cell_at sites) are.0.2.host ∙ are.0.1) are.0.2.seat found (of_cell ss gs h cell are.1 found) (s.host == h) refl

  -- each passage was at a station of the configuration
  pub at_stations : (c : Settings) (ss : List Seats) (gs : List Passage) → ((h : ℕ) → list_any (λ x. x == h) (map site_host sites) ≡ has_station c.specs h)
      → AllLeft sites hub ss gs → Each (λ g. has_station c.specs (host_of g) ≡ true) gs
  at_stations c [] [] all are = tt
  at_stations c [] (g ∷ gs) all are = absurd are
  at_stations c (s ∷ ss) [] all are = absurd are
  at_stations c (s ∷ ss) (g ∷ gs) all are =
      (sym (all (host_of g)) ∙ among sites (host_of g) are.0.0 are.0.1, at_stations c ss gs all are.1)

  -- WHAT CLOSED HISTORIES say of seats, they say of the passages that left them.
  abbrev pub StationSays : (ℕ → List (ℕ × StationEvent)) → List Seats → Type 0
  StationSays histories ss = (h : ℕ) (cell : Cell StationHistory) → cell_at sites h ≡ Some cell →
      All (λ (s : Sitting StationHistory StationEvent). IsPrefix s.seen (histories h)) (sat_at h ss)
      × All (λ (s : Sitting StationHistory StationEvent). events_of s.number (histories h) ≡ s.mine) (sat_at h ss)

  abbrev pub HubSays : List (ℕ × HubEvent) → List Seats → Type 0
  HubSays heard ss =
      All (λ (s : Sitting HubLog HubEvent). IsPrefix s.seen heard) (map hub_seat_in ss)
      × All (λ (s : Sitting HubLog HubEvent). events_of s.number heard ≡ s.mine) (map hub_seat_in ss)

  first_of : (P : Sitting StationHistory StationEvent → Type 0) (s : Seats) (ss : List Seats) (h : ℕ) → (s.host == h) ≡ true
      → All P (sat_at h (s ∷ ss)) → P s.seat
  first_of P s ss h is all =
      All-head P s.seat (sat_at h ss)
      (subst (All P) (ap (λ b. map seat_in (cond b (spare_of s ∷ filter (is_at h) (map spare_of ss)) (filter (is_at h) (map spare_of ss)))) is) all)

  rest_by : (P : Sitting StationHistory StationEvent → Type 0) (s : Seats) (ss : List Seats) (h : ℕ) (b : Bool)
      → All P (map seat_in (cond b (spare_of s ∷ filter (is_at h) (map spare_of ss)) (filter (is_at h) (map spare_of ss)))) → All P (sat_at h ss)
  rest_by P s ss h true all = All-tail P s.seat (sat_at h ss) all
  rest_by P s ss h false all = all

  prefix_through : {A : Type 0} (xs ys zs : List A) → IsPrefix xs ys → IsPrefix ys zs → IsPrefix xs zs
  prefix_through xs ys zs one two = (one.0 ++ two.0, sym (append_assoc xs one.0 two.0) ∙ (ap (λ l. l ++ two.0) one.1 ∙ two.1))

  one_closed : (histories : ℕ → List (ℕ × StationEvent)) (heard : List (ℕ × HubEvent)) (s : Seats) (g : Passage) (cell : Cell StationHistory)
      → AreLeft cell hub s g → IsPrefix s.seat.seen (histories s.host) → events_of s.seat.number (histories s.host) ≡ s.seat.mine
      → IsPrefix s.hub_seat.seen heard → events_of s.hub_seat.number heard ≡ s.hub_seat.mine → IsClosed histories heard g
  one_closed histories heard s g cell left seen mine hub_seen hub_mine = record {
    seen = subst (λ n. IsPrefix g.left.seen (histories n)) left.host
        (subst (λ (l : List (ℕ × StationEvent)). IsPrefix l (histories s.host)) left.seen seen);
    mine = ap (λ n. events_of n (histories (host_of g))) (sym left.number)
        ∙ (ap (λ n. events_of s.seat.number (histories n)) (sym left.host) ∙ (mine ∙ left.mine));
    heard = prefix_through g.left.heard s.hub_seat.seen heard left.heard hub_seen;
    sent = ap (λ n. events_of n heard) (sym left.hub_number) ∙ (hub_mine ∙ left.sent);
  }

  pub all_closed : (histories : ℕ → List (ℕ × StationEvent)) (heard : List (ℕ × HubEvent)) (ss : List Seats) (gs : List Passage) → AllLeft sites hub ss gs
      → StationSays histories ss → HubSays heard ss → Each (IsClosed histories heard) gs
  all_closed histories heard [] [] are stations hubs = tt
  all_closed histories heard [] (g ∷ gs) are stations hubs = absurd are
  all_closed histories heard (s ∷ ss) [] are stations hubs = absurd are
  all_closed histories heard (s ∷ ss) (g ∷ gs) are stations hubs =
      let Seen = λ (h : ℕ) (x : Sitting StationHistory StationEvent). IsPrefix x.seen (histories h) in
      let Mine = λ (h : ℕ) (x : Sitting StationHistory StationEvent). events_of x.number (histories h) ≡ x.mine in
      let HubSeen = λ (x : Sitting HubLog HubEvent). IsPrefix x.seen heard in
      let HubMine = λ (x : Sitting HubLog HubEvent). events_of x.number heard ≡ x.mine in
      let own = stations s.host are.0.0 (ap (cell_at sites) are.0.2.host ∙ are.0.1) in
      let is : (s.host == s.host) ≡ true = eq-eqb s.host s.host refl in (
        one_closed histories heard s g are.0.0 are.0.2 (first_of (Seen s.host) s ss s.host is own.0) (first_of (Mine s.host) s ss s.host is own.1)
            (All-head HubSeen s.hub_seat (map hub_seat_in ss) hubs.0) (All-head HubMine s.hub_seat (map hub_seat_in ss) hubs.1),
        all_closed histories heard ss gs are.1
            (λ h cell found. let all = stations h cell found in (rest_by (Seen h) s ss h (s.host == h) all.0, rest_by (Mine h) s ss h (s.host == h) all.1))
            (All-tail HubSeen s.hub_seat (map hub_seat_in ss) hubs.0, All-tail HubMine s.hub_seat (map hub_seat_in ss) hubs.1),
      )
