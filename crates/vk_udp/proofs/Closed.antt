-- What closed histories of a node's station and hub say of its jobs.
use Rattle.std.proofs.Common.{append_assoc, ◌≡◌, ◌+◌, ◌==◌, ℕ, eqb, eqb-true, eq-eqb, Bool, true, false, cond, Some, None, All, List, [], ◌∷◌, ◌++◌, length, map, refl, sym, ap, ◌∙◌, subst, arith, inl, inr, ◌⊎◌}
use mathlib.Core.List.{IsPrefix}
use Rattle.std.specs.List.{list_any}
unfoldable use Rattle.std.specs.List.{IsDistinct}
use Rattle.std.proofs.lemmas.List.{length-append, length-map}
use Rattle.std.proofs.lemmas.List.Elements.{All-append, All-cons, All-head, All-nil, All-tail}
use Rattle.std.proofs.lemmas.List.Folds.{list_any-append}
use Rattle.vk_types.specs.Types.{StationEvent}
use Rattle.turn_cell.specs.History.{events_of}
use Rattle.turn_cell.specs.Seats.{Cell, IsSeatOf, Sitting, numbers_of}
use Rattle.turn_cell.specs.declared.replay.Room.TheVariants as rooms
use Rattle.vk_base.specs.Settings.{Settings}
use Rattle.vk_base.proofs.ListLemmas.{map_end, all_before, all_behind, front_distinct}
use Rattle.vk_hub.specs.declared.event.HubEvent.{HubEvent}
use Rattle.vk_hub.specs.Hubs.{HubLog}
use Rattle.vk_port.specs.Stations.{IsLawfulHistory, StationHistory, event_of}
use Rattle.vk_rules.specs.Each.{Each}
use Rattle.vk_rules.proofs.Lists.{each_with as both_each}
use Rattle.vk_schedule.specs.declared.log.StationLog.{StationLog}
use Rattle.v_node.specs.Closed.{IsLinkClosed, IsNodeClosed, numbers_at_hub, numbers_at_station}
use Rattle.v_node.specs.Jobs.{ClockEnd, LinkEnd, NoneMet, SomeMetFull, passages_in}
use Rattle.v_node.specs.Jobs.{NodeEnd as AllEnds}
use Rattle.v_run.specs.Closed.{IsClosed, numbers_at}
use Rattle.v_run.specs.Jobs.{JobEnd, OneOf}
use Rattle.v_run.specs.Laws.{closed_station}
use Rattle.v_run.specs.Outcomes.{Assignment}
use Rattle.v_run.specs.Passages.{Passage, fresh_station, host_of, hub_number_of, number_of}
use Rattle.v_run.specs.Runs.{passages_of}
use Rattle.v_run.proofs.Heard.{prefix_over}
use Rattle.vk_threads.specs.declared.end.End.{End}
use Rattle.vk_threads.specs.declared.end.Seats.{Seats}
use Rattle.vk_threads.specs.declared.opening.Site.{Site}
use Rattle.vk_threads.specs.Ended.{AllLeft, cell_at}
use Rattle.vk_threads.specs.Gathered.{AreReady, all_hub_seats, all_seats, all_spares, met_full, met_no_memory}
use Rattle.vk_threads.proofs.Recorded.{unknown, both_false, numbers_both, length_numbers}
use Rattle.vk_threads.proofs.Returned.{StationSays, all_closed, all_left, hub_numbers, hub_seats, limited, of_cell, sat_at, station_numbers, unlimited}
use Rattle.vk_threads.proofs.Sitting.{IsShut, histories, logs_say, shut_at}
use Rattle.vk_udp.specs.Ended.{HaveNodeEnded, all_jobs, clock_job, link_job, link_passage}
use Rattle.vk_udp.specs.Gathered.{HasClosedNode, hub_seats_of, site_of}

-- THE PASSAGES of all jobs are those of its programs and its clock, and then the link's.
all_passages : (js : List JobEnd) (k : ClockEnd) (l : LinkEnd)
    → passages_of (js ++ clock_job k ∷ link_job l ∷ []) ≡ (passages_of js ++ k.passage ∷ []) ++ link_passage l ∷ []
all_passages [] k l = refl
all_passages (j ∷ js) k l =
    ap (λ gs. j.passages ++ gs) (all_passages js k l)
    ∙ sym (append_assoc j.passages (passages_of js ++ k.passage ∷ []) (link_passage l ∷ []))
    ∙ ap (λ gs. gs ++ link_passage l ∷ []) (sym (append_assoc j.passages (passages_of js) (k.passage ∷ [])))

-- What holds of each of these holds of the first ones and of the last.
pub each_with : {A : Type 0} (P : A → Type 0) (xs : List A) (y : A) → Each P xs → P y → Each P (xs ++ y ∷ [])
each_with P [] y all last = (last, tt)
each_with P (x ∷ xs) y all last = (all.0, each_with P xs y all.1 last)

each_first : {A : Type 0} (P : A → Type 0) (xs : List A) (y : A) → Each P (xs ++ y ∷ []) → Each P xs
each_first P [] y all = tt
each_first P (x ∷ xs) y all = (all.0, each_first P xs y all.1)

each_last : {A : Type 0} (P : A → Type 0) (xs : List A) (y : A) → Each P (xs ++ y ∷ []) → P y
each_last P [] y all = all.0
each_last P (x ∷ xs) y all = each_last P xs y all.1

-- Where all lay at one station, their numbers there are all numbers.
numbers_here : (h : ℕ) (gs : List Passage) → Each (λ (g : Passage). host_of g ≡ h) gs → numbers_at h gs ≡ map number_of gs
numbers_here h [] here = refl
numbers_here h (g ∷ gs) here =
    ap (λ b. cond b (number_of g ∷ numbers_at h gs) (numbers_at h gs)) (eq-eqb (host_of g) h here.0)
    ∙ ap (λ l. number_of g ∷ l) (numbers_here h gs here.1)

-- The front of different numbers is of different ones.

-- What holds of all seats holds of the first ones, and of the two behind them.

-- WHERE NO JOB MET A ROOM, and where one met a full one.
none_of : (js : List JobEnd) (k : ClockEnd) (l : LinkEnd) → Each (λ (j : JobEnd). j.met ≡ None) (js ++ clock_job k ∷ link_job l ∷ [])
    → Each (λ (j : JobEnd). j.met ≡ None) js × (k.met ≡ None) × (l.met ≡ None)
none_of [] k l all = (tt, all.0, all.1.0)
none_of (j ∷ js) k l all = let rest = none_of js k l all.1 in ((all.0, rest.0), rest.1, rest.2)

some_of : (js : List JobEnd) (k : ClockEnd) (l : LinkEnd)
    → OneOf (λ (j : JobEnd). j.met ≡ Some rooms.Full) (js ++ clock_job k ∷ link_job l ∷ [])
    → OneOf (λ (j : JobEnd). j.met ≡ Some rooms.Full) js ⊎ (k.met ≡ Some rooms.Full) ⊎ (l.met ≡ Some rooms.Full)
some_of [] k l (inl full) = inr (inl full)
some_of [] k l (inr (inl full)) = inr (inr full)
some_of [] k l (inr (inr none)) = absurd none
some_of (j ∷ js) k l (inl full) = inl (inl full)
some_of (j ∷ js) k l (inr one) = elim (some_of js k l one) [
  | inl full ↦ inl (inr full)
  | inr rest ↦ inr rest
]

-- ALL JOBS HAVE ENDED, and the seats of all have come back.
module _ (c : Settings) (host : ℕ) (cell : Cell StationHistory) (hub : Cell HubLog) (rounds : ℕ) (tasks : List Assignment) (n : AllEnds)
    (ends : List End) (fetches halt : Sitting HubLog HubEvent) (origin : cell.origin ≡ fresh_station c host)
    (ended : HaveNodeEnded c host cell hub rounds tasks n ends fetches halt) where
  abbrev sites : List Site
  sites = site_of host cell ∷ []

  abbrev gs : List Passage
  gs = passages_of (all_jobs n)

  abbrev ss : List Seats
  ss = all_seats ends

  left : AllLeft sites hub ss gs
  left = all_left sites hub ends (all_jobs n) ended.each_end

  are : gs ≡ passages_in n ++ link_passage n.link ∷ []
  are = all_passages n.programs n.clock n.link

  here : Each (λ (g : Passage). host_of g ≡ host) gs
  here = subst (Each (λ (g : Passage). host_of g ≡ host)) (sym are)
      (each_with (λ (g : Passage). host_of g ≡ host) (passages_in n) (link_passage n.link) ended.here ended.way.at)

  count : length gs ≡ length (passages_in n) + 1
  count = ap length are ∙ length-append (passages_in n) (link_passage n.link ∷ [])

  found : cell_at sites host ≡ Some cell
  found = ap (λ b. cond b (Some cell) None) (eq-eqb host host refl)

  station_all : numbers_of (sat_at host ss) ≡ numbers_at_station n
  station_all =
      station_numbers sites hub ss gs host left ∙ numbers_here host gs here ∙ ap (map number_of) are
      ∙ map_end number_of (passages_in n) (link_passage n.link)

  pub all_ready : AreReady sites (all_spares ends)
  all_ready =
      let numbers = ap length (station_numbers sites hub ss gs host left ∙ numbers_here host gs here) in
      let each = length_numbers (sat_at host ss) in
      let all = length-map gs number_of in
      let seats = ended.seats in
      (of_cell sites hub ss gs host cell left found, omega (arith, numbers, each, all, count, seats), tt)

  pub hub_all : All (λ s. IsSeatOf hub s) (hub_seats_of ends fetches halt)
  hub_all =
      All-append (IsSeatOf hub) (all_hub_seats ends) (fetches ∷ halt ∷ []) (hub_seats sites hub ss gs left)
      (All-cons (IsSeatOf hub) fetches (halt ∷ []) ended.fetched.of
      (All-cons (IsSeatOf hub) halt [] ended.halt_seat (All-nil (IsSeatOf hub))))

  pub hub_count : length (hub_seats_of ends fetches halt) ≡ hub.seats
  hub_count =
      let more = length-append (all_hub_seats ends) (fetches ∷ halt ∷ []) in
      let numbers = ap length (hub_numbers sites hub ss gs left) in
      let each = length_numbers (all_hub_seats ends) in
      let all = length-map gs hub_number_of in
      let seats = ended.hub_seats in
      omega (arith, more, numbers, each, all, count, seats)

  module _ (log : StationLog) (closed : HasClosedNode host cell hub ends fetches halt log) where
    abbrev heard : List (ℕ × HubEvent)
    heard = closed.heard

    abbrev at_each : ℕ → List (ℕ × StationEvent)
    at_each = histories [] 0 false sites (all_spares ends) (log ∷ []) closed.shut

    abbrev pub history : List (ℕ × StationEvent)
    history = at_each host

    shut : IsShut [] 0 false cell (sat_at host ss) history
    shut = shut_at [] 0 false sites (all_spares ends) (log ∷ []) closed.shut host cell found

    pub lawful : IsLawfulHistory (closed_station c host history)
    lawful = shut.lawful c host origin

    pub log_host : log.host ≡ host
    log_host = closed.shut.0.host

    pub events : log.events ≡ map event_of history
    events =
        sym (ap (λ b. cond b log.events []) (eq-eqb log.host host log_host))
        ∙ logs_say [] 0 false sites (all_spares ends) (log ∷ []) closed.shut host

    says : StationSays sites hub at_each ss
    says = λ h own there. let it = (shut_at [] 0 false sites (all_spares ends) (log ∷ []) closed.shut h own there).back in (it.seen, it.mine)

    hub_seen : All (λ (s : Sitting HubLog HubEvent). IsPrefix s.seen heard) (hub_seats_of ends fetches halt)
    hub_seen = closed.back.seen

    hub_mine : All (λ (s : Sitting HubLog HubEvent). events_of s.number heard ≡ s.mine) (hub_seats_of ends fetches halt)
    hub_mine = closed.back.mine

    fetch_seen : IsPrefix fetches.seen heard
    fetch_seen = All-head (λ (s : Sitting HubLog HubEvent). IsPrefix s.seen heard) fetches (halt ∷ [])
        (all_behind (λ (s : Sitting HubLog HubEvent). IsPrefix s.seen heard) (all_hub_seats ends) (fetches ∷ halt ∷ []) hub_seen)

    fetch_mine : events_of fetches.number heard ≡ fetches.mine
    fetch_mine = All-head (λ (s : Sitting HubLog HubEvent). events_of s.number heard ≡ s.mine) fetches (halt ∷ [])
        (all_behind (λ (s : Sitting HubLog HubEvent). events_of s.number heard ≡ s.mine) (all_hub_seats ends) (fetches ∷ halt ∷ []) hub_mine)

    halt_mine : events_of halt.number heard ≡ halt.mine
    halt_mine = All-head (λ (s : Sitting HubLog HubEvent). events_of s.number heard ≡ s.mine) halt []
        (All-tail (λ (s : Sitting HubLog HubEvent). events_of s.number heard ≡ s.mine) fetches (halt ∷ [])
        (all_behind (λ (s : Sitting HubLog HubEvent). events_of s.number heard ≡ s.mine) (all_hub_seats ends) (fetches ∷ halt ∷ []) hub_mine))

    each_closed : Each (IsClosed at_each heard) gs
    each_closed = all_closed sites hub at_each heard ss gs left says (
      all_before (λ (s : Sitting HubLog HubEvent). IsPrefix s.seen heard) (all_hub_seats ends) (fetches ∷ halt ∷ []) hub_seen,
      all_before (λ (s : Sitting HubLog HubEvent). events_of s.number heard ≡ s.mine) (all_hub_seats ends) (fetches ∷ halt ∷ []) hub_mine,
    )

    -- all of them lay here
    closed_here : (g : Passage) → host_of g ≡ host → IsClosed at_each heard g → IsClosed (λ h. history) heard g
    closed_here g at it = record {
      seen = subst (λ h. IsPrefix g.left.seen (at_each h)) at it.seen;
      mine = ap (λ h. events_of (number_of g) (at_each h)) (sym at) ∙ it.mine;
      heard = it.heard;
      sent = it.sent;
    }

    all_here : Each (IsClosed (λ h. history) heard) (passages_in n ++ link_passage n.link ∷ [])
    all_here = subst (Each (IsClosed (λ h. history) heard)) are
        (both_each (λ (g : Passage). host_of g ≡ host) (IsClosed at_each heard) (IsClosed (λ h. history) heard) gs closed_here here each_closed)

    link_here : IsClosed (λ h. history) heard (link_passage n.link)
    link_here = each_last (IsClosed (λ h. history) heard) (passages_in n) (link_passage n.link) all_here

    link_closed : IsLinkClosed history heard n.link
    link_closed = record {
      seen = link_here.seen;
      mine = link_here.mine;
      heard = link_here.heard;
      sent = link_here.sent;
      reached = prefix_over n.link.reached.heard fetches.seen heard ended.fetched.reached fetch_seen;
      carried = ap (λ k. events_of k heard) (sym ended.fetched.number) ∙ (fetch_mine ∙ ended.fetched.carried);
    }

    hub_numbers_all : numbers_of (hub_seats_of ends fetches halt) ≡ numbers_at_hub n ++ halt.number ∷ []
    hub_numbers_all =
        numbers_both (all_hub_seats ends) (fetches ∷ halt ∷ [])
        ∙ ap (λ l. l ++ fetches.number ∷ halt.number ∷ []) (hub_numbers sites hub ss gs left ∙ ap (map hub_number_of) are
        ∙ map_end hub_number_of (passages_in n) (link_passage n.link))
        ∙ append_assoc (map hub_number_of (passages_in n)) (n.link.berth.hub_number ∷ []) (fetches.number ∷ halt.number ∷ [])
        ∙ ap (λ k. map hub_number_of (passages_in n) ++ n.link.berth.hub_number ∷ k ∷ halt.number ∷ []) ended.fetched.number
        ∙ sym (append_assoc (map hub_number_of (passages_in n)) (n.link.berth.hub_number ∷ n.link.carrier ∷ []) (halt.number ∷ []))

    -- the seat of the halt has entered nothing
    hub_unknown : (k : ℕ) → list_any (λ i. i == k) (numbers_at_hub n) ≡ false → (b : Bool) → (halt.number == k) ≡ b → events_of k heard ≡ []
    hub_unknown k none true is = subst (λ (i : ℕ). events_of i heard ≡ []) (eqb-true halt.number k is) (halt_mine ∙ ended.unhalted)
    hub_unknown k none false is =
        let nobody : list_any (λ i. i == k) (numbers_of (hub_seats_of ends fetches halt)) ≡ false =
        ap (list_any (λ i. i == k)) hub_numbers_all
        ∙ (list_any-append (λ i. i == k) (numbers_at_hub n) (halt.number ∷ []) ∙ both_false none is) in
        unknown hub.seats (hub_seats_of ends fetches halt) heard closed.back k nobody

    pub is_closed : IsNodeClosed c host hub.origin history heard n
    is_closed = record {
      passages = ended.passages;
      here = ended.here;
      closed = each_first (IsClosed (λ h. history) heard) (passages_in n) (link_passage n.link) all_here;
      link = ended.way;
      link_closed = link_closed;
      numbers = subst (IsDistinct eqb) station_all shut.back.different;
      known = λ k none. unknown cell.seats (sat_at host ss) history shut.back k (ap (list_any (λ i. i == k)) station_all ∙ none);
      hub_numbers = front_distinct (numbers_at_hub n) (halt.number ∷ []) (subst (IsDistinct eqb) hub_numbers_all closed.back.different);
      hub_known = λ k none. hub_unknown k none (halt.number == k) refl;
    }

    pub none_met : list_any met_no_memory ends ≡ false → list_any met_full ends ≡ false → NoneMet n
    none_met wanting full = none_of n.programs n.clock n.link (unlimited sites hub ends (all_jobs n) ended.each_end wanting full)

    pub some_met : list_any met_full ends ≡ true → SomeMetFull n
    some_met full = some_of n.programs n.clock n.link (limited sites hub ends (all_jobs n) ended.each_end full)
