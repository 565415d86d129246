-- From the ends of all jobs to the record of a run.
use Rattle.std.proofs.Common.{◌≡◌, ℕ, zero, suc, ◌+◌, ◌≤◌, ◌<◌, ◌==◌, ◌||◌, eqb, eqb-true, eq-eqb, nat_lt, ltb-true, ltb-false, Bool, true, false, cond, None, Some, All, IsPermutation, List, [], ◌∷◌, ◌++◌, length, map, refl, sym, ap, ◌∙◌, subst, arith}
use mathlib.Core.List.{IsPrefix}
use Rattle.std.specs.List.{list_any, range_with_len}
unfoldable use Rattle.std.specs.List.{IsDistinct}
use Rattle.std.proofs.lemmas.List.Elements.{All-append, All-cons, All-head, All-nil}
use Rattle.std.proofs.lemmas.List.Folds.{list_any-append}
use Rattle.std.proofs.lemmas.List.Sorted.{list_any-IsPermutation}
use Rattle.std.proofs.lemmas.Option.{none-some, same_Some}
use Rattle.vk_types.specs.Types.{ProcessSpec, StationEvent}
use Rattle.turn_cell.specs.History.{events_of}
use Rattle.turn_cell.specs.Seats.{Cell, IsSeatOf, Sitting, numbers_of}
use Rattle.vk_base.specs.Settings.{AreLawful, Settings, has_station, stations_of}
use Rattle.vk_base.proofs.SettingsLemmas.{among_stations}
use Rattle.vk_base.proofs.ListLemmas.{all_before, all_behind, front_distinct}
use Rattle.vk_cluster.proofs.Stations.{Apart, stations_apart}
use Rattle.vk_schedule.specs.declared.schedule.Schedule.{Schedule}
use Rattle.vk_hub.specs.declared.event.HubEvent.{HubEvent}
use Rattle.vk_hub.specs.Hubs.{HubLog}
use Rattle.vk_schedule.specs.declared.log.StationLog.{StationLog}
use Rattle.vk_join.specs.Joined.{IsJoined}
use Rattle.vk_join.specs.Laws.{AreGiven}
use Rattle.vk_join.specs.Logs.{AreLogs}
use Rattle.vk_join.specs.Stray.{join_refusal}
use Rattle.vk_port.specs.Stations.{StationHistory}
use Rattle.vk_rules.specs.Each.{Each}
use Rattle.v_run.specs.Closed.{AreClosed}
use Rattle.v_run.specs.declared.run_end.RunEnd.{RunEnd}
use Rattle.v_run.specs.declared.run_end.RunEnd.TheVariants as run_ends
use Rattle.v_run.specs.Laws.{AreLogsOf, ClosedRunsAreJoined, IsStill, JoinedRunsAreRuns, LogsMayBeJoined, MayEndAs}
use Rattle.v_run.specs.Outcomes.{Assignment}
use Rattle.v_run.specs.Passages.{Passage, fresh_station, hub_number_of}
use Rattle.v_run.specs.Ran.{IsRun}
use Rattle.v_run.specs.Runs.{passages_of}
use Rattle.vk_threads.specs.Ended.{AllLeft, AreSites, HaveEnded, cell_at}
use Rattle.vk_threads.specs.Gathered.{AreReady, AreShut, HaveClosed, HaveComeBack, all_hub_seats, all_seats, all_spares, met_full, met_no_memory, seats_at, with_halt}
use Rattle.vk_threads.specs.declared.end.End.{End}
use Rattle.vk_threads.specs.declared.gather.Closed.{Closed}
use Rattle.vk_threads.specs.declared.opening.Site.{Site}
use Rattle.vk_threads.proofs.Returned.{all_closed, all_left, at_stations, hub_numbers, hub_seats, limited, of_cell, sat_at, station_numbers, unlimited}
use Rattle.vk_threads.proofs.Sitting.{AreAllOf, AreSingle, histories, logs_of_sites, logs_say, ready, shut_at, site_host, there}

-- A number below the count is among those that were dealt, so another one is none of them.
in_range_by : (k start n : ℕ) → (start + 1 ≤ k → k < (start + 1) + n → list_any (λ m. m == k) (range_with_len (start + 1) n) ≡ true)
    → (b : Bool) → (start == k) ≡ b → start ≤ k → k < start + suc n → (b || list_any (λ m. m == k) (range_with_len (start + 1) n)) ≡ true
in_range_by k start n more true is low high = refl
in_range_by k start n more false is low high =
    let apart : start ≡ k → ⊥ = λ e. cc (is, eq-eqb start k e) in
    more (omega (arith, apart)) (omega arith)

in_range : (k start n : ℕ) → start ≤ k → k < start + n → list_any (λ m. m == k) (range_with_len start n) ≡ true
in_range k start zero low high = absurd (omega arith)
in_range k start (suc n) low high = in_range_by k start n (in_range k (start + 1) n) (start == k) refl low high

past_by : (k count : ℕ) → list_any (λ m. m == k) (range_with_len 0 count) ≡ false → (b : Bool) → nat_lt k count ≡ b → count ≤ k
past_by k count none true is =
    let low : k < count = ltb-true k count is in
    let there : list_any (λ m. m == k) (range_with_len 0 count) ≡ true = in_range k 0 count (omega arith) (omega arith) in
    absurd (cc (none, there))
past_by k count none false is = ltb-false k count is

past : (k count : ℕ) (ns : List ℕ) → IsPermutation ns (range_with_len 0 count) → list_any (λ m. m == k) ns ≡ false → count ≤ k
past k count ns are none = past_by k count (sym (list_any-IsPermutation (λ m. m == k) ns (range_with_len 0 count) are) ∙ none) (nat_lt k count) refl

-- who is none of the seats has entered nothing
module _ {S E : Type 0} where
  pub unknown : (count : ℕ) (seats : List (Sitting S E)) (history : List (ℕ × E)) → HaveComeBack count seats history → (k : ℕ)
      → list_any (λ m. m == k) (numbers_of seats) ≡ false → events_of k history ≡ []
  unknown count seats history back k none = back.others k (past k count (numbers_of seats) back.numbers none)

-- The front of different numbers is of different ones.

pub both_false : {a b : Bool} → a ≡ false → b ≡ false → (a || (b || false)) ≡ false
both_false one two = cc (one, two)

-- No station of a configuration stands twice.
single_of : (hs : List ℕ) → Apart hs → AreSingle hs
single_of [] apart = tt
single_of (h ∷ hs) apart = (apart.0, single_of hs apart.1)

stations_single : (specs : List ProcessSpec) → AreSingle (stations_of specs)
stations_single specs = single_of (stations_of specs) (stations_apart specs)

pub numbers_both : {S E : Type 0} (xs ys : List (Sitting S E)) → numbers_of (xs ++ ys) ≡ numbers_of xs ++ numbers_of ys
numbers_both [] ys = refl
numbers_both (x ∷ xs) ys = ap (λ l. x.number ∷ l) (numbers_both xs ys)

pub length_numbers : {S E : Type 0} (xs : List (Sitting S E)) → length (numbers_of xs) ≡ length xs
length_numbers [] = refl
length_numbers (x ∷ xs) = ap suc (length_numbers xs)

length_mapped : (gs : List Passage) → length (map hub_number_of gs) ≡ length gs
length_mapped [] = refl
length_mapped (g ∷ gs) = ap suc (length_mapped gs)

length_more : {X : Type 0} (xs : List X) (x : X) → length (xs ++ x ∷ []) ≡ length xs + 1
length_more [] x = refl
length_more (y ∷ xs) x = let rest = length_more xs x in omega arith

site_by : (c : Settings) (h : ℕ) (s : Site) (ss : List Site) (cell : Cell StationHistory) → s.cell.origin ≡ fresh_station c s.host
    → (cell_at ss h ≡ Some cell → cell.origin ≡ fresh_station c h) → (b : Bool) → (s.host == h) ≡ b
    → cond b (Some s.cell) (cell_at ss h) ≡ Some cell → cell.origin ≡ fresh_station c h
site_by c h s ss cell one rest true is found =
    subst (λ (n : ℕ). cell.origin ≡ fresh_station c n) (eqb-true s.host h is)
    (subst (λ (x : Cell StationHistory). x.origin ≡ fresh_station c s.host) (same_Some s.cell cell found) one)
site_by c h s ss cell one rest false is found = rest found

site_of : (c : Settings) (h : ℕ) (sites : List Site) (cell : Cell StationHistory) → Each (λ (s : Site). s.cell.origin ≡ fresh_station c s.host) sites
    → cell_at sites h ≡ Some cell → cell.origin ≡ fresh_station c h
site_of c h [] cell each found = absurd (none-some cell found)
site_of c h (s ∷ ss) cell each found = site_by c h s ss cell each.0 (site_of c h ss cell each.1) (s.host == h) refl found

-- ALL JOBS HAVE ENDED, and the seats of all have come back.
module _ (c : Settings) (sites : List Site) (hub : Cell HubLog) (rounds : ℕ) (tasks : List Assignment) (ends : List End) (halt : Sitting HubLog HubEvent)
    (are : AreSites c sites) (ended : HaveEnded c sites hub rounds tasks ends halt) where
  abbrev gs : List Passage
  gs = passages_of ended.jobs

  left : AllLeft sites hub (all_seats ends) gs
  left = all_left sites hub ends ended.jobs ended.each_end

  pub hub_all : All (λ s. IsSeatOf hub s) (with_halt ends halt)
  hub_all = All-append (IsSeatOf hub) (all_hub_seats ends) (halt ∷ []) (hub_seats sites hub (all_seats ends) gs left)
      (All-cons (IsSeatOf hub) halt [] ended.halt_seat (All-nil (IsSeatOf hub)))

  pub hub_count : length (with_halt ends halt) ≡ hub.seats
  hub_count =
      let more = length_more (all_hub_seats ends) halt in
      let own = sym (length_numbers (all_hub_seats ends)) ∙ (ap length (hub_numbers sites hub (all_seats ends) gs left) ∙ length_mapped gs) in
      let all = ended.hub_seats in
      omega arith

  all_of : (h : ℕ) (cell : Cell StationHistory) → cell_at sites h ≡ Some cell → AreAllOf cell (seats_at h (all_spares ends))
  all_of h cell found = record {
    of = of_cell sites hub (all_seats ends) gs h cell left found;
    count = sym (length_numbers (sat_at h (all_seats ends)))
        ∙ (ap length (station_numbers sites hub (all_seats ends) gs h left) ∙ ended.seats h cell found);
  }

  single : AreSingle (map site_host sites)
  single = subst AreSingle (sym are.hosts) (stations_single c.specs)

  pub all_ready : AreReady sites (all_spares ends)
  all_ready = ready sites (all_spares ends) single all_of

  known : (h : ℕ) → list_any (λ x. x == h) (map site_host sites) ≡ has_station c.specs h
  known h = ap (list_any (λ x. x == h)) are.hosts ∙ among_stations c.specs h

  module _ (closed : Closed) (are_all : HaveClosed c.specs rounds sites hub ends halt closed) where
    abbrev logs : List StationLog
    logs = closed.logs.items

    abbrev heard : List (ℕ × HubEvent)
    heard = are_all.heard

    abbrev back : HaveComeBack hub.seats (with_halt ends halt) are_all.heard
    back = are_all.back

    abbrev shut : AreShut c.specs rounds closed.still sites (all_spares ends) logs
    shut = are_all.shut

    abbrev pub closed_at : ℕ → List (ℕ × StationEvent)
    closed_at = histories c.specs rounds closed.still sites (all_spares ends) logs shut

    cell_of : (h : ℕ) → has_station c.specs h ≡ true → (cell : Cell StationHistory) × (cell_at sites h ≡ Some cell)
    cell_of h is = there sites h (known h ∙ is)

    numbers_all : numbers_of (with_halt ends halt) ≡ map hub_number_of gs ++ halt.number ∷ []
    numbers_all = numbers_both (all_hub_seats ends) (halt ∷ [])
        ∙ ap (λ l. l ++ halt.number ∷ []) (hub_numbers sites hub (all_seats ends) gs left)

    -- the seat of the halt has entered nothing
    hub_unknown : (k : ℕ) → list_any (λ n. n == k) (map hub_number_of gs) ≡ false → (b : Bool) → (halt.number == k) ≡ b → events_of k heard ≡ []
    hub_unknown k none true is =
        let own = All-head (λ (s : Sitting HubLog HubEvent). events_of s.number heard ≡ s.mine) halt []
        (all_behind (λ (s : Sitting HubLog HubEvent). events_of s.number heard ≡ s.mine) (all_hub_seats ends) (halt ∷ []) back.mine) in
        subst (λ (n : ℕ). events_of n heard ≡ []) (eqb-true halt.number k is) (own ∙ ended.unhalted)
    hub_unknown k none false is =
        let nobody : list_any (λ n. n == k) (numbers_of (with_halt ends halt)) ≡ false =
        ap (list_any (λ n. n == k)) numbers_all
        ∙ (list_any-append (λ n. n == k) (map hub_number_of gs) (halt.number ∷ []) ∙ both_false none is) in
        unknown hub.seats (with_halt ends halt) heard back k nobody

    pub are_closed : AreClosed c hub.origin closed_at heard gs
    are_closed = record {
      passages = ended.passages;
      closed = all_closed sites hub closed_at heard (all_seats ends) gs left
          (λ h cell found. let it = (shut_at c.specs rounds closed.still sites (all_spares ends) logs shut h cell found).back in (it.seen, it.mine)) (
            all_before (λ (s : Sitting HubLog HubEvent). IsPrefix s.seen heard) (all_hub_seats ends) (halt ∷ []) back.seen,
            all_before (λ (s : Sitting HubLog HubEvent). events_of s.number heard ≡ s.mine) (all_hub_seats ends) (halt ∷ []) back.mine,
          );
      stations = at_stations sites hub c (all_seats ends) gs known left;
      numbers = λ h is.
          let cell = cell_of h is in
          subst (IsDistinct eqb) (station_numbers sites hub (all_seats ends) gs h left)
          (shut_at c.specs rounds closed.still sites (all_spares ends) logs shut h cell.0 cell.1).back.different;
      known = λ h is k none.
          let cell = cell_of h is in
          unknown cell.0.seats (sat_at h (all_seats ends)) (closed_at h) (shut_at c.specs rounds closed.still sites (all_spares ends) logs shut h cell.0 cell.1).back k
          (ap (list_any (λ n. n == k)) (station_numbers sites hub (all_seats ends) gs h left) ∙ none);
      hub_numbers = front_distinct (map hub_number_of gs) (halt.number ∷ []) (subst (IsDistinct eqb) numbers_all back.different);
      hub_known = λ k none. hub_unknown k none (halt.number == k) refl;
    }

    pub are_logs : AreLogsOf c closed_at logs
    are_logs = record {
      hosts = logs_of_sites c.specs rounds closed.still sites (all_spares ends) logs shut ∙ are.hosts;
      events = logs_say c.specs rounds closed.still sites (all_spares ends) logs shut;
      lawful = λ h is.
          let cell = cell_of h is in
          (shut_at c.specs rounds closed.still sites (all_spares ends) logs shut h cell.0 cell.1).lawful c h (site_of c h sites cell.0 are.cells cell.1);
    }

    pub asked : LogsMayBeJoined → AreLawful c → AreLogs c logs
    asked law lawful = law c closed_at logs lawful are_logs

    -- a join refuses nothing
    pub none_refused : ClosedRunsAreJoined → AreGiven c logs → join_refusal c logs ≡ None
    none_refused law given = law c hub.origin closed_at heard ended.jobs logs are_closed are_logs given

    -- each station stands still where the code says so
    still_at : closed.still ≡ true → (h : ℕ) → has_station c.specs h ≡ true → IsStill c.specs rounds (fresh_station c h) (closed_at h)
    still_at is h here =
        let cell = cell_of h here in
        (shut_at c.specs rounds closed.still sites (all_spares ends) logs shut h cell.0 cell.1).looked c h
        (site_of c h sites cell.0 are.cells cell.1) is

    module _ (wanting : list_any met_no_memory ends ≡ false) where
      may_end : (end : RunEnd) → (end ≡ run_ends.Done → (list_any met_full ends ≡ false) × (closed.finished ≡ true))
          → (end ≡ run_ends.Limited → list_any met_full ends ≡ true)
          → (end ≡ run_ends.Waiting → (list_any met_full ends ≡ false) × (closed.finished ≡ false) × (closed.still ≡ true))
          → MayEndAs c hub.origin rounds closed_at heard ended.jobs end
      may_end run_ends.Done done limits waits =
          let it = done refl in
          (unlimited sites hub ends ended.jobs ended.each_end wanting it.0, sym are_all.finished ∙ it.1)
      may_end run_ends.Limited done limits waits = limited sites hub ends ended.jobs ended.each_end (limits refl)
      may_end run_ends.Waiting done limits waits =
          let it = waits refl in
          (unlimited sites hub ends ended.jobs ended.each_end wanting it.0, sym are_all.finished ∙ it.1, still_at it.2)

      pub ran : JoinedRunsAreRuns → AreGiven c logs → (s : Schedule) → IsJoined c logs s → (end : RunEnd)
          → (end ≡ run_ends.Done → (list_any met_full ends ≡ false) × (closed.finished ≡ true))
          → (end ≡ run_ends.Limited → list_any met_full ends ≡ true)
          → (end ≡ run_ends.Waiting → (list_any met_full ends ≡ false) × (closed.finished ≡ false) × (closed.still ≡ true))
          → IsRun c hub.origin.plan rounds tasks end s
      ran law given s joined end done limits waits =
          subst (λ (l : List Assignment). IsRun c hub.origin.plan rounds l end s) ended.are_tasks
          (law c hub.origin rounds closed_at heard ended.jobs logs s end are_closed ended.are_jobs are_logs given joined
          (may_end end done limits waits))
