-- The seats of one station among all, and the histories of the stations that they close.
use Rattle.std.proofs.Common.{◌≡◌, ℕ, ◌==◌, not, eqb-true, eq-eqb, Bool, true, false, cond, Option, Some, All, List, [], ◌∷◌, ◌||◌, filter, length, map, refl, sym, ap, ◌∙◌, subst, arith}
use Rattle.std.specs.List.{list_any}
use Rattle.std.proofs.lemmas.Option.{none-some, same_Some}
use Rattle.vk_types.specs.Types.{ProcessSpec, StationEvent}
use Rattle.turn_cell.specs.Seats.{Cell, IsSeatOf, Sitting}
use Rattle.vk_base.specs.Settings.{Settings}
use Rattle.vk_schedule.specs.declared.log.StationLog.{StationLog}
use Rattle.vk_join.specs.Logs.{events_at}
use Rattle.vk_port.specs.Stations.{IsLawfulHistory, StationHistory, event_of, origin_of}
use Rattle.v_run.specs.Laws.{IsStill, closed_station, host_in}
use Rattle.v_run.specs.Passages.{fresh_station}
use Rattle.vk_threads.specs.Ended.{cell_at}
use Rattle.vk_threads.specs.Gathered.{AreReady, AreShut, HasShut, HaveComeBack, is_at, is_elsewhere, seat_in, seats_at}
use Rattle.vk_threads.specs.declared.opening.Site.{Site}
use Rattle.vk_threads.specs.declared.opening.Spare.{Spare}

abbrev pub site_host : Site → ℕ
site_host s = s.host

-- no number stands twice
abbrev pub AreSingle : List ℕ → Type 0
AreSingle [] = Unit {0}
AreSingle (h ∷ hs) = (list_any (λ x. x == h) hs ≡ false) × AreSingle hs

-- The seats of one station stay when those of another one are taken out.
kept_by : (g h : ℕ) (s : Spare) (ss : List Spare) → (g == h) ≡ false → filter (is_at h) (filter (is_elsewhere g) ss) ≡ filter (is_at h) ss
    → (b : Bool) → (s.host == g) ≡ b → filter (is_at h) (cond (not b) (s ∷ filter (is_elsewhere g) ss) (filter (is_elsewhere g) ss)) ≡ filter (is_at h) (s ∷ ss)
kept_by g h s ss apart rest true is =
    let other : (s.host == h) ≡ false = subst (λ (n : ℕ). (n == h) ≡ false) (sym (eqb-true s.host g is)) apart in
    rest ∙ sym (ap (λ b. cond b (s ∷ filter (is_at h) ss) (filter (is_at h) ss)) other)
kept_by g h s ss apart rest false is = ap (λ l. cond (s.host == h) (s ∷ l) l) rest

kept : (g h : ℕ) (ss : List Spare) → (g == h) ≡ false → filter (is_at h) (filter (is_elsewhere g) ss) ≡ filter (is_at h) ss
kept g h [] apart = refl
kept g h (s ∷ ss) apart = kept_by g h s ss apart (kept g h ss apart) (s.host == g) refl

pub kept_seats : (g h : ℕ) (ss : List Spare) → (g == h) ≡ false → seats_at h (filter (is_elsewhere g) ss) ≡ seats_at h ss
kept_seats g h ss apart = ap (map seat_in) (kept g h ss apart)

-- All seats of the cell are there.
pub record AreAllOf (cell : Cell StationHistory) (seats : List (Sitting StationHistory StationEvent)) : Type 0 where
  pub of : All (IsSeatOf cell) seats
  pub count : length seats ≡ cell.seats

-- the cell of a station is among these
among_by : (s : Site) (ss : List Site) (h : ℕ) (cell : Cell StationHistory)
    → (cell_at ss h ≡ Some cell → list_any (λ x. x == h) (map site_host ss) ≡ true)
    → (b : Bool) → (s.host == h) ≡ b → cond b (Some s.cell) (cell_at ss h) ≡ Some cell → list_any (λ x. x == h) (map site_host (s ∷ ss)) ≡ true
among_by s ss h cell rest true is found = ap (λ b. b || list_any (λ x. x == h) (map site_host ss)) is
among_by s ss h cell rest false is found = ap (λ b. b || list_any (λ x. x == h) (map site_host ss)) is ∙ rest found

pub among : (ss : List Site) (h : ℕ) (cell : Cell StationHistory) → cell_at ss h ≡ Some cell → list_any (λ x. x == h) (map site_host ss) ≡ true
among [] h cell found = absurd (none-some cell found)
among (s ∷ ss) h cell found = among_by s ss h cell (among ss h cell) (s.host == h) refl found

-- a station that is among these has a cell
there_by : (s : Site) (ss : List Site) (h : ℕ) → (list_any (λ x. x == h) (map site_host ss) ≡ true → (cell : Cell StationHistory) × (cell_at ss h ≡ Some cell))
    → (b : Bool) → (s.host == h) ≡ b → (b || list_any (λ x. x == h) (map site_host ss)) ≡ true
    → (cell : Cell StationHistory) × (cond b (Some s.cell) (cell_at ss h) ≡ Some cell)
there_by s ss h rest true is any = (s.cell, refl)
there_by s ss h rest false is any = rest any

pub there : (ss : List Site) (h : ℕ) → list_any (λ x. x == h) (map site_host ss) ≡ true → (cell : Cell StationHistory) × (cell_at ss h ≡ Some cell)
there [] h any = absurd (cc any)
there (s ∷ ss) h any = there_by s ss h (there ss h) (s.host == h) refl any

-- The first of these has no cell among the others.
not_first : (b : Bool) (g h : ℕ) (ss : List Site) (cell : Cell StationHistory) → (g == h) ≡ b → list_any (λ x. x == g) (map site_host ss) ≡ false
    → cell_at ss h ≡ Some cell → (g == h) ≡ false
not_first true g h ss cell is once found =
    let there : list_any (λ x. x == g) (map site_host ss) ≡ true =
    subst (λ (n : ℕ). list_any (λ x. x == n) (map site_host ss) ≡ true) (sym (eqb-true g h is)) (among ss h cell found) in
    absurd (cc (there, once))
not_first false g h ss cell is once found = is

pub ready : (sites : List Site) (spares : List Spare) → AreSingle (map site_host sites)
    → ((h : ℕ) (cell : Cell StationHistory) → cell_at sites h ≡ Some cell → AreAllOf cell (seats_at h spares)) → AreReady sites spares
ready [] spares single all = tt
ready (s ∷ ss) spares single all =
    let own = all s.host s.cell (ap (λ b. cond b (Some s.cell) (cell_at ss s.host)) (eq-eqb s.host s.host refl)) in (
      own.of,
      own.count,
      ready ss (filter (is_elsewhere s.host) spares) single.1
          (λ h cell found.
          let apart = not_first (s.host == h) s.host h ss cell refl single.0 found in
          let there : cell_at (s ∷ ss) h ≡ Some cell = ap (λ b. cond b (Some s.cell) (cell_at ss h)) apart ∙ found in
          subst (AreAllOf cell) (sym (kept_seats s.host h spares apart)) (all h cell there)),
    )

lawful_of : (x : StationHistory) (c : Settings) (h : ℕ) → origin_of x ≡ fresh_station c h → IsLawfulHistory x → IsLawfulHistory (closed_station c h x.history)
lawful_of x c h origin lawful =
    subst (λ (o : StationHistory). IsLawfulHistory (record o { history = x.history })) origin
    (record { lawful = lawful.lawful; station = lawful.station; own = lawful.own; had_room = lawful.had_room; entries = lawful.entries; bytes = lawful.bytes })

both : {A B : Type 0} (f : A → B) (b : Bool) (xs ys : List B) (us vs : List A) → xs ≡ map f us → ys ≡ map f vs → cond b xs ys ≡ map f (cond b us vs)
both f true xs ys us vs one two = one
both f false xs ys us vs one two = two

-- THE HISTORIES that were closed, by their stations.
pub histories : (specs : List ProcessSpec) (rounds : ℕ) (still : Bool) (sites : List Site) (spares : List Spare) (logs : List StationLog)
    → AreShut specs rounds still sites spares logs → ℕ → List (ℕ × StationEvent)
histories specs rounds still [] spares [] are h = []
histories specs rounds still [] spares (l ∷ ls) are h = []
histories specs rounds still (s ∷ ss) spares [] are h = []
histories specs rounds still (s ∷ ss) spares (l ∷ ls) are h =
    cond (s.host == h) are.0.closed.history (histories specs rounds still ss (filter (is_elsewhere s.host) spares) ls are.1 h)

-- what is known of one of them
pub record IsShut (specs : List ProcessSpec) (rounds : ℕ) (still : Bool) (cell : Cell StationHistory)
    (seats : List (Sitting StationHistory StationEvent)) (history : List (ℕ × StationEvent)) : Type 0 where
  pub lawful : (c : Settings) (h : ℕ) → cell.origin ≡ fresh_station c h → IsLawfulHistory (closed_station c h history)
  pub back : HaveComeBack cell.seats seats history
  pub looked : (c : Settings) (h : ℕ) → cell.origin ≡ fresh_station c h → still ≡ true → IsStill specs rounds (fresh_station c h) history

shut_one : (specs : List ProcessSpec) (rounds : ℕ) (still : Bool) (s : Site) (seats : List (Sitting StationHistory StationEvent)) (l : StationLog)
    (is : HasShut specs rounds still s seats l) → IsShut specs rounds still s.cell seats is.closed.history
shut_one specs rounds still s seats l is = record {
  lawful = λ c h fresh. lawful_of is.closed c h (is.origin ∙ fresh) is.lawful;
  back = is.back;
  looked = λ c h fresh yes. subst (λ (o : StationHistory). IsStill specs rounds o is.closed.history) (is.origin ∙ fresh) (is.looked yes);
}

shut_by : (specs : List ProcessSpec) (rounds : ℕ) (still : Bool) (s : Site) (spares : List Spare) (h : ℕ) (cell : Cell StationHistory)
    (rest : Option (Cell StationHistory)) (here later : List (ℕ × StationEvent))
    → IsShut specs rounds still s.cell (seats_at s.host spares) here
    → (rest ≡ Some cell → IsShut specs rounds still cell (seats_at h (filter (is_elsewhere s.host) spares)) later)
    → (b : Bool) → (s.host == h) ≡ b → cond b (Some s.cell) rest ≡ Some cell → IsShut specs rounds still cell (seats_at h spares) (cond b here later)
shut_by specs rounds still s spares h cell rest here later one more true is found =
    subst (λ (x : Cell StationHistory). IsShut specs rounds still x (seats_at h spares) here) (same_Some s.cell cell found)
    (subst (λ (n : ℕ). IsShut specs rounds still s.cell (seats_at n spares) here) (eqb-true s.host h is) one)
shut_by specs rounds still s spares h cell rest here later one more false is found =
    subst (λ (l : List (Sitting StationHistory StationEvent)). IsShut specs rounds still cell l later) (kept_seats s.host h spares is) (more found)

pub shut_at : (specs : List ProcessSpec) (rounds : ℕ) (still : Bool) (sites : List Site) (spares : List Spare) (logs : List StationLog)
    (are : AreShut specs rounds still sites spares logs) (h : ℕ) (cell : Cell StationHistory)
    → cell_at sites h ≡ Some cell → IsShut specs rounds still cell (seats_at h spares) (histories specs rounds still sites spares logs are h)
unfolding histories
shut_at specs rounds still [] spares [] are h cell found = absurd (none-some cell found)
shut_at specs rounds still [] spares (l ∷ ls) are h cell found = absurd are
shut_at specs rounds still (s ∷ ss) spares [] are h cell found = absurd are
shut_at specs rounds still (s ∷ ss) spares (l ∷ ls) are h cell found =
    let left = filter (is_elsewhere s.host) spares in
    shut_by specs rounds still s spares h cell (cell_at ss h) are.0.closed.history (histories specs rounds still ss left ls are.1 h)
    (shut_one specs rounds still s (seats_at s.host spares) l are.0)
    (shut_at specs rounds still ss left ls are.1 h cell) (s.host == h) refl found

pub logs_say : (specs : List ProcessSpec) (rounds : ℕ) (still : Bool) (sites : List Site) (spares : List Spare) (logs : List StationLog)
    (are : AreShut specs rounds still sites spares logs) (h : ℕ) → events_at logs h ≡ map event_of (histories specs rounds still sites spares logs are h)
unfolding histories
logs_say specs rounds still [] spares [] are h = refl
logs_say specs rounds still [] spares (l ∷ ls) are h = absurd are
logs_say specs rounds still (s ∷ ss) spares [] are h = absurd are
logs_say specs rounds still (s ∷ ss) spares (l ∷ ls) are h =
    let left = filter (is_elsewhere s.host) spares in
    ap (λ n. cond (n == h) l.events (events_at ls h)) are.0.host
    ∙ both event_of (s.host == h) l.events (events_at ls h) are.0.closed.history (histories specs rounds still ss left ls are.1 h) are.0.events
    (logs_say specs rounds still ss left ls are.1 h)

pub logs_of_sites : (specs : List ProcessSpec) (rounds : ℕ) (still : Bool) (sites : List Site) (spares : List Spare) (logs : List StationLog)
    → AreShut specs rounds still sites spares logs → map host_in logs ≡ map site_host sites
logs_of_sites specs rounds still [] spares [] are = refl
logs_of_sites specs rounds still [] spares (l ∷ ls) are = absurd are
logs_of_sites specs rounds still (s ∷ ss) spares [] are = absurd are
logs_of_sites specs rounds still (s ∷ ss) spares (l ∷ ls) are =
    let rest = logs_of_sites specs rounds still ss (filter (is_elsewhere s.host) spares) ls are.1 in
    ap (λ n. n ∷ map host_in ls) are.0.host ∙ ap (λ l. s.host ∷ l) rest

pub empty : {X : Type 0} (xs : List X) → length xs ≡ 0 → xs ≡ []
empty [] none = refl
empty (x ∷ xs) none = absurd (omega arith)

-- What is told to stand still where less is asked for stands still where more is.
pub shut_more : (specs : List ProcessSpec) (rounds : ℕ) (more less : Bool) (site : Site) (seats : List (Sitting StationHistory StationEvent))
    (log : StationLog) → (less ≡ true → more ≡ true) → HasShut specs rounds more site seats log → HasShut specs rounds less site seats log
shut_more specs rounds more less site seats log so is = record {
  closed = is.closed;
  host = is.host;
  events = is.events;
  lawful = is.lawful;
  origin = is.origin;
  back = is.back;
  looked = λ yes. is.looked (so yes);
}

-- the same of all
pub shut_less : (specs : List ProcessSpec) (rounds : ℕ) (more less : Bool) (sites : List Site) (spares : List Spare) (logs : List StationLog)
    → (less ≡ true → more ≡ true) → AreShut specs rounds more sites spares logs → AreShut specs rounds less sites spares logs
shut_less specs rounds more less [] spares [] so are = tt
shut_less specs rounds more less [] spares (l ∷ ls) so are = absurd are
shut_less specs rounds more less (s ∷ ss) spares [] so are = absurd are
shut_less specs rounds more less (s ∷ ss) spares (l ∷ ls) so are = (
  shut_more specs rounds more less s (seats_at s.host spares) l so are.0,
  shut_less specs rounds more less ss (filter (is_elsewhere s.host) spares) ls so are.1,
)
