-- Before each event of a schedule there was room: the frames so far have few enough bytes.
use Rattle.std.proofs.Common.{◌≡◌, ◌≢◌, ℕ, zero, suc, ◌+◌, ◌-◌, ◌*◌, ◌/◌, ◌<◌, ◌≤◌, ◌==◌, ◌||◌, nat_le, nat_lt, eqb-true, eq-eqb, Bool, true, false, Option, Some, None, List, [], ◌∷◌, ◌++◌, length, take, map, refl, sym, ap, ◌∙◌, subst, arith, append_assoc, append-nil, inl, inr}
use Rattle.std.specs.List.{list_all, list_any}
use Rattle.std.specs.Prelude.{sum_by}
use Rattle.std.proofs.Math.Nat.{le-div_iff_mul-le, mul-div-le}
use Rattle.std.proofs.lemmas.Bool.{and_from, and_parts, cases_Bool, ltb-false, or_parts}
use Rattle.std.proofs.lemmas.List.Sums.{sum_by-append, sum_by-cons}
use native.Mathlib.Nat.{add-mul, one-mul}
use Rattle.vk_types.specs.Types.{ProcessSpec, StationEvent}
use Rattle.vk_base.specs.Settings.{AreLawful, Settings, has_station, stations_of}
use Rattle.vk_base.specs.declared.limits.TheConstants.{EVENTS}
use Rattle.vk_base.proofs.SettingsLemmas.{among_stations}
use Rattle.vk_cluster.proofs.Logs.{with_other}
use Rattle.vk_cluster.proofs.Taking.{actor_station}
use Rattle.vk_cluster.specs.declared.emitted.TheConstants.{LAST_BYTES}
use Rattle.vk_cluster.specs.Standing.{logs_of}
use Rattle.vk_cluster.specs.Standing as cluster
use Rattle.vk_schedule.specs.declared.event.Event.{Event}
use Rattle.vk_schedule.specs.declared.event.Event.TheVariants as scheduled
use Rattle.vk_schedule.specs.Lawful.{has_actors}
use Rattle.vk_host.specs.Sealed.{sealed}
use Rattle.vk_join.specs.Joined.{IsThere}
use Rattle.vk_join.specs.Laws.{BytesAreOfStations}
use Rattle.vk_join.specs.Logs.{bytes_in}
use Rattle.vk_port.specs.declared.station.TheConstants.{EMITTED_BYTES, EVENT_BYTES}
use Rattle.vk_port.specs.Stations.{HadRoom, StationHistory, brings_last_number, emitted_bytes, entries_at, share_of_bytes}
use Rattle.vk_port.proofs.Histories.{entries_more}
use Rattle.vk_rules.specs.Each.{Each}
use Rattle.vk_rules.specs.Entries.{Entry}
use Rattle.vk_rules.specs.Frames.{Frame}
use Rattle.vk_rules.specs.Histories.{At, Happened, Logs, Missing, delivered, handed_over, history_of, logs_after, no_entries}
unfoldable use Rattle.vk_rules.specs.Histories.{happened, history, logs_from, with_entry}
use Rattle.vk_rules.specs.Laws.{station_of}
use Rattle.vk_rules.proofs.OwnEvents.{own_log}
use Rattle.v_run.proofs.Seldom.{each_station}
use Rattle.v_run.proofs.Stations.{few_stations}

-- A station's entries: before each, those before it had at most so many bytes.
abbrev pub HadBytes : ℕ → List Entry → Type 0
HadBytes most [] = Unit {0}
HadBytes most (e ∷ es) = (bytes_in es ≤ most) × HadBytes most es

had_more : (o : StationHistory) (most : ℕ) (acc xs : List (ℕ × StationEvent))
    → ((before rest : List (ℕ × StationEvent)) (x : ℕ × StationEvent) → acc ++ xs ≡ before ++ x ∷ rest
    → emitted_bytes (entries_at o before) ≤ most)
    → HadBytes most (entries_at o acc) → HadBytes most (entries_at o (acc ++ xs))
had_more o most acc [] room had = subst (λ l. HadBytes most (entries_at o l)) (sym (append-nil acc)) had
had_more o most acc (x ∷ xs) room had =
    let more = acc ++ x ∷ [] in
    let same : more ++ xs ≡ acc ++ (x ∷ xs) = append_assoc acc (x ∷ []) xs in
    let next : HadBytes most (entries_at o more) = subst (HadBytes most) (sym (entries_more o acc x)) (room acc xs x refl, had) in
    subst (λ l. HadBytes most (entries_at o l)) same
    (had_more o most more xs (λ before rest y is. room before rest y (sym same ∙ is)) next)

room_by : (entries bytes stations : ℕ) (b : Bool)
    → ((nat_le (EVENTS / stations) entries || nat_lt (EMITTED_BYTES / stations - EVENT_BYTES) bytes) || b) ≡ false
    → bytes ≤ EMITTED_BYTES / stations - EVENT_BYTES
room_by entries bytes stations b none =
    let used = (or_parts (nat_le (EVENTS / stations) entries || nat_lt (EMITTED_BYTES / stations - EVENT_BYTES) bytes) b none).0 in
    ltb-false (EMITTED_BYTES / stations - EVENT_BYTES) bytes
    (or_parts (nat_le (EVENTS / stations) entries) (nat_lt (EMITTED_BYTES / stations - EVENT_BYTES) bytes) used).1

pub had_bytes : (o : StationHistory) (history : List (ℕ × StationEvent)) → HadRoom o history
    → HadBytes (share_of_bytes o.config - EVENT_BYTES) (entries_at o history)
had_bytes o history room =
    had_more o (share_of_bytes o.config - EVENT_BYTES) [] history
    (λ before rest x is. room_by (length before) (emitted_bytes (entries_at o before)) (length (stations_of o.config.specs))
    (brings_last_number x.1) (room before rest x is)) tt

had_at : (most : ℕ) (later : List Entry) (e : Entry) (es : List Entry) → HadBytes most (later ++ e ∷ es) → bytes_in es ≤ most
had_at most [] e es had = had.0
had_at most (x ∷ later) e es had = had_at most later e es had.1

fewer_bytes : (later es : List Entry) → bytes_in es ≤ bytes_in (later ++ es)
fewer_bytes later es = omega (arith, sum_by-append (λ (e : Entry). sum_by length (map sealed e.frames)) later es)

-- Logs grow.
after_grows : (logs : Logs) (x : Happened) (h : ℕ) → (l : List Entry) × (logs_after logs x h ≡ l ++ logs h)
after_grows logs (At host event e) h = elim (cases_Bool (h == host)) [
  | inl t ↦
      let same : h ≡ host = eqb-true h host t in
      (e ∷ [], ap (with_entry logs host e) same ∙ (own_log logs host e ∙ ap (λ q. e ∷ logs q) (sym same)))
  | inr f ↦ let other : h ≢ host = λ same. cc (f, eq-eqb h host same) in ([], with_other logs host e h other)
]
after_grows logs (Missing host) h = ([], refl)

pub grows : (c : Settings) (logs : Logs) (es : List Event) (h : ℕ) → (l : List Entry) × (logs_from c logs es h ≡ l ++ logs h)
unfolding logs_from
grows c logs [] h = ([], refl)
grows c logs (e ∷ es) h =
    let one = after_grows logs (happened c logs e) h in
    let rest = grows c (logs_after logs (happened c logs e)) es h in
    (rest.0 ++ one.0, rest.1 ∙ (ap (λ l. rest.0 ++ l) one.1 ∙ sym (append_assoc rest.0 one.0 (logs h))))

-- A schedule in three parts.
cut : (n : ℕ) (es : List Event) → n < length es → (e : Event) × (rest : List Event) × (es ≡ take n es ++ e ∷ rest)
cut n [] low = absurd (omega arith)
cut zero (e ∷ es) low = (e, es, refl)
cut (suc n) (e ∷ es) low = let it = cut n es (omega arith) in (it.0, it.1, ap (λ l. e ∷ l) it.2)

pub logs_cut : (c : Settings) (logs : Logs) (xs ys : List Event) → logs_from c logs (xs ++ ys) ≡ logs_from c (logs_from c logs xs) ys
unfolding logs_from
logs_cut c logs [] ys = refl
logs_cut c logs (x ∷ xs) ys = logs_cut c (logs_after logs (happened c logs x)) xs ys

there_cut : (c : Settings) (logs : Logs) (xs : List Event) (e : Event) (ys : List Event) → Each IsThere (history c logs (xs ++ e ∷ ys))
    → IsThere (happened c (logs_from c logs xs) e)
unfolding history logs_from
there_cut c logs [] e ys there = there.0
there_cut c logs (x ∷ xs) e ys there = there_cut c (logs_after logs (happened c logs x)) xs e ys there.1

-- the station that acts has one entry more
acts_delivered : (c : Settings) (logs : Logs) (to : ℕ) (o : Option Frame) → IsThere (delivered c logs to o)
    → (x : Entry) × (logs_after logs (delivered c logs to o) to ≡ x ∷ logs to)
acts_delivered c logs to None there = absurd there
acts_delivered c logs to (Some f) there = (_, own_log logs to _)

acts : (c : Settings) (logs : Logs) (e : Event) → IsThere (happened c logs e)
    → (x : Entry) × (logs_after logs (happened c logs e) (station_of e) ≡ x ∷ logs (station_of e))
unfolding happened
acts c logs (scheduled.Call pid call) there = (_, own_log logs pid.host _)
acts c logs (scheduled.Collect pid) there = (_, own_log logs pid.host _)
acts c logs (scheduled.Tick host) there = (_, own_log logs host _)
acts c logs (scheduled.Deliver to from event output) there = acts_delivered c logs to (handed_over logs to from event output) there

all_take : (test : Event → Bool) (n : ℕ) (es : List Event) → list_all test es ≡ true → list_all test (take n es) ≡ true
all_take test zero es all = refl
all_take test (suc n) [] all = refl
all_take test (suc n) (e ∷ es) all =
    let parts = and_parts (test e) (list_all test es) all in
    and_from (test e) (list_all test (take n es)) parts.0 (all_take test n es parts.1)

all_cut : (test : Event → Bool) (xs : List Event) (e : Event) (ys : List Event) → list_all test (xs ++ e ∷ ys) ≡ true → test e ≡ true
all_cut test [] e ys all = (and_parts (test e) (list_all test ys) all).0
all_cut test (x ∷ xs) e ys all = all_cut test xs e ys (and_parts (test x) (list_all test (xs ++ e ∷ ys)) all).1

-- who acts at a place has a station
pub actor_of : (specs : List ProcessSpec) (es : List Event) → list_all (has_actors specs) es ≡ true → (xs : List Event) (e : Event)
    (ys : List Event) → es ≡ xs ++ e ∷ ys → has_station specs (station_of e) ≡ true
actor_of specs es actors xs e ys is =
    actor_station specs e (all_cut (has_actors specs) xs e ys (subst (λ l. list_all (has_actors specs) l ≡ true) is actors))

-- Sums over stations, of which one leaves room for an event.
shares : (f : ℕ → ℕ) (share : ℕ) (hs : List ℕ) → Each (λ h. f h ≤ share) hs → sum_by f hs ≤ length hs * share
shares f share [] each = omega arith
shares f share (h ∷ hs) each =
    let one = each.0 in
    let rest = shares f share hs each.1 in
    omega (arith, sum_by-cons f h hs, add-mul 1 (length hs) share, one-mul share)

one_less : (f : ℕ → ℕ) (share event g : ℕ) (hs : List ℕ) → list_any (λ k. k == g) hs ≡ true → Each (λ h. f h ≤ share) hs
    → f g + event ≤ share
    → sum_by f hs + event ≤ length hs * share
one_less f share event g [] any each less = absurd (cc any)
one_less f share event g (h ∷ hs) any each less = by (h == g) refl any (one_less f share event g hs)
  where
    by : (b : Bool) → (h == g) ≡ b → (b || list_any (λ k. k == g) hs) ≡ true
        → (list_any (λ k. k == g) hs ≡ true → Each (λ k. f k ≤ share) hs → f g + event ≤ share → sum_by f hs + event ≤ length hs * share)
        → sum_by f (h ∷ hs) + event ≤ length (h ∷ hs) * share
    by true is any more =
        let same : f h ≡ f g = ap f (eqb-true h g is) in
        let rest = shares f share hs each.1 in
        omega (arith, sum_by-cons f h hs, add-mul 1 (length hs) share, one-mul share)
    by false is any more =
        let one = each.0 in
        let rest = more any each.1 less in
        omega (arith, sum_by-cons f h hs, add-mul 1 (length hs) share, one-mul share)

some_length : (g : ℕ) (hs : List ℕ) → list_any (λ k. k == g) hs ≡ true → 0 < length hs
some_length g [] any = absurd (cc any)
some_length g (h ∷ hs) any = omega arith

-- all stations together
module _ (law : BytesAreOfStations) (c : Settings) (lawful : AreLawful c) (es : List Event)
    (actors : list_all (has_actors c.specs) es ≡ true) (there : Each IsThere (history_of c es))
    (few : (h : ℕ) → has_station c.specs h ≡ true → bytes_in (logs_of c es h) ≤ share_of_bytes c)
    (had : (h : ℕ) → has_station c.specs h ≡ true → HadBytes (share_of_bytes c - EVENT_BYTES) (logs_of c es h)) where
  -- what lies behind the first events
  module _ (xs : List Event) (e : Event) (ys : List Event) (is : es ≡ xs ++ e ∷ ys) where
    abbrev before : Logs
    before = logs_of c xs

    whole : (h : ℕ) → logs_of c es h ≡ logs_from c (logs_after before (happened c before e)) ys h
    unfolding logs_from
    whole h = λ i. ((ap (logs_of c) is ∙ logs_cut c no_entries xs (e ∷ ys)) i) h

    less : (h : ℕ) → has_station c.specs h ≡ true → bytes_in (before h) ≤ share_of_bytes c
    less h station =
        let one = after_grows before (happened c before e) h in
        let rest = grows c (logs_after before (happened c before e)) ys h in
        let all : logs_of c es h ≡ rest.0 ++ (one.0 ++ before h) = whole h ∙ (rest.1 ∙ ap (λ l. rest.0 ++ l) one.1) in
        let same : bytes_in (logs_of c es h) ≡ bytes_in (rest.0 ++ (one.0 ++ before h)) = ap bytes_in all in
        let two = fewer_bytes one.0 (before h) in
        let three = fewer_bytes rest.0 (one.0 ++ before h) in
        let most = few h station in
        omega arith

    actor : has_station c.specs (station_of e) ≡ true
    actor = actor_of c.specs es actors xs e ys is

    room : bytes_in (before (station_of e)) ≤ share_of_bytes c - EVENT_BYTES
    room =
        let h = station_of e in
        let one = acts c before e (there_cut c no_entries xs e ys (subst (λ l. Each IsThere (history_of c l)) is there)) in
        let rest = grows c (logs_after before (happened c before e)) ys h in
        let all : logs_of c es h ≡ rest.0 ++ one.0 ∷ before h = whole h ∙ (rest.1 ∙ ap (λ l. rest.0 ++ l) one.1) in
        had_at (share_of_bytes c - EVENT_BYTES) rest.0 one.0 (before h) (subst (HadBytes (share_of_bytes c - EVENT_BYTES)) all (had h
        actor))

    pub low_at : sum_by (λ h. bytes_in (before h)) (stations_of c.specs) ≤ LAST_BYTES
    low_at =
        let hs = stations_of c.specs in
        let share = share_of_bytes c in
        let any : list_any (λ k. k == station_of e) hs ≡ true = among_stations c.specs (station_of e) ∙ actor in
        let some = some_length (station_of e) hs any in
        let most = few_stations c lawful in
        let large : EVENT_BYTES ≤ share = (le-div_iff_mul-le some).1 (omega arith) in
        let free = room in
        let sum = one_less (λ h. bytes_in (before h)) share EVENT_BYTES (station_of e) hs any
        (each_station (λ h. bytes_in (before h) ≤ share) c less) (omega arith) in
        let all = mul-div-le EMITTED_BYTES (length hs) in
        omega arith

  pub low : (n : ℕ) → n < length es → cluster.emitted_bytes (history_of c (take n es)) ≤ LAST_BYTES
  low n short =
      let it = cut n es short in
      let sum = low_at (take n es) it.0 it.1 it.2 in
      let same = law c (take n es) (all_take (has_actors c.specs) n es actors) in
      omega arith
