-- The stations of a configuration: each stands once, and has its processes.
use Rattle.std.proofs.Common.{◌≡◌, ◌≢◌, ℕ, zero, suc, ◌<◌, Bool, true, false, cond, ◌==◌, ◌||◌, List, [], ◌∷◌, ◌++◌, map, set, filter, find, Some, is_some, refl, sym, ap, subst, ◌∙◌, inl, inr}
use Rattle.std.specs.Prelude.{slice_get}
use Rattle.std.specs.List.{list_any}
use Rattle.std.proofs.lemmas.Bool.{and_parts, cases_Bool, eqb-true, eq-eqb, or_from, or_parts, or_right}
use Rattle.std.proofs.lemmas.List.Folds.{list_any-append}
use Rattle.std.proofs.lemmas.Option.{none-some, same_Some}
use Rattle.vk_types.specs.Types.{Pid, ProcessSpec}
use Rattle.vk_base.specs.Pids.{same_pid}
use Rattle.vk_base.specs.Settings.{Settings, has_process, is_on, is_process, stations_of, stations_with}
use Rattle.vk_base.proofs.SettingsLemmas.{among_stations}
use Rattle.vk_base.proofs.BoolLemmas.{or_rest, eqb_turned, is_some_or}
use Rattle.vk_procs.specs.declared.seat.Seat.{Seat}
use Rattle.vk_procs.specs.Seats.{is_seat, pids}
use Rattle.vk_rules.specs.Right.{own_pids}
use Rattle.vk_host.specs.Values.{StationValue, has}

abbrev among : List ℕ → ℕ → Bool
among hosts q = list_any (λ h. h == q) hosts

-- no number stands twice
abbrev pub Apart : List ℕ → Type 0
Apart [] = Unit {0}
Apart (h ∷ hs) = (list_any (λ x. x == h) hs ≡ false) × Apart hs

apart_more : (hs : List ℕ) (h : ℕ) → Apart hs → among hs h ≡ false → Apart (hs ++ h ∷ [])
apart_more [] h a new = (refl, tt)
apart_more (g ∷ gs) h a new =
    let parts : ((g == h) ≡ false) × (among gs h ≡ false) = or_parts (g == h) (among gs h) new in (
      list_any-append (λ x. x == g) gs (h ∷ [])
          ∙ or_from (among gs g) (list_any (λ x. x == g) (h ∷ [])) a.0 (or_from (h == g) false (eqb_turned g h parts.0) refl),
      apart_more gs h a.1 parts.1,
    )

apart_if : (b : Bool) (hs : List ℕ) (h : ℕ) → among hs h ≡ b → Apart hs → Apart (cond b hs (hs ++ h ∷ []))
apart_if true hs h e a = a
apart_if false hs h e a = apart_more hs h a e

apart_with : (hs : List ℕ) (specs : List ProcessSpec) → Apart hs → Apart (stations_with hs specs)
apart_with hs [] a = a
apart_with hs (s ∷ ss) a =
    apart_with (cond (among hs s.pid.host) hs (hs ++ s.pid.host ∷ [])) ss (apart_if (among hs s.pid.host) hs s.pid.host refl a)

pub stations_apart : (specs : List ProcessSpec) → Apart (stations_of specs)
stations_apart specs = apart_with [] specs tt

in_list : (hs : List ℕ) (i h : ℕ) → slice_get hs i ≡ Some h → among hs h ≡ true
in_list [] i h found = absurd (none-some h found)
in_list (g ∷ gs) zero h found = ap (λ b. b || among gs h) (eq-eqb g h (same_Some g h found))
in_list (g ∷ gs) (suc i) h found = or_right (g == h) (among gs h) (in_list gs i h found)

-- a number has one place
pub same_place : (hs : List ℕ) (i j h : ℕ) → Apart hs → slice_get hs i ≡ Some h → slice_get hs j ≡ Some h → i ≡ j
same_place [] i j h a one two = absurd (none-some h one)
same_place (g ∷ gs) zero zero h a one two = refl
same_place (g ∷ gs) zero (suc j) h a one two =
    let absent : among gs h ≡ false = subst (λ x. among gs x ≡ false) (same_Some g h one) a.0 in
    let there : among gs h ≡ true = in_list gs j h two in
    cc
same_place (g ∷ gs) (suc i) zero h a one two =
    let absent : among gs h ≡ false = subst (λ x. among gs x ≡ false) (same_Some g h two) a.0 in
    let there : among gs h ≡ true = in_list gs i h one in
    cc
same_place (g ∷ gs) (suc i) (suc j) h a one two = ap suc (same_place gs i j h a.1 one two)

rest_same : {B : Type 0} (f g : ℕ → B) (hs : List ℕ) (h : ℕ) → among hs h ≡ false → ((q : ℕ) → q ≢ h → g q ≡ f q) → map f hs ≡ map g hs
rest_same f g [] h absent others = refl
rest_same f g (x ∷ xs) h absent others =
    let parts : ((x == h) ≡ false) × (among xs h ≡ false) = or_parts (x == h) (among xs h) absent in
    let first : (x == h) ≡ false = parts.0 in
    let apart : x ≢ h = λ e. let same : (x == h) ≡ true = eq-eqb x h e in cc in
    ap (λ y. y ∷ map f xs) (sym (others x apart)) ∙ ap (λ l. g x ∷ l) (rest_same f g xs h parts.1 others)

-- a function that changes at one of them alone
pub set_map : {B : Type 0} (f g : ℕ → B) (hs : List ℕ) (i h : ℕ) → Apart hs → slice_get hs i ≡ Some h → ((q : ℕ) → q ≢ h → g q ≡ f q) →
    set (map f hs) i (g h) ≡ map g hs
set_map f g [] i h a found others = absurd (none-some h found)
set_map f g (x ∷ xs) zero h a found others =
    let same = same_Some x h found in
    ap (λ y. y ∷ map f xs) (ap g (sym same))
    ∙ ap (λ l. g x ∷ l) (rest_same f g xs h (subst (λ y. among xs y ≡ false) same a.0) others)
set_map f g (x ∷ xs) (suc i) h a found others =
    let there : among xs h ≡ true = in_list xs i h found in
    let apart : x ≢ h = λ e. let absent : among xs h ≡ false = subst (λ y. among xs y ≡ false) e a.0 in cc in
    ap (λ y. y ∷ set (map f xs) i (g h)) (sym (others x apart)) ∙ ap (λ l. g x ∷ l) (set_map f g xs i h a.1 found others)

-- A station has the number of a pid.
bounds : (specs : List ProcessSpec) (h : ℕ) → list_any (is_on h) specs ≡ true → (0 < h) × (h < 65535)
bounds [] h e = let bad : ⊥ = cc in absurd bad
bounds (s ∷ ss) h e = elim (cases_Bool (is_on h s)) [
  | inl t ↦
      let same : s.pid.host ≡ h = eqb-true s.pid.host h t in
      (subst (λ n. 0 < n) same s.pid.some_host, subst (λ n. n < 65535) same s.pid.one_host)
  | inr f ↦ bounds ss h (or_rest (is_on h s) (list_any (is_on h) ss) e f)
]

pub station_bounds : (specs : List ProcessSpec) (i h : ℕ) → slice_get (stations_of specs) i ≡ Some h → (0 < h) × (h < 65535)
station_bounds specs i h found = bounds specs h (sym (among_stations specs h) ∙ in_list (stations_of specs) i h found)

-- A process of the configuration is one of its station.
named : Pid → List Pid → Bool
named pid ps = list_any (λ (p : Pid). same_pid p pid) ps

any_seat : (pid : Pid) (seats : List Seat) → is_some (find (is_seat pid) seats) ≡ named pid (pids seats)
unfolding named
any_seat pid [] = refl
any_seat pid (s ∷ ss) =
    is_some_or (is_seat pid s) (named pid (pids ss)) s (find (is_seat pid) ss) (any_seat pid ss)

kept_on : (b : Bool) (pid : Pid) (s : ProcessSpec) (ss : List ProcessSpec) → named pid (map (λ (t : ProcessSpec). t.pid) ss) ≡ true →
    named pid (map (λ (t : ProcessSpec). t.pid) (cond b (s ∷ ss) ss)) ≡ true
unfolding named
kept_on true pid s ss h = or_right (same_pid s.pid pid) (named pid (map (λ (t : ProcessSpec). t.pid) ss)) h
kept_on false pid s ss h = h

first_on : (b : Bool) (pid : Pid) (s : ProcessSpec) (ss : List ProcessSpec) → b ≡ true → same_pid s.pid pid ≡ true →
    named pid (map (λ (t : ProcessSpec). t.pid) (cond b (s ∷ ss) ss)) ≡ true
unfolding named
first_on true pid s ss e h = ap (λ b. b || named pid (map (λ (t : ProcessSpec). t.pid) ss)) h
first_on false pid s ss e h = cc

own_named : (host : ℕ) (pid : Pid) (specs : List ProcessSpec) → pid.host ≡ host → list_any (is_process pid) specs ≡ true →
    named pid (map (λ (t : ProcessSpec). t.pid) (filter (is_on host) specs)) ≡ true
own_named host pid [] at h = cc
own_named host pid (s ∷ ss) at h = elim (cases_Bool (is_process pid s)) [
  | inl t ↦
      let same : s.pid.host ≡ pid.host = eqb-true s.pid.host pid.host (and_parts (s.pid.host == pid.host) (s.pid.local == pid.local) t).0 in
      first_on (is_on host s) pid s (filter (is_on host) ss) (eq-eqb s.pid.host host (same ∙ at)) t
  | inr f ↦
      kept_on (is_on host s) pid s (filter (is_on host) ss)
      (own_named host pid ss at (or_rest (is_process pid s) (list_any (is_process pid) ss) h f))
]

pub has_own : (c : Settings) (s : StationValue) (pid : Pid) → pids s.doing.tables.seats ≡ own_pids c s.host → pid.host ≡ s.host →
    has_process c.specs pid ≡ true → has s pid ≡ true
has_own c s pid order at is =
    any_seat pid s.doing.tables.seats ∙ ap (named pid) order ∙ own_named s.host pid c.specs at is
