-- The tables of a new station fit each other, and stand for the reading of no entries.
use Rattle.std.proofs.Common.{◌≡◌, ℕ, zero, suc, ◌+◌, ◌<◌, ◌≤◌, ◌==◌, Bool, true, false, cond, not, List, [], ◌∷◌, filter, length, map, replicate, get_or, refl, ap, sym, ◌∙◌, subst, Some, None, arith, ltb}
use Rattle.std.specs.Option.{option_map, option_flatten}
use Rattle.std.specs.List.{find, position, position_or_len, slice_get}
use Rattle.std.proofs.lemmas.Bool.{cond-true, eq-eqb, eqb-true, lt-ltb}
use Rattle.std.proofs.lemmas.Option.{same_Some, none-some, slice_get-map}
use Rattle.vk_types.specs.Types.{Pid, ProcessSpec, Waiting}
use Rattle.vk_base.specs.declared.activity.Activity.TheVariants as activities
use Rattle.vk_base.specs.declared.limits.TheConstants.{POOL, STATION_PROCESSES}
unfoldable use Rattle.vk_base.specs.Kernel.{queue_of}
use Rattle.vk_base.specs.Pids.{same_pid}
use Rattle.vk_base.specs.Settings.{AreLawful, Settings, is_on, is_process, pool_of}
use Rattle.vk_base.proofs.Pools.{few_aliens}
use Rattle.vk_base.proofs.Rising.{AllAbove, AreSpecsRising, Below, lawful_rise, below_apart}
use Rattle.vk_base.proofs.SettingsLemmas.{kept_all}
use Rattle.vk_base.proofs.OptionLemmas.{mapped_is}
use Rattle.vk_base.proofs.PidLemmas.{same_pid_self}
use Rattle.v_laws.proofs.SoundLemmas.{initial_ready, sound_initial}
use Rattle.vk_pool.specs.Aliens.{alien_from, is_alien_from}
use Rattle.vk_pool.proofs.Shown.{position-mapped}
use Rattle.vk_procs.proofs.Initial.{initial_found, length_initial}
use Rattle.vk_procs.proofs.Once.{rising_filter}
use Rattle.vk_procs.specs.declared.seat.Seat.{Seat}
use Rattle.vk_procs.specs.Seats.{initial_seat, is_seat, seat_in}
use Rattle.vk_rules.specs.Readings.{first_reading}
use Rattle.vk_stands.specs.Fit.{AreFit, IsFitSeat}
use Rattle.vk_stands.specs.Stands.{Stands}
use Rattle.vk_stands.specs.Tables.{Tables, new_tables, read_alien, slot_name}
use Rattle.vk_stands.proofs.Lists.{find-mapped}

-- Lists of one value.
get_same : {X : Type 0} (x : X) (n i : ℕ) → get_or (replicate n x) i x ≡ x
get_same x zero i = refl
get_same x (suc n) zero = refl
get_same x (suc n) (suc i) = get_same x n i

map_same : {X Y : Type 0} (f : X → Y) (x : X) (n : ℕ) → map f (replicate n x) ≡ replicate n (f x)
map_same f x zero = refl
map_same f x (suc n) = ap (λ ys. f x ∷ ys) (map_same f x n)

length_same : {X : Type 0} (x : X) (n : ℕ) → length (replicate n x) ≡ n
length_same x zero = refl
length_same x (suc n) = ap suc (length_same x n)

none_of : (q : Pid) (n : ℕ) → find (is_alien_from q) (replicate n None) ≡ None
none_of q zero = refl
none_of q (suc n) = none_of q n

no_alien : (q : Pid) (n : ℕ) → alien_from (replicate n None) q ≡ None
no_alien q n = ap option_flatten (none_of q n)

-- The processes of a host, of a list that rises: each has one place.

above_at : (p : Pid) (ss : List ProcessSpec) (i : ℕ) (x : ProcessSpec) → AllAbove p ss → slice_get ss i ≡ Some x → Below p x.pid
above_at p [] i x all is = absurd (none-some x is)
above_at p (s ∷ ss) zero x all is = subst (λ (z : ProcessSpec). Below p z.pid) (same_Some s x is) all.0
above_at p (s ∷ ss) (suc i) x all is = above_at p ss i x all.1 is

rising_place : (specs : List ProcessSpec) (i : ℕ) (x : ProcessSpec) → AreSpecsRising specs → slice_get specs i ≡ Some x →
    (position_or_len (is_process x.pid) specs ≡ i) × (i < length specs)
rising_place [] i x up is = absurd (none-some x is)
rising_place (s ∷ ss) zero x up is = (
  ap (λ b. cond (not b) (1 + position_or_len (is_process x.pid) ss) 0)
      (ap (λ (z : ProcessSpec). same_pid z.pid x.pid) (same_Some s x is) ∙ same_pid_self x.pid),
  omega arith,
)
rising_place (s ∷ ss) (suc i) x up is =
    let rest = rising_place ss i x up.1 is in
    let low : i < length ss = rest.1 in (
      ap (λ b. cond (not b) (1 + position_or_len (is_process x.pid) ss) 0) (below_apart s.pid x.pid (above_at s.pid ss i x up.0 is))
          ∙ ap (λ n. 1 + n) rest.0 ∙ omega arith,
      omega (arith, low),
    )

module _ (c : Settings) (host : ℕ) (lawful : AreLawful c) where
  abbrev t : Tables
  t = new_tables c host

  abbrev specs : List ProcessSpec
  specs = filter (is_on host) c.specs

  up : AreSpecsRising specs
  up = rising_filter host c.specs (lawful_rise c.specs lawful.processes)

  seat_is : (pid : Pid) → seat_in t.seats pid ≡ option_map initial_seat (find (is_process pid) specs)
  seat_is pid = find-mapped (is_seat pid) (is_process pid) initial_seat (λ x. refl) specs

  idle : (pid : Pid) (s : Seat) (w : Waiting) → seat_in t.seats pid ≡ Some s → s.doing ≡ activities.Blocked w → ⊥
  idle pid s w found blocked =
      let m = mapped_is initial_seat (find (is_process pid) specs) s (sym (seat_is pid) ∙ found) in
      let both : activities.Ready ≡ activities.Blocked w = ap (λ (x : Seat). x.doing) m.2 ∙ blocked in
      cc

  spec_at : (i : ℕ) (s : Seat) → slice_get t.seats i ≡ Some s → (x : ProcessSpec) × (slice_get specs i ≡ Some x) × (initial_seat x ≡ s)
  spec_at i s at = mapped_is initial_seat (slice_get specs i) s (sym (slice_get-map initial_seat specs i) ∙ at)

  place_of : (i : ℕ) (x : ProcessSpec) → slice_get specs i ≡ Some x → position (is_seat x.pid) t.seats ≡ Some i
  place_of i x at =
      let is = rising_place specs i x up at in
      sym (position-mapped (is_seat x.pid) (is_process x.pid) initial_seat (λ z. refl) specs)
      ∙ ap (λ n. cond (ltb n (length specs)) (Some n) None) is.0
      ∙ cond-true (ltb i (length specs)) (Some i) None (lt-ltb i (length specs) is.1)

  fit_seat : (x : ProcessSpec) → x.pid.host ≡ host → IsFitSeat host (initial_seat x)
  fit_seat x own = record {
    own = own;
    waits = λ w blocked. absurd (cc);
    moves = λ w blocked. absurd (cc);
    done = omega arith;
    part = λ target m blocked. absurd (cc);
    few = omega arith;
    away = λ target m blocked far. absurd (cc);
    begun = λ target m blocked. absurd (cc);
    asked = λ logical scope blocked. absurd (cc);
  }

  on_host : (xs : List ProcessSpec) (i : ℕ) (x : ProcessSpec) → slice_get (filter (is_on host) xs) i ≡ Some x → x.pid.host ≡ host
  on_host [] i x at = absurd (none-some x at)
  on_host (y ∷ ys) i x at = by_first (is_on host y) refl i at (on_host ys)
    where
      by_rest : (z : ProcessSpec) (zs : List ProcessSpec) (j : ℕ) → (z.pid.host == host) ≡ true →
          ((k : ℕ) (v : ProcessSpec) → slice_get zs k ≡ Some v → v.pid.host ≡ host) → slice_get (z ∷ zs) j ≡ Some x → x.pid.host ≡ host
      by_rest z zs zero is rest there = ap (λ (v : ProcessSpec). v.pid.host) (sym (same_Some z x there)) ∙ eqb-true z.pid.host host is
      by_rest z zs (suc j) is rest there = rest j x there

      by_first : (b : Bool) → is_on host y ≡ b → (j : ℕ) →
          slice_get (cond (is_on host y) (y ∷ filter (is_on host) ys) (filter (is_on host) ys)) j ≡ Some x →
          ((k : ℕ) (v : ProcessSpec) → slice_get (filter (is_on host) ys) k ≡ Some v → v.pid.host ≡ host) → x.pid.host ≡ host
      by_first true is j there rest = by_rest y (filter (is_on host) ys) j is rest
          (sym (ap (λ b. slice_get (cond b (y ∷ filter (is_on host) ys) (filter (is_on host) ys)) j) is) ∙ there)
      by_first false is j there rest =
          rest j x (sym (ap (λ b. slice_get (cond b (y ∷ filter (is_on host) ys) (filter (is_on host) ys)) j) is) ∙ there)

  pub new_fit : AreFit host t
  new_fit = record {
    few = subst (λ n. n ≤ STATION_PROCESSES) (sym (length_initial host c.specs)) ((kept_all c.specs lawful.processes).few host);
    lists = refl;
    pool = subst (λ n. n ≤ POOL) (sym (length_same None (pool_of c host))) (few_aliens c host lawful);
    places = λ i s at. let x = spec_at i s at in ap (λ (z : Seat). position (is_seat z.pid) t.seats) (sym x.2) ∙ place_of i x.0 x.1;
    seats = λ i s at. let x = spec_at i s at in subst (IsFitSeat host) x.2 (fit_seat x.0 (on_host c.specs i x.0 x.1));
    apart = λ i a at. absurd (none-some a (sym (get_same None (pool_of c host) i) ∙ at));
    aliens = λ i a at. absurd (none-some a (sym (get_same None (pool_of c host) i) ∙ at));
  }

  count_none : (pid : Pid) (s : Seat) → seat_in t.seats pid ≡ Some s → (s.note.sends ≤ 0) × (s.note.lookups ≤ 0)
  count_none pid s at =
      let m = mapped_is initial_seat (find (is_process pid) specs) s (sym (seat_is pid) ∙ at) in
      (subst (λ z. z.note.sends ≤ 0) m.2 (omega arith), subst (λ z. z.note.lookups ≤ 0) m.2 (omega arith))

  pub new_stands : Stands c.times host t (first_reading c host)
  unfolding queue_of
  new_stands = record {
    procs = λ pid own. sym (initial_found host pid (eq-eqb pid.host host own) c.specs);
    sound = sound_initial c.specs;
    elsewhere = λ pid p away at. initial_ready (find (is_process pid) c.specs) p at;
    names = refl;
    unknown = λ g away. refl;
    slots = sym (map_same (option_map read_alien) None (pool_of c host));
    kept = λ sender a at. absurd (none-some a (sym (no_alien sender (pool_of c host)) ∙ at));
    waiting = λ pid s w at blocked. absurd (idle pid s w at blocked);
    works = λ pid s w at blocked work. absurd (idle pid s w at blocked);
    home = λ n e at here near. absurd (none-some e at);
    queues = λ pid i at. sym (ap (map (slot_name t.seats t.slots)) (get_same [] STATION_PROCESSES i));
    counted = λ pid s at. record { sends = (count_none pid s at).0; lookups = (count_none pid s at).1 };
    moved = λ sender a at. absurd (none-some a (sym (no_alien sender (pool_of c host)) ∙ at));
  }
