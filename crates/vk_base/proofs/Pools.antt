-- Pools beside their stations.
use Rattle.std.proofs.Common.{◌≡◌, ℕ, zero, suc, ◌+◌, ◌≤◌, ◌==◌, ◌||◌, ◌++◌, not, nat_le, nat_lt, Bool, true, false, cond, List, [], ◌∷◌, length, replicate, set, take, get_or, Some, None, refl, sym, ap, ◌∙◌, arith}
use Rattle.std.specs.List.{list_all, list_any, position, position_or_len, refill}
use Rattle.std.proofs.lemmas.List.{length-append, length-replicate, length-set, append-nil, take_all, drop_all, replicate-append-replicate}
use Rattle.std.proofs.lemmas.List.Folds.{list_all-append}
use Rattle.std.proofs.lemmas.Bool.{and_parts, leb-true, le-ltb, lt-ltb, ltb-false, ltb-true}
use Rattle.vk_base.specs.declared.config.ConfigRefusal.{ConfigRefusal}
use Rattle.vk_base.specs.declared.config.ConfigRefusal.TheVariants as refusals
use Rattle.vk_base.specs.declared.config.ProcessSpec.{ProcessSpec}
use Rattle.vk_base.specs.declared.config.Times.{Times}
use Rattle.vk_base.specs.declared.limits.TheConstants.{POOL}
use Rattle.vk_base.specs.Settings.{AreLawful, AreSettingsKept, Settings, fault_of, first_fault, has_station, pool_beside, pool_is_lawful, pool_of, put_beside, refusal_of, settings_refusal, stations_of, times_are_lawful, uniform, with_process}
use Rattle.vk_base.proofs.SettingsLemmas.{among_stations, kept_more, stations_of-append}
use Rattle.vk_base.proofs.OptionLemmas.{or_none}

-- A pool by its place among the stations.

abbrev place : List ℕ → ℕ → ℕ
place hosts host = position_or_len (λ h. h == host) hosts

one_more : (n : ℕ) → 1 + n ≡ suc n
one_more n = omega arith

less : (m n : ℕ) → suc m ≡ suc n → m ≡ n
less m n e = omega (arith, e)

pub pool_at_place : (hosts pools : List ℕ) (host : ℕ) → length pools ≡ length hosts →
    pool_beside hosts pools host ≡ get_or pools (place hosts host) 0
pool_at_place [] [] host same = refl
pool_at_place [] (k ∷ ks) host same = cc
pool_at_place (h ∷ hs) [] host same = cc
pool_at_place (h ∷ hs) (k ∷ ks) host same = by (h == host) (pool_at_place hs ks host (less _ _ same))
  where
    by : (b : Bool) → pool_beside hs ks host ≡ get_or ks (place hs host) 0 →
        cond b k (pool_beside hs ks host) ≡ get_or (k ∷ ks) (cond (not b) (1 + place hs host) 0) 0
    by true rest = refl
    by false rest = rest ∙ sym (ap (λ i. get_or (k ∷ ks) i 0) (one_more (place hs host)))

pub put_at_place : (hosts pools : List ℕ) (host pool : ℕ) → length pools ≡ length hosts →
    put_beside hosts pools host pool ≡ set pools (place hosts host) pool
put_at_place [] [] host pool same = refl
put_at_place [] (k ∷ ks) host pool same = cc
put_at_place (h ∷ hs) [] host pool same = cc
put_at_place (h ∷ hs) (k ∷ ks) host pool same = by (h == host) (put_at_place hs ks host pool (less _ _ same))
  where
    by : (b : Bool) → put_beside hs ks host pool ≡ set ks (place hs host) pool →
        cond b (pool ∷ ks) (k ∷ put_beside hs ks host pool) ≡ set (k ∷ ks) (cond (not b) (1 + place hs host) 0) pool
    by true rest = refl
    by false rest = ap (λ xs. k ∷ xs) rest ∙ sym (ap (λ i. set (k ∷ ks) i pool) (one_more (place hs host)))

lt_by : (m n : ℕ) (b : Bool) → nat_lt m n ≡ b → nat_lt (1 + m) (suc n) ≡ nat_lt m n
lt_by m n true e = lt-ltb (1 + m) (suc n) (omega (arith, ltb-true m n e)) ∙ sym e
lt_by m n false e = le-ltb (1 + m) (suc n) (omega (arith, ltb-false m n e)) ∙ sym e

among_by_place : (hosts : List ℕ) (host : ℕ) → list_any (λ h. h == host) hosts ≡ nat_lt (place hosts host) (length hosts)
among_by_place [] host = refl
among_by_place (h ∷ hs) host = by (h == host) (among_by_place hs host)
  where
    by : (b : Bool) → list_any (λ x. x == host) hs ≡ nat_lt (place hs host) (length hs) →
        (b || list_any (λ x. x == host) hs) ≡ nat_lt (cond (not b) (1 + place hs host) 0) (suc (length hs))
    by true rest = sym (lt-ltb 0 (suc (length hs)) (omega arith))
    by false rest = rest ∙ sym (lt_by (place hs host) (length hs) _ refl)

found_by : (b : Bool) (n i : ℕ) → cond b (Some n) None ≡ Some i → (b ≡ true) × (n ≡ i)
found_by true n i e = (refl, cc)
found_by false n i e = cc

pub not_found_by : (b : Bool) (n : ℕ) → cond b (Some n) None ≡ None → b ≡ false
not_found_by true n e = cc
not_found_by false n e = refl

module _ (hosts : List ℕ) (specs : List ProcessSpec) (theirs : hosts ≡ stations_of specs) (host : ℕ) where
  known : has_station specs host ≡ nat_lt (place hosts host) (length hosts)
  known = sym (among_stations specs host) ∙ ap (list_any (λ h. h == host)) (sym theirs) ∙ among_by_place hosts host

  -- a station has a place
  pub is_station : (i : ℕ) → position (λ h. h == host) hosts ≡ Some i → has_station specs host ≡ true
  is_station i at = known ∙ (found_by _ (place hosts host) i at).0

  pub no_station : position (λ h. h == host) hosts ≡ None → has_station specs host ≡ false
  no_station none = known ∙ not_found_by _ (place hosts host) none

  -- its pool is the one in that place
  pub pool_in_place : (pools : List ℕ) (i : ℕ) → length pools ≡ length hosts → position (λ h. h == host) hosts ≡ Some i →
      pool_beside (stations_of specs) pools host ≡ get_or pools i 0
  pool_in_place pools i same at =
      ap (λ hs. pool_beside hs pools host) (sym theirs) ∙ pool_at_place hosts pools host same
      ∙ ap (λ n. get_or pools n 0) (found_by _ (place hosts host) i at).1

  pub put_in_place : (pools : List ℕ) (i pool : ℕ) → length pools ≡ length hosts → position (λ h. h == host) hosts ≡ Some i →
      put_beside (stations_of specs) pools host pool ≡ set pools i pool
  put_in_place pools i pool same at =
      ap (λ hs. put_beside hs pools host pool) (sym theirs) ∙ put_at_place hosts pools host pool same
      ∙ ap (λ n. set pools n pool) (found_by _ (place hosts host) i at).1

-- a host that is no station has no pool
pub no_pool : (hosts pools : List ℕ) (host : ℕ) → list_any (λ h. h == host) hosts ≡ false → pool_beside hosts pools host ≡ 0
no_pool [] pools host none = refl
no_pool (h ∷ hs) [] host none = refl
no_pool (h ∷ hs) (k ∷ ks) host none = by (h == host) none (no_pool hs ks host)
  where
    by : (b : Bool) → (b || list_any (λ x. x == host) hs) ≡ false →
        (list_any (λ x. x == host) hs ≡ false → pool_beside hs ks host ≡ 0) → cond b k (pool_beside hs ks host) ≡ 0
    by true none rest = cc
    by false none rest = rest none

-- What is kept.

all_set : (test : ℕ → Bool) (xs : List ℕ) (i x : ℕ) → list_all test xs ≡ true → test x ≡ true → list_all test (set xs i x) ≡ true
all_set test [] i x all fine = refl
all_set test (y ∷ ys) zero x all fine = let parts = and_parts (test y) (list_all test ys) all in rw (fine, parts.1) refl
all_set test (y ∷ ys) (suc i) x all fine =
    let parts = and_parts (test y) (list_all test ys) all in rw (parts.0, all_set test ys i x parts.1 fine) refl

-- another pool
pub kept_pool : (t : Times) (pools hosts : List ℕ) (specs : List ProcessSpec) (i pool : ℕ) →
    AreSettingsKept (record { times = t; pools = pools; specs = specs }) hosts → pool_is_lawful pool ≡ true →
    AreSettingsKept (record { times = t; pools = set pools i pool; specs = specs }) hosts
kept_pool t pools hosts specs i pool kept fine = record {
  lawful = record {
    times = kept.lawful.times;
    one_each = length-set pools i pool ∙ kept.lawful.one_each;
    pools = all_set pool_is_lawful pools i pool kept.lawful.pools fine;
    processes = kept.lawful.processes;
  };
  kept = kept.kept;
}

pub refilled : (xs ws : List ℕ) → length ws ≡ length xs → refill (length xs) xs ws ≡ ws
refilled xs ws same =
    ap (λ ys. take (length xs) (ws ++ ys)) (drop_all (length ws) xs (omega (arith, same)))
    ∙ ap (take (length xs)) (append-nil ws) ∙ take_all (length xs) ws (omega (arith, same))

-- one process more
as_long : (pools hosts : List ℕ) (pool host : ℕ) (b : Bool) → length pools ≡ length hosts →
    length (cond b pools (pools ++ pool ∷ [])) ≡ length (cond b hosts (hosts ++ host ∷ []))
as_long pools hosts pool host true same = same
as_long pools hosts pool host false same =
    length-append pools (pool ∷ []) ∙ ap (λ n. n + 1) same ∙ sym (length-append hosts (host ∷ []))

all_more : (pools : List ℕ) (pool : ℕ) (b : Bool) → list_all pool_is_lawful pools ≡ true → pool_is_lawful pool ≡ true →
    list_all pool_is_lawful (cond b pools (pools ++ pool ∷ [])) ≡ true
all_more pools pool true all fine = all
all_more pools pool false all fine = list_all-append pool_is_lawful pools (pool ∷ []) ∙ rw (all, fine) refl

module _ (t : Times) (pools hosts more : List ℕ) (specs after : List ProcessSpec) (s : ProcessSpec) (pool : ℕ) (b : Bool)
    (kept : AreSettingsKept (record { times = t; pools = pools; specs = specs }) hosts) (among : list_any (λ h. h == s.pid.host) hosts ≡ b)
    (is : after ≡ specs ++ s ∷ []) (pools_are : more ≡ cond b pools (pools ++ pool ∷ [])) where
  pub kept_process : (grown : List ℕ) → fault_of specs s ≡ None → pool_is_lawful pool ≡ true →
      grown ≡ cond b hosts (hosts ++ s.pid.host ∷ []) → AreSettingsKept (record { times = t; pools = more; specs = after }) grown
  kept_process grown fine lawful hosts_are =
      let of_all = kept_more specs after hosts grown s b kept.kept fine among is hosts_are in
      let same = kept.lawful.one_each ∙ sym (ap length kept.kept.stations) in record {
        lawful = record {
          times = kept.lawful.times;
          one_each = ap length pools_are ∙ as_long pools hosts pool s.pid.host b same ∙ ap length (sym hosts_are) ∙ ap length of_all.stations;
          pools = ap (list_all pool_is_lawful) pools_are ∙ all_more pools pool b kept.lawful.pools lawful;
          processes = of_all.lawful;
        };
        kept = of_all;
      }

  pub one_process : record { times = t; pools = more; specs = after } ≡ with_process (record { times = t; pools = pools; specs = specs }) pool s
  one_process =
      let known : has_station specs s.pid.host ≡ b =
      sym (among_stations specs s.pid.host) ∙ ap (list_any (λ h. h == s.pid.host)) (sym kept.kept.stations) ∙ among in
      rw (is, pools_are, known) refl

-- One pool for all.

grown_by : (hosts : List ℕ) (pool host : ℕ) (b : Bool) →
    cond b (replicate (length hosts) pool) (replicate (length hosts) pool ++ pool ∷ []) ≡ replicate (length (cond b hosts (hosts ++ host ∷ []))) pool
grown_by hosts pool host true = refl
grown_by hosts pool host false =
    replicate-append-replicate (length hosts) 1 pool ∙ ap (λ n. replicate n pool) (sym (length-append hosts (host ∷ [])))

pub uniform_more : (t : Times) (pool : ℕ) (specs : List ProcessSpec) (s : ProcessSpec) →
    with_process (uniform t pool specs) pool s ≡ uniform t pool (specs ++ s ∷ [])
uniform_more t pool specs s =
    ap (λ ks. record { times = t; pools = ks; specs = specs ++ s ∷ [] })
    (ap (λ b. cond b (replicate (length (stations_of specs)) pool) (replicate (length (stations_of specs)) pool ++ pool ∷ []))
    (sym (among_stations specs s.pid.host))
    ∙ grown_by (stations_of specs) pool s.pid.host (list_any (λ h. h == s.pid.host) (stations_of specs))
    ∙ ap (λ hosts. replicate (length hosts) pool)
    (sym (stations_of-append specs s (list_any (λ h. h == s.pid.host) (stations_of specs)) refl)))

-- Lawful settings.

all_same : (test : ℕ → Bool) (n x : ℕ) → test x ≡ true → list_all test (replicate n x) ≡ true
all_same test zero x fine = refl
all_same test (suc n) x fine = rw (fine, all_same test n x fine) refl

both_by : (a b : Bool) (x y : ConfigRefusal) → cond (not a) (Some x) (cond (not b) (Some y) None) ≡ None → (a ≡ true) × (b ≡ true)
both_by true true x y e = (refl, refl)
both_by true false x y e = cc
both_by false b x y e = cc

pub uniform_lawful : (t : Times) (pool : ℕ) (specs : List ProcessSpec) → refusal_of t pool specs ≡ None → AreLawful (uniform t pool specs)
uniform_lawful t pool specs none =
    let parts = or_none (settings_refusal t pool) (first_fault [] specs) none in
    let both = both_by (times_are_lawful t) (pool_is_lawful pool) refusals.BadTimes refusals.BadPool parts.0 in record {
      times = both.0;
      one_each = length-replicate (length (stations_of specs)) pool;
      pools = all_same pool_is_lawful (length (stations_of specs)) pool both.1;
      processes = parts.1;
    }

few_beside : (hosts pools : List ℕ) (host : ℕ) → list_all pool_is_lawful pools ≡ true → pool_beside hosts pools host ≤ POOL
few_beside [] pools host all = omega arith
few_beside (h ∷ hs) [] host all = omega arith
few_beside (h ∷ hs) (k ∷ ks) host all =
    let parts = and_parts (pool_is_lawful k) (list_all pool_is_lawful ks) all in
    let first = leb-true k POOL (and_parts (nat_le 1 k) (nat_le k POOL) parts.0).1 in by (h == host) first (few_beside hs ks host parts.1)
  where
    by : (b : Bool) → k ≤ POOL → pool_beside hs ks host ≤ POOL → cond b k (pool_beside hs ks host) ≤ POOL
    by true first rest = first
    by false first rest = rest

-- no station has more than 64 aliens
pub few_aliens : (c : Settings) (host : ℕ) → AreLawful c → pool_of c host ≤ POOL
few_aliens c host lawful = few_beside (stations_of c.specs) c.pools host lawful.pools
