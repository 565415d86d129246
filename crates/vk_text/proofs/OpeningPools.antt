-- Pools of stations in a text.
use Rattle.std.proofs.Common.{◌≡◌, ℕ, suc, ◌==◌, inl, inr, Bool, true, false, cond, List, [], ◌∷◌, ◌++◌, length, replicate, Option, Some, None, if◌then◌else◌, refl, ap, sym, subst, ◌∙◌, arith}
use Rattle.std.specs.List.{AllByRecursion, flat_map, list_all, list_any}
use Rattle.std.specs.Option.{option_map_or}
use Rattle.std.proofs.lemmas.Bool.{and_parts, eqb-true, eq-eqb, or_parts}
use Rattle.vk_types.specs.Types.{ProcessSpec}
use Rattle.vk_base.specs.Settings.{pool_beside, pool_is_lawful, stations_of, stations_with}
use Rattle.vk_base.proofs.BoolLemmas.{eqb_turned}
use Rattle.vk_text.specs.Heads.{BeginsWithNoProcess, HasNoFeed, usual_pool}
use Rattle.vk_text.specs.Openings.{BeginsNoHead, TellPools, behind_pool, first_pool, pool_text, pools_from}
use Rattle.vk_text.proofs.OpeningWords.{IsPool, IsStation, first_is, other_first, own_first, pool_lawful, pool_no_feed, pool_no_process, pool_within}

-- The stations of processes are numbers of stations, each once.

-- this host is none of these
abbrev pub IsOtherHost : ℕ → ℕ → Type 0
IsOtherHost host h = (host == h) ≡ false

abbrev pub AreOtherHosts : List ℕ → Type 0
AreOtherHosts [] = Unit {0}
AreOtherHosts (h ∷ hs) = AllByRecursion (IsOtherHost h) hs × AreOtherHosts hs

all_more : (P : ℕ → Type 0) (xs : List ℕ) (x : ℕ) → AllByRecursion P xs → P x → AllByRecursion P (xs ++ x ∷ [])
all_more P [] x all one = (one, tt)
all_more P (y ∷ ys) x all one = (all.0, all_more P ys x all.1 one)

apart_more : (hosts : List ℕ) (h : ℕ) → list_any (λ x. x == h) hosts ≡ false → AreOtherHosts hosts → AreOtherHosts (hosts ++ h ∷ [])
apart_more [] h none apart = (tt, tt)
apart_more (x ∷ xs) h none apart =
    let parts = or_parts (x == h) (list_any (λ y. y == h) xs) none in
    (all_more (IsOtherHost x) xs h apart.0 parts.0, apart_more xs h parts.1 apart.1)

apart_by : (hosts : List ℕ) (h : ℕ) (b : Bool) → list_any (λ x. x == h) hosts ≡ b → AreOtherHosts hosts → AreOtherHosts (cond b hosts (hosts ++ h ∷ []))
apart_by hosts h true is apart = apart
apart_by hosts h false is apart = apart_more hosts h is apart

apart_with : (hosts : List ℕ) (specs : List ProcessSpec) → AreOtherHosts hosts → AreOtherHosts (stations_with hosts specs)
apart_with hosts [] apart = apart
apart_with hosts (s ∷ ss) apart =
    apart_with (if list_any (λ h. h == s.pid.host) hosts then hosts else hosts ++ s.pid.host ∷ []) ss (apart_by hosts s.pid.host _ refl apart)

pub stations_apart : (specs : List ProcessSpec) → AreOtherHosts (stations_of specs)
stations_apart specs = apart_with [] specs tt

numbers_by : (hosts : List ℕ) (h : ℕ) (b : Bool) → IsStation h → AllByRecursion IsStation hosts →
    AllByRecursion IsStation (cond b hosts (hosts ++ h ∷ []))
numbers_by hosts h true one all = all
numbers_by hosts h false one all = all_more IsStation hosts h all one

numbers_with : (hosts : List ℕ) (specs : List ProcessSpec) → AllByRecursion IsStation hosts →
    AllByRecursion IsStation (stations_with hosts specs)
numbers_with hosts [] all = all
numbers_with hosts (s ∷ ss) all =
    numbers_with (if list_any (λ h. h == s.pid.host) hosts then hosts else hosts ++ s.pid.host ∷ []) ss
    (numbers_by hosts s.pid.host _ (s.pid.some_host, s.pid.one_host) all)

pub stations_numbers : (specs : List ProcessSpec) → AllByRecursion IsStation (stations_of specs)
stations_numbers specs = numbers_with [] specs tt

pub pools_within : (pools : List ℕ) → list_all pool_is_lawful pools ≡ true → AllByRecursion IsPool pools
pools_within [] all = tt
pools_within (k ∷ ks) all =
    let parts = and_parts (pool_is_lawful k) (list_all pool_is_lawful ks) all in
    (pool_within k parts.0, pools_within ks parts.1)

pub pools_lawful : (pools : List ℕ) → AllByRecursion IsPool pools → list_all pool_is_lawful pools ≡ true
pools_lawful [] all = refl
pools_lawful (k ∷ ks) all = rw (pool_lawful k all.0, pools_lawful ks all.1) refl

-- What is read is told by the lines before those that are left.

abbrev pub Pools : Type 0
Pools = List ℕ × List (List ℕ)

-- so many pools of their ranges, and the lines that tell them
pub record AreTold (hosts : List ℕ) (lines : List (List ℕ)) (found : Pools) : Type 0 where
  pub told : List (List ℕ)
  pub tell : TellPools hosts found.0 told
  pub whole : lines ≡ told ++ found.1
  pub long : length found.0 ≡ length hosts
  pub fits : AllByRecursion IsPool found.0

told_by : (h : ℕ) (hs : List ℕ) (lines : List (List ℕ)) (o : Option (ℕ × List (List ℕ))) → first_pool h lines ≡ o →
    ((left : List (List ℕ)) → AreTold hs left (pools_from hs left)) →
    AreTold (h ∷ hs) lines
    (option_map_or (λ t. behind_pool t.0 (pools_from hs t.1)) o (behind_pool usual_pool (pools_from hs lines)))
told_by h hs lines None is rest =
    let all = rest lines in record {
      told = all.told;
      tell = inl (refl, all.tell);
      whole = all.whole;
      long = ap suc all.long;
      fits = ((omega arith, omega arith), all.fits);
    }
told_by h hs lines (Some t) is rest =
    let first = first_is h lines t is in
    let all = rest t.1 in record {
      told = pool_text h t.0 ∷ all.told;
      tell = inr (all.told, refl, all.tell);
      whole = first.0 ∙ ap (λ ls. pool_text h t.0 ∷ ls) all.whole;
      long = ap suc all.long;
      fits = (first.1, all.fits);
    }

pub pools_told : (hosts : List ℕ) (lines : List (List ℕ)) → AreTold hosts lines (pools_from hosts lines)
unfolding pools_from
pools_told [] lines = record { told = []; tell = (refl, refl, refl); whole = refl; long = refl; fits = tt }
pools_told (h ∷ hs) lines = told_by h hs lines (first_pool h lines) refl (λ left. pools_told hs left)

-- Lines that tell pools are read as these.

none_first : (host : ℕ) (body : List (List ℕ)) → BeginsNoHead body → first_pool host body ≡ None
unfolding first_pool
none_first host [] none = refl
none_first host (l ∷ ls) none = rw none.1 refl

passed : (host : ℕ) (hosts pools : List ℕ) (told body : List (List ℕ)) → AllByRecursion (IsOtherHost host) hosts →
    AllByRecursion IsStation hosts → AllByRecursion IsPool pools → TellPools hosts pools told → BeginsNoHead body →
    first_pool host (told ++ body) ≡ None
passed host [] [] told body apart numbers fits tell none =
    ap (λ t. first_pool host (t ++ body)) tell.2 ∙ none_first host body none
passed host [] (k ∷ ks) told body apart numbers fits tell none = let not_so : k ∷ ks ≡ [] = tell.1 in cc
passed host (h ∷ hs) [] told body apart numbers fits tell none = let not_so : h ∷ hs ≡ [] = tell.0 in cc
passed host (h ∷ hs) (k ∷ ks) told body apart numbers fits (inl tell) none =
    passed host hs ks told body apart.1 numbers.1 fits.1 tell.1 none
passed host (h ∷ hs) (k ∷ ks) told body apart numbers fits (inr tell) none =
    ap (λ t. first_pool host (t ++ body)) tell.1
    ∙ other_first host h k (tell.0 ++ body) numbers.0 fits.0 (eqb_turned host h apart.0)

pub pools_read : (hosts pools : List ℕ) (told body : List (List ℕ)) → AreOtherHosts hosts → AllByRecursion IsStation hosts →
    AllByRecursion IsPool pools → TellPools hosts pools told → BeginsNoHead body → pools_from hosts (told ++ body) ≡ (pools, body)
unfolding pools_from
pools_read [] [] told body apart numbers fits tell none = ap (λ (t : List (List ℕ)). ([], t ++ body)) tell.2
pools_read [] (k ∷ ks) told body apart numbers fits tell none = let not_so : k ∷ ks ≡ [] = tell.1 in cc
pools_read (h ∷ hs) [] told body apart numbers fits tell none = let not_so : h ∷ hs ≡ [] = tell.0 in cc
pools_read (h ∷ hs) (k ∷ ks) told body apart numbers fits (inl tell) none =
    let rest = pools_read hs ks told body apart.1 numbers.1 fits.1 tell.1 none in
    let first = passed h hs ks told body apart.0 numbers.1 fits.1 tell.1 none in
    ap (λ o. option_map_or (λ t. behind_pool t.0 (pools_from hs t.1)) o (behind_pool usual_pool (pools_from hs (told ++ body)))) first
    ∙ ap (behind_pool usual_pool) rest ∙ ap (λ n. (n ∷ ks, body)) (sym tell.0)
pools_read (h ∷ hs) (k ∷ ks) told body apart numbers fits (inr tell) none =
    let rest = pools_read hs ks tell.0 body apart.1 numbers.1 fits.1 tell.2 none in
    let first = ap (λ t. first_pool h (t ++ body)) tell.1 ∙ own_first h k (tell.0 ++ body) numbers.0 fits.0 in
    ap (λ o. option_map_or (λ t. behind_pool t.0 (pools_from hs t.1)) o (behind_pool usual_pool (pools_from hs (told ++ body)))) first
    ∙ ap (behind_pool k) rest

pub pools_begin : (hosts pools : List ℕ) (told body : List (List ℕ)) → AllByRecursion IsStation hosts → AllByRecursion IsPool pools →
    TellPools hosts pools told → BeginsNoHead body → BeginsWithNoProcess (told ++ body)
pools_begin [] [] told body numbers fits tell none = subst (λ t. BeginsWithNoProcess (t ++ body)) (sym tell.2) (begins body none)
  where
    begins : (ls : List (List ℕ)) → BeginsNoHead ls → BeginsWithNoProcess ls
    begins [] none = tt
    begins (l ∷ ls) none = none.0
pools_begin [] (k ∷ ks) told body numbers fits tell none = let not_so : k ∷ ks ≡ [] = tell.1 in cc
pools_begin (h ∷ hs) [] told body numbers fits tell none = let not_so : h ∷ hs ≡ [] = tell.0 in cc
pools_begin (h ∷ hs) (k ∷ ks) told body numbers fits (inl tell) none = pools_begin hs ks told body numbers.1 fits.1 tell.1 none
pools_begin (h ∷ hs) (k ∷ ks) told body numbers fits (inr tell) none =
    subst (λ t. BeginsWithNoProcess (t ++ body)) (sym tell.1) (pool_no_process h k numbers.0 fits.0)

pub pools_no_feed : (hosts pools : List ℕ) (told : List (List ℕ)) → AllByRecursion IsStation hosts → AllByRecursion IsPool pools →
    TellPools hosts pools told → AllByRecursion HasNoFeed told
pools_no_feed [] [] told numbers fits tell = subst (AllByRecursion HasNoFeed) (sym tell.2) tt
pools_no_feed [] (k ∷ ks) told numbers fits tell = let not_so : k ∷ ks ≡ [] = tell.1 in cc
pools_no_feed (h ∷ hs) [] told numbers fits tell = let not_so : h ∷ hs ≡ [] = tell.0 in cc
pools_no_feed (h ∷ hs) (k ∷ ks) told numbers fits (inl tell) = pools_no_feed hs ks told numbers.1 fits.1 tell.1
pools_no_feed (h ∷ hs) (k ∷ ks) told numbers fits (inr tell) =
    subst (AllByRecursion HasNoFeed) (sym tell.1)
    (pool_no_feed h k numbers.0 fits.0, pools_no_feed hs ks tell.0 numbers.1 fits.1 tell.2)

-- The lines of pools that are not 16 tell all.

told_line : (h k : ℕ) (hs ks : List ℕ) (rest : List (List ℕ)) (b : Bool) → (k == usual_pool) ≡ b → TellPools hs ks rest →
    TellPools (h ∷ hs) (k ∷ ks) (cond b [] (pool_text h k ∷ []) ++ rest)
told_line h k hs ks rest true is tell = inl (eqb-true k usual_pool is, tell)
told_line h k hs ks rest false is tell = inr (rest, refl, tell)

same_lines : (f g : ℕ → List (List ℕ)) (hosts : List ℕ) → AllByRecursion (λ h. f h ≡ g h) hosts → flat_map f hosts ≡ flat_map g hosts
same_lines f g [] same = refl
same_lines f g (h ∷ hs) same = ap (λ l. l ++ flat_map f hs) same.0 ∙ ap (λ l. g h ++ l) (same_lines f g hs same.1)

abbrev line_of : (ℕ → ℕ) → ℕ → List (List ℕ)
line_of pool h = cond (pool h == usual_pool) [] (pool_text h (pool h) ∷ [])

passing : (h k : ℕ) (all hs ks : List ℕ) → AllByRecursion (IsOtherHost h) all →
    AllByRecursion (λ x. line_of (pool_beside (h ∷ hs) (k ∷ ks)) x ≡ line_of (pool_beside hs ks) x) all
passing h k [] hs ks apart = tt
passing h k (x ∷ xs) hs ks apart =
    (ap (λ b. line_of (λ y. cond b k (pool_beside hs ks y)) x) apart.0, passing h k xs hs ks apart.1)

pub pools_written : (hosts pools : List ℕ) → AreOtherHosts hosts → length pools ≡ length hosts →
    TellPools hosts pools (flat_map (line_of (pool_beside hosts pools)) hosts)
pools_written [] [] apart long = (refl, refl, refl)
pools_written [] (k ∷ ks) apart long = cc
pools_written (h ∷ hs) [] apart long = cc
pools_written (h ∷ hs) (k ∷ ks) apart long =
    let rest = pools_written hs ks apart.1 (omega (arith, long)) in
    let own : pool_beside (h ∷ hs) (k ∷ ks) h ≡ k = ap (λ b. cond b k (pool_beside hs ks h)) (eq-eqb h h refl) in
    subst (TellPools (h ∷ hs) (k ∷ ks))
    (ap (λ n. cond (n == usual_pool) [] (pool_text h n ∷ []) ++ flat_map (line_of (pool_beside hs ks)) hs) (sym own)
    ∙ ap (λ l. line_of (pool_beside (h ∷ hs) (k ∷ ks)) h ++ l)
    (sym (same_lines (line_of (pool_beside (h ∷ hs) (k ∷ ks))) (line_of (pool_beside hs ks)) hs (passing h k hs hs ks apart.0))))
    (told_line h k hs ks (flat_map (line_of (pool_beside hs ks)) hs) (k == usual_pool) refl rest)

-- Where all pools are 16 each is.

abbrev is_usual_at : (ℕ → ℕ) → ℕ → Bool
is_usual_at pool h = pool h == usual_pool

same_tests : (f g : ℕ → Bool) (hosts : List ℕ) → AllByRecursion (λ h. f h ≡ g h) hosts → list_all f hosts ≡ list_all g hosts
same_tests f g [] same = refl
same_tests f g (h ∷ hs) same = rw (same.0, same_tests f g hs same.1) refl

passing_tests : (h k : ℕ) (all hs ks : List ℕ) → AllByRecursion (IsOtherHost h) all →
    AllByRecursion (λ x. is_usual_at (pool_beside (h ∷ hs) (k ∷ ks)) x ≡ is_usual_at (pool_beside hs ks) x) all
passing_tests h k [] hs ks apart = tt
passing_tests h k (x ∷ xs) hs ks apart =
    (ap (λ b. cond b k (pool_beside hs ks x) == usual_pool) apart.0, passing_tests h k xs hs ks apart.1)

pub all_usual : (hosts pools : List ℕ) → AreOtherHosts hosts → length pools ≡ length hosts →
    list_all (is_usual_at (pool_beside hosts pools)) hosts ≡ true → pools ≡ replicate (length hosts) usual_pool
all_usual [] [] apart long all = refl
all_usual [] (k ∷ ks) apart long all = cc
all_usual (h ∷ hs) [] apart long all = cc
all_usual (h ∷ hs) (k ∷ ks) apart long all =
    let parts = and_parts (is_usual_at (pool_beside (h ∷ hs) (k ∷ ks)) h) (list_all (is_usual_at (pool_beside (h ∷ hs) (k ∷ ks))) hs) all in
    let own : pool_beside (h ∷ hs) (k ∷ ks) h ≡ k = ap (λ b. cond b k (pool_beside hs ks h)) (eq-eqb h h refl) in
    let rest = all_usual hs ks apart.1 (omega (arith, long))
    (sym (same_tests (is_usual_at (pool_beside (h ∷ hs) (k ∷ ks))) (is_usual_at (pool_beside hs ks)) hs (passing_tests h k hs hs ks apart.0))
    ∙ parts.1) in
    ap (λ n. n ∷ ks) (sym own ∙ eqb-true (pool_beside (h ∷ hs) (k ∷ ks) h) usual_pool parts.0) ∙ ap (λ l. usual_pool ∷ l) rest
