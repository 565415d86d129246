-- The stations of a configuration without a fault rise, and there are at most 16.
use Rattle.std.proofs.Common.{append_assoc, append-nil, ◌≡◌, ℕ, ◌-◌, ◌<◌, ◌≤◌, ◌==◌, ◌&&◌, ◌||◌, not, nat_lt, eqb-true, eq-eqb, Bool, true, false, Option, Some, None, List, [], ◌∷◌, ◌++◌, length, map, cond, refl, sym, subst, arith, ◌⊎◌, inl, inr}
use Rattle.std.specs.List.{list_any}
use Rattle.std.specs.Prelude.{slice_get}
use Rattle.std.proofs.lemmas.Bool.{cases_lt, ltb-true, or_parts}
use Rattle.std.proofs.lemmas.List.{length-append}
use Rattle.vk_types.specs.Types.{Pid, ProcessSpec}
use Rattle.vk_base.specs.declared.config.ConfigRefusal.TheVariants as refusals
use Rattle.vk_base.specs.Pids.{is_below}
unfoldable use Rattle.vk_base.specs.Settings.{fault_of}
use Rattle.vk_base.specs.Settings.{AreLawful, Settings, first_fault, rises, stations_of}
use Rattle.vk_base.proofs.SettingsLemmas.{room_of_stations, stations_of-append}
use Rattle.vk_base.proofs.Rising.{rises_here, last_of}
use Rattle.vk_base.proofs.OptionLemmas.{or_none}
use Rattle.vk_schedule.specs.declared.log.StationLog.{StationLog}
use Rattle.vk_join.specs.Logs.{HostsRise}
use Rattle.vk_rules.specs.Each.{Each}
use Rattle.v_run.specs.Laws.{host_in}

-- each is below all that come behind it
abbrev pub Ascend : List ℕ → Type 0
Ascend [] = Unit {0}
Ascend (h ∷ hs) = Each (λ k. h < k) hs × Ascend hs

-- a host that is not there, and not below the last, is above all
above_all : (h : ℕ) (hs : List ℕ) → list_any (λ k. k == h) hs ≡ false → Each (λ k. k ≤ h) hs → Each (λ k. k < h) hs
above_all h [] new most = tt
above_all h (k ∷ hs) new most =
    let parts : ((k == h) ≡ false) × (list_any (λ x. x == h) hs ≡ false) = or_parts (k == h) (list_any (λ x. x == h) hs) new in
    let apart : (k ≡ h) → ⊥ = λ same. absurd (cc (parts.0, eq-eqb k h same)) in
    let low = most.0 in
    (by apart (cases_lt k h), above_all h hs parts.1 most.1)
  where
    by : ((k ≡ h) → ⊥) → (k < h) ⊎ (h ≤ k) → k < h
    by apart (inl low) = low
    by apart (inr high) = absurd (apart (let low = most.0 in omega arith))

ascend_more : (hs : List ℕ) (h : ℕ) → Ascend hs → Each (λ k. k < h) hs → Ascend (hs ++ h ∷ [])
ascend_more [] h ascend below = (tt, tt)
ascend_more (k ∷ hs) h ascend below = (each_more (λ x. k < x) hs h ascend.0 below.0, ascend_more hs h ascend.1 below.1)
  where
    each_more : (P : ℕ → Type 0) (xs : List ℕ) (x : ℕ) → Each P xs → P x → Each P (xs ++ x ∷ [])
    each_more P [] x each last = (last, tt)
    each_more P (y ∷ ys) x each last = (each.0, each_more P ys x each.1 last)

most_more : (hs : List ℕ) (h : ℕ) → Each (λ k. k ≤ h) hs → Each (λ k. k ≤ h) (hs ++ h ∷ [])
most_more [] h most = (omega arith, tt)
most_more (k ∷ hs) h most = (most.0, most_more hs h most.1)

most_later : (g h : ℕ) (hs : List ℕ) → g ≤ h → Each (λ k. k ≤ g) hs → Each (λ k. k ≤ h) hs
most_later g h [] low most = tt
most_later g h (k ∷ hs) low most = (let one = most.0 in omega arith, most_later g h hs low most.1)

-- the last host of these processes, of which hosts are none above
abbrev IsUpTo : Option ProcessSpec → List ℕ → Type 0
IsUpTo None hs = hs ≡ []
IsUpTo (Some last) hs = Each (λ k. k ≤ last.pid.host) hs

below_host : (p q : Pid) → is_below p q ≡ true → p.host ≤ q.host
below_host p q is = by (nat_lt p.host q.host) refl is
  where
    by : (b : Bool) → nat_lt p.host q.host ≡ b → (b || ((p.host == q.host) && nat_lt p.local q.local)) ≡ true → p.host ≤ q.host
    by true low is = let less = ltb-true p.host q.host low in omega arith
    by false low is = let same = eqb-true p.host q.host (first (p.host == q.host) (nat_lt p.local q.local) is) in omega arith
      where
        first : (a b : Bool) → (a && b) ≡ true → a ≡ true
        first true b is = refl
        first false b is = absurd (cc is)

up_to_next : (o : Option ProcessSpec) (hs : List ℕ) (s : ProcessSpec) → IsUpTo o hs → rises o s.pid ≡ true → Each (λ k. k ≤ s.pid.host) hs
up_to_next None hs s up rise = subst (Each (λ k. k ≤ s.pid.host)) (sym up) tt
up_to_next (Some last) hs s up rise = most_later last.pid.host s.pid.host hs (below_host last.pid s.pid rise) up

-- stations that rise, up to the last process, and are not too many
record AreFine (before : List ProcessSpec) : Type 0 where
  ascend : Ascend (stations_of before)
  up : IsUpTo (slice_get before (length before - 1)) (stations_of before)
  few : length (stations_of before) ≤ 16

fine_if : (hs : List ℕ) (h : ℕ) (b : Bool) → list_any (λ k. k == h) hs ≡ b → Ascend hs → Each (λ k. k ≤ h) hs → length hs ≤ 16
    → (list_any (λ k. k == h) hs ≡ false → length hs < 16)
    → Ascend (cond b hs (hs ++ h ∷ [])) × Each (λ k. k ≤ h) (cond b hs (hs ++ h ∷ [])) × (length (cond b hs (hs ++ h ∷ [])) ≤ 16)
fine_if hs h true is ascend most few room = (ascend, most, few)
fine_if hs h false is ascend most few room =
    let low = room is in
    let size = length-append hs (h ∷ []) in
    (ascend_more hs h ascend (above_all h hs is most), most_more hs h most, omega arith)

fine_more : (before : List ProcessSpec) (s : ProcessSpec) → AreFine before → fault_of before s ≡ None → AreFine (before ++ s ∷ [])
fine_more before s fine none =
    let hs = stations_of before in
    let h = s.pid.host in
    let b = list_any (λ k. k == h) hs in
    let most = up_to_next (slice_get before (length before - 1)) hs s fine.up (rises_here before s none) in
    let it = fine_if hs h b refl fine.ascend most fine.few (room_of_stations before s none) in
    let is : stations_of (before ++ s ∷ []) ≡ cond b hs (hs ++ h ∷ []) = stations_of-append before s b refl in
    record {
      ascend = subst Ascend (sym is) it.0;
      up = subst (λ (o : Option ProcessSpec). IsUpTo o (stations_of (before ++ s ∷ []))) (sym (last_of before s))
          (subst (Each (λ k. k ≤ h)) (sym is) it.1);
      few = subst (λ (l : List ℕ). length l ≤ 16) (sym is) it.2;
    }

fine_on : (before rest : List ProcessSpec) → AreFine before → first_fault before rest ≡ None → AreFine (before ++ rest)
fine_on before [] fine none = subst AreFine (sym (append-nil before)) fine
fine_on before (s ∷ ss) fine none =
    let parts = or_none (fault_of before s) (first_fault (before ++ s ∷ []) ss) none in
    subst AreFine (append_assoc before (s ∷ []) ss) (fine_on (before ++ s ∷ []) ss (fine_more before s fine parts.0) parts.1)

all_fine : (c : Settings) → AreLawful c → AreFine c.specs
all_fine c lawful =
    fine_on [] c.specs (record { ascend = tt; up = refl; few = omega arith }) lawful.processes

pub stations_rise : (c : Settings) → AreLawful c → Ascend (stations_of c.specs)
stations_rise c lawful = (all_fine c lawful).ascend

pub few_stations : (c : Settings) → AreLawful c → length (stations_of c.specs) ≤ 16
few_stations c lawful = (all_fine c lawful).few

-- logs with rising hosts
each_host : (h : ℕ) (ls : List StationLog) → Each (λ k. h < k) (map host_in ls) → Each (λ (m : StationLog). h < m.host) ls
each_host h [] each = tt
each_host h (l ∷ ls) each = (each.0, each_host h ls each.1)

pub hosts_rise : (ls : List StationLog) → Ascend (map host_in ls) → HostsRise ls
hosts_rise [] ascend = tt
hosts_rise (l ∷ ls) ascend = (each_host l.host ls ascend.0, hosts_rise ls ascend.1)
