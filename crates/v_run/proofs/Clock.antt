-- Ticks: each station has one passage of the clock, and only that ticks.
use Rattle.std.proofs.Common.{◌≡◌, ℕ, ◌+◌, ◌*◌, ◌≤◌, ◌==◌, Bool, true, false, Option, List, [], ◌∷◌, ◌++◌, cond, refl, sym, ap, ◌∙◌, arith}
use native.Mathlib.Nat.{add-mul, one-mul, zero-mul}
use Rattle.vk_types.specs.Types.{Answer, Call, Pid, StationEvent}
use Rattle.vk_base.specs.declared.event.StationEvent.TheVariants as events
use Rattle.vk_base.specs.Settings.{Settings, has_station}
use Rattle.vk_hub.specs.declared.event.HubEvent.{HubEvent}
use Rattle.vk_hub.specs.Hubs.{HubLog}
use Rattle.vk_port.specs.Ports.{Action, Enters, Delivers, Drops, Hears}
use Rattle.vk_port.specs.Stations.{StationHistory, entries_at}
use Rattle.vk_rules.specs.Each.{Each}
use Rattle.vk_rules.proofs.Lists.{each_both}
use Rattle.v_run.specs.Closed.{AreClosed}
use Rattle.v_run.specs.Jobs.{KeepsTime, clocks_at, is_clock}
use Rattle.v_run.specs.Outcomes.{ticks_in}
use Rattle.v_run.specs.Passages.{IsNext, IsRole, IsTick, OnlyPumps, OnlyTicks, Passage, Plays, Pumps, Role, Runs, Ticks, answer_in, call_in, fresh_station, host_of, tick_count}
use Rattle.v_run.proofs.Totals.{added, weight}
use Rattle.v_run.proofs.Logs.{entered_places}
use Rattle.v_run.proofs.Sums.{IsDone, added_most_each, all_done, at_station}
use Rattle.v_run.proofs.Entries.{tick_of, ticks_are}

abbrev pub ticks_by : List Action → ℕ
ticks_by acts = weight (λ before e. tick_of e) (entered_places acts)

no_tick_next : (task : List Answer → Option Call) (r : Pid) (calls : List Call) (answers : List Answer) (e : StationEvent)
    → IsNext task r calls answers e → tick_of e ≡ 0
no_tick_next task r calls answers (events.Call pid c) next = refl
no_tick_next task r calls answers (events.Collect pid) next = refl
no_tick_next task r calls answers events.Tick next = absurd next
no_tick_next task r calls answers (events.Deliver f) next = absurd next

pub plays_no_tick : (task : List Answer
    → Option Call) (r : Pid) (o : StationHistory) (calls : List Call) (answers : List Answer) (acts : List Action)
    → Plays task r o calls answers acts → ticks_by acts ≡ 0
plays_no_tick task r o calls answers [] plays = refl
plays_no_tick task r o calls answers (Enters before e posted ∷ acts) plays =
    let rest = plays_no_tick task r o (calls ++ call_in e) (answers ++ answer_in o before e) acts plays.1 in
    let one = no_tick_next task r calls answers e plays.0 in
    omega arith
plays_no_tick task r o calls answers (Delivers heard frame before posted ∷ acts) plays =
    let rest = plays_no_tick task r o calls answers acts plays in omega arith
plays_no_tick task r o calls answers (Drops heard frame ∷ acts) plays = plays_no_tick task r o calls answers acts plays
plays_no_tick task r o calls answers (Hears heard ∷ acts) plays = plays_no_tick task r o calls answers acts plays

pumps_no_tick : (acts : List Action) → OnlyPumps acts → ticks_by acts ≡ 0
pumps_no_tick [] only = refl
pumps_no_tick (Enters before e posted ∷ acts) only = absurd only
pumps_no_tick (Delivers heard frame before posted ∷ acts) only = let rest = pumps_no_tick acts only in omega arith
pumps_no_tick (Drops heard frame ∷ acts) only = pumps_no_tick acts only
pumps_no_tick (Hears heard ∷ acts) only = pumps_no_tick acts only

one_tick : (e : StationEvent) → IsTick e → tick_of e ≡ 1
one_tick (events.Call pid c) tick = absurd tick
one_tick (events.Collect pid) tick = absurd tick
one_tick events.Tick tick = refl
one_tick (events.Deliver f) tick = absurd tick

pub only_ticks : (acts : List Action) → OnlyTicks acts → ticks_by acts ≡ tick_count acts
only_ticks [] only = refl
only_ticks (Enters before e posted ∷ acts) only = let rest = only_ticks acts only.1 in let one = one_tick e only.0 in omega arith
only_ticks (Delivers heard frame before posted ∷ acts) only = let rest = only_ticks acts only in omega arith
only_ticks (Drops heard frame ∷ acts) only = only_ticks acts only
only_ticks (Hears heard ∷ acts) only = only_ticks acts only

-- a passage ticks so often as the clock may, where it is one of the clock, else not at all
ticks_low : (n rounds : ℕ) (g : Passage) (role : Role) (o : StationHistory) → IsRole role o g.actions → KeepsTime n rounds g role
    → is_clock role * n ≤ ticks_by g.actions
ticks_low n rounds g (Runs r task) o is keeps = omega arith
ticks_low n rounds g Pumps o is keeps = omega arith
ticks_low n rounds g Ticks o is keeps = let same = only_ticks g.actions is in let low = keeps.0 in omega arith

ticks_high : (n rounds : ℕ) (g : Passage) (role : Role) (o : StationHistory) → IsRole role o g.actions → KeepsTime n rounds g role
    → (ticks_by g.actions ≤ is_clock role * (n + 1)) × (ticks_by g.actions ≤ is_clock role * rounds)
ticks_high n rounds g (Runs r task) o is keeps = let none = plays_no_tick task r o [] [] g.actions is.1 in (omega arith, omega arith)
ticks_high n rounds g Pumps o is keeps = let none = pumps_no_tick g.actions is in (omega arith, omega arith)
ticks_high n rounds g Ticks o is keeps =
    let same = only_ticks g.actions is in let high = keeps.1 in let few = keeps.2 in (omega arith, omega arith)

scaled_by : (m a : ℕ) (b : Bool) → cond {A = ℕ} b (a * m) 0 ≡ cond b a 0 * m
scaled_by m a true = refl
scaled_by m a false = sym (zero-mul m)

scaled : (m h : ℕ) (gs : List Passage) → added (λ g. cond (host_of g == h) (is_clock g.role * m) 0) gs ≡ clocks_at h gs * m
scaled m h [] = sym (zero-mul m)
scaled m h (g ∷ gs) =
    let one = scaled_by m (is_clock g.role) (host_of g == h) in
    let rest = scaled m h gs in
    omega (arith, add-mul (cond (host_of g == h) (is_clock g.role) 0) (clocks_at h gs) m)

under_test : (b : Bool) (m n : ℕ) → m ≤ n → cond {A = ℕ} b m 0 ≤ cond b n 0
under_test true m n le = le
under_test false m n le = omega arith

module _ (c : Settings) (o : HubLog) (histories : ℕ → List (ℕ × StationEvent)) (heard : List (ℕ × HubEvent)) (gs : List Passage)
    (k : AreClosed c o histories heard gs) (n rounds : ℕ) (time : Each (λ (g : Passage). KeepsTime n rounds g g.role) gs) where
  abbrev D : Passage → Type 0
  D g = IsDone c o histories heard g × KeepsTime n rounds g g.role

  both : Each D gs
  both = each_both (IsDone c o histories heard) (λ g. KeepsTime n rounds g g.role) gs (all_done c o histories heard gs k) time

  module _ (h : ℕ) (there : has_station c.specs h ≡ true) (one : clocks_at h gs ≡ 1) where
    ticks_at : ticks_in (entries_at (fresh_station c h) (histories h)) ≡ added (λ g. cond (host_of g == h) (ticks_by g.actions) 0) gs
    ticks_at = sym (ticks_are c h (histories h)) ∙ at_station c o histories heard gs k (λ before e. tick_of e) h there

    single : (m : ℕ) → clocks_at h gs * m ≡ m
    single m = ap (λ x. x * m) one ∙ one-mul m

    pub at_least : n ≤ ticks_in (entries_at (fresh_station c h) (histories h))
    at_least =
        let low =
        added_most_each D (λ g. cond (host_of g == h) (is_clock g.role * n) 0) (λ g. cond (host_of g == h) (ticks_by g.actions) 0) gs
        (λ g d. under_test (host_of g == h) (is_clock g.role * n) (ticks_by g.actions) (ticks_low n rounds g g.role _ d.0.0.role
        d.1)) both in
        let sum = scaled n h gs in let it = single n in let at = ticks_at in omega arith

    at_most_by : (m : ℕ) → ((g : Passage) → D g → ticks_by g.actions ≤ is_clock g.role * m)
        → ticks_in (entries_at (fresh_station c h) (histories h)) ≤ m
    at_most_by m most =
        let high =
        added_most_each D (λ g. cond (host_of g == h) (ticks_by g.actions) 0) (λ g. cond (host_of g == h) (is_clock g.role * m) 0) gs
        (λ g d. under_test (host_of g == h) (ticks_by g.actions) (is_clock g.role * m) (most g d)) both in
        let sum = scaled m h gs in let it = single m in let at = ticks_at in omega arith

    pub at_most : ticks_in (entries_at (fresh_station c h) (histories h)) ≤ n + 1
    at_most = at_most_by (n + 1) (λ g d. (ticks_high n rounds g g.role _ d.0.0.role d.1).0)

    pub few : ticks_in (entries_at (fresh_station c h) (histories h)) ≤ rounds
    few = at_most_by rounds (λ g d. (ticks_high n rounds g g.role _ d.0.0.role d.1).1)
