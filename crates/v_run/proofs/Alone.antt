-- No passage but its own calls or collects for a process.
use Rattle.std.proofs.Common.{◌≡◌, ℕ, ◌+◌, ◌≤◌, ◌==◌, eqb-true, eq-eqb, Bool, true, false, Option, List, [], ◌∷◌, ◌++◌, cond, refl, sym, ap, ◌∙◌, subst, arith}
use Rattle.vk_types.specs.Types.{Answer, Call, Pid, StationEvent}
use Rattle.vk_base.specs.declared.event.StationEvent.TheVariants as events
use Rattle.vk_base.specs.Pids.{same_pid}
use Rattle.vk_base.specs.Settings.{Settings, has_station}
use Rattle.vk_host.specs.Values.{input_of}
use Rattle.vk_hub.specs.declared.event.HubEvent.{HubEvent}
use Rattle.vk_hub.specs.Hubs.{HubLog}
use Rattle.vk_port.specs.Ports.{Action, Enters, Delivers, Drops, Hears}
use Rattle.vk_port.specs.Stations.{StationHistory, entries_at, entry_at}
use Rattle.vk_rules.specs.Each.{Each}
use Rattle.vk_rules.specs.Entries.{Entry}
use Rattle.vk_rules.proofs.Lists.{each_both}
use Rattle.v_run.specs.Closed.{AreClosed, numbers_at}
use Rattle.v_run.specs.Jobs.{runs_pid}
use Rattle.v_run.specs.Outcomes.{DoesNothing, is_doing_of}
use Rattle.v_run.specs.Passages.{IsNext, IsRole, IsTick, OnlyPumps, OnlyTicks, Passage, Plays, Pumps, Role, Runs, Ticks, answer_in, call_in, fresh_station, host_of, number_of}
use Rattle.v_run.proofs.Totals.{AllOnce, IsOnce, Place, added, added_none, places, total, weight}
use Rattle.v_run.proofs.Dealt.{all_once}
use Rattle.v_run.proofs.Logs.{entered_places}
use Rattle.v_run.proofs.Sums.{IsDone, added_at, added_same_each, all_done, at_station, placed_whole}
use Rattle.v_run.proofs.Entries.{by_entries, input_is, total_same}
use Rattle.v_run.proofs.Playing.{NotOthers}

module _ (r : Pid) where
  -- 1 where the event is a call or a collect of this process
  abbrev pub doing : StationEvent → ℕ
  doing e = cond (is_doing_of r (input_of e)) 1 0

  abbrev pub doings : List Action → ℕ
  doings acts = weight (λ before e. doing e) (entered_places acts)

  is_not : (b : Bool) → b ≡ false → cond {A = ℕ} b 1 0 ≡ 0
  is_not true none = absurd (cc none)
  is_not false none = refl

  not_next : (task : List Answer → Option Call) (q : Pid) (calls : List Call) (answers : List Answer) (e : StationEvent)
      → same_pid q r ≡ false
      → IsNext task q calls answers e → doing e ≡ 0
  not_next task q calls answers (events.Call pid c) apart next =
      is_not (same_pid pid r) (subst (λ p. same_pid p r ≡ false) (sym next.0) apart)
  not_next task q calls answers (events.Collect pid) apart next =
      is_not (same_pid pid r) (subst (λ p. same_pid p r ≡ false) (sym next) apart)
  not_next task q calls answers events.Tick apart next = refl
  not_next task q calls answers (events.Deliver f) apart next = refl

  plays_none : (task : List Answer
      → Option Call) (q : Pid) (o : StationHistory) (calls : List Call) (answers : List Answer) (acts : List Action)
      → same_pid q r ≡ false → Plays task q o calls answers acts → doings acts ≡ 0
  plays_none task q o calls answers [] apart plays = refl
  plays_none task q o calls answers (Enters before e posted ∷ acts) apart plays =
      let rest = plays_none task q o (calls ++ call_in e) (answers ++ answer_in o before e) acts apart plays.1 in
      let one = not_next task q calls answers e apart plays.0 in
      omega arith
  plays_none task q o calls answers (Delivers heard frame before posted ∷ acts) apart plays =
      let rest = plays_none task q o calls answers acts apart plays in omega arith
  plays_none task q o calls answers (Drops heard frame ∷ acts) apart plays = plays_none task q o calls answers acts apart plays
  plays_none task q o calls answers (Hears heard ∷ acts) apart plays = plays_none task q o calls answers acts apart plays

  pumps_none : (acts : List Action) → OnlyPumps acts → doings acts ≡ 0
  pumps_none [] only = refl
  pumps_none (Enters before e posted ∷ acts) only = absurd only
  pumps_none (Delivers heard frame before posted ∷ acts) only = let rest = pumps_none acts only in omega arith
  pumps_none (Drops heard frame ∷ acts) only = pumps_none acts only
  pumps_none (Hears heard ∷ acts) only = pumps_none acts only

  tick_none : (e : StationEvent) → IsTick e → doing e ≡ 0
  tick_none (events.Call pid c) tick = absurd tick
  tick_none (events.Collect pid) tick = absurd tick
  tick_none events.Tick tick = refl
  tick_none (events.Deliver f) tick = absurd tick

  ticks_none : (acts : List Action) → OnlyTicks acts → doings acts ≡ 0
  ticks_none [] only = refl
  ticks_none (Enters before e posted ∷ acts) only = let rest = ticks_none acts only.1 in let one = tick_none e only.0 in omega arith
  ticks_none (Delivers heard frame before posted ∷ acts) only = let rest = ticks_none acts only in omega arith
  ticks_none (Drops heard frame ∷ acts) only = ticks_none acts only
  ticks_none (Hears heard ∷ acts) only = ticks_none acts only

  pub role_none : (role : Role) (o : StationHistory) (acts : List Action) → IsRole role o acts → runs_pid r role ≡ false → doings acts ≡ 0
  role_none (Runs q task) o acts is apart = plays_none task q o [] [] acts apart is.1
  role_none Pumps o acts is apart = pumps_none acts is
  role_none Ticks o acts is apart = ticks_none acts is

  self_by : (b : Bool) (p : Place StationEvent) (ps : List (Place StationEvent)) → b ≡ true
      → weight (λ before e. doing e) (cond b (p ∷ ps) ps) ≡ doing p.1 + weight (λ before e. doing e) ps
  self_by true p ps is = refl
  self_by false p ps is = absurd (cc is)

  less_by : (b : Bool) (p : Place StationEvent) (ps : List (Place StationEvent))
      → weight (λ before e. doing e) ps ≤ weight (λ before e. doing e) (cond b (p ∷ ps) ps)
  less_by true p ps = omega arith
  less_by false p ps = omega arith

  none_is : (b : Bool) → cond {A = ℕ} b 1 0 ≡ 0 → b ≡ false
  none_is true none = absurd (cc none)
  none_is false none = refl

  -- where all other numbers do nothing for it
  not_others : (task : List Answer → Option Call) (same : same_pid r r ≡ true) (o : StationHistory) (n : ℕ) (ns : List ℕ)
      (acc xs : List (ℕ × StationEvent)) → AllOnce ns xs
      → ((k : ℕ) → (k == n) ≡ false → IsOnce ns k → weight (λ before e. doing e) (places k acc xs) ≡ 0) → NotOthers task r same o n xs
  not_others task same o n ns acc [] below none = tt
  not_others task same o n ns acc (x ∷ xs) below none = (
    (λ other.
        let all = none x.0 other below.0 in
        let first = self_by (x.0 == x.0) (acc, x.1) (places x.0 (acc ++ x ∷ []) xs) (eq-eqb x.0 x.0 refl) in
        none_is (is_doing_of r (input_of x.1)) (omega arith)),
    not_others task same o n ns (acc ++ x ∷ []) xs below.1 (λ k other low.
        let all = none k other low in
        let less = less_by (x.0 == k) (acc, x.1) (places k (acc ++ x ∷ []) xs) in
        omega arith),
  )

  module _ (c : Settings) (o : HubLog) (histories : ℕ → List (ℕ × StationEvent)) (heard : List (ℕ × HubEvent)) (gs : List Passage)
      (k : AreClosed c o histories heard gs) where
    abbrev w : List (ℕ × StationEvent) → StationEvent → ℕ
    w before e = doing e

    -- each passage that runs it has this number
    module _ (n h : ℕ) (there : has_station c.specs h ≡ true)
        (own : Each (λ (g : Passage). host_of g ≡ h → runs_pid r g.role ≡ true → number_of g ≡ n) gs) where
      abbrev D : Passage → Type 0
      D g = IsDone c o histories heard g × (host_of g ≡ h → runs_pid r g.role ≡ true → number_of g ≡ n)

      passage_none : (j : ℕ) → (j == n) ≡ false → (g : Passage) → D g → (a b : Bool) → (host_of g == h) ≡ a → (j == number_of g) ≡ b
          → cond a (cond b (weight w (places j [] (histories h))) 0) 0 ≡ 0
      passage_none j other g d true true here is =
          let host : host_of g ≡ h = eqb-true (host_of g) h here in
          let number : j ≡ number_of g = eqb-true j (number_of g) is in
          let place : places (number_of g) [] (histories (host_of g)) ≡ entered_places g.actions = placed_whole c o histories heard g d.0 in
          let not_it : runs_pid r g.role ≡ true → ⊥ =
          λ runs. absurd (cc (other, eq-eqb j n (number ∙ d.1 host runs))) in
          let P : ℕ × ℕ → Type 0 = λ x. weight w (places x.0 [] (histories x.1)) ≡ 0 in
          subst P (λ i. (sym number i, host i))
          (ap (weight w) place ∙ role_none g.role (fresh_station c (host_of g)) g.actions d.0.0.role (is_false (runs_pid r g.role) not_it))
        where
          is_false : (b : Bool) → (b ≡ true → ⊥) → b ≡ false
          is_false true never = absurd (never refl)
          is_false false never = refl
      passage_none j other g d true false here is = refl
      passage_none j other g d false b here is = refl

      number_none : (j : ℕ) → (j == n) ≡ false → IsOnce (numbers_at h gs) j → weight w (places j [] (histories h)) ≡ 0
      number_none j other once =
          let m = weight w (places j [] (histories h)) in
          sym (once m)
          ∙ (added_at (λ i. cond (j == i) m 0) h gs
          ∙ (added_same_each D (λ g. cond (host_of g == h) (cond (j == number_of g) m 0) 0) (λ g. 0) gs
          (λ g d. passage_none j other g d (host_of g == h) (j == number_of g) refl refl)
          (each_both (IsDone c o histories heard) (λ g. host_of g ≡ h → runs_pid r g.role ≡ true → number_of g ≡ n) gs
          (all_done c o histories heard gs k) own)
          ∙ added_none (λ (g : Passage). 0) gs (λ g. refl)))

      pub alone : (task : List Answer → Option Call) (same : same_pid r r ≡ true)
          → NotOthers task r same (fresh_station c h) n (histories h)
      alone task same =
          not_others task same (fresh_station c h) n (numbers_at h gs) [] (histories h)
          (all_once (numbers_at h gs) (histories h) (k.numbers h there) (k.known h there)) number_none

    -- no passage runs it
    module _ (h : ℕ) (there : has_station c.specs h ≡ true) (none : Each (λ (g : Passage). runs_pid r g.role ≡ false) gs) where
      none_at : total w [] (histories h) ≡ 0
      none_at =
          at_station c o histories heard gs k w h there
          ∙ (added_same_each (λ g. IsDone c o histories heard g × (runs_pid r g.role ≡ false))
          (λ g. cond (host_of g == h) (weight w (entered_places g.actions)) 0) (λ g. 0) gs
          (λ g d. zero_by (host_of g == h) (weight w (entered_places g.actions))
          (role_none g.role (fresh_station c (host_of g)) g.actions d.0.0.role d.1))
          (each_both (IsDone c o histories heard) (λ g. runs_pid r g.role ≡ false) gs (all_done c o histories heard gs k) none)
          ∙ added_none (λ (g : Passage). 0) gs (λ g. refl))
        where
          zero_by : (b : Bool) (m : ℕ) → m ≡ 0 → cond b m 0 ≡ 0
          zero_by true m is = is
          zero_by false m is = refl

      nothing_in : (es : List Entry) → added (λ e. cond (is_doing_of r e.input) 1 0) es ≡ 0 → DoesNothing r es
      nothing_in [] is = tt
      nothing_in (e ∷ es) is = (none_is (is_doing_of r e.input) (omega arith), nothing_in es (omega arith))

      pub idle : DoesNothing r (entries_at (fresh_station c h) (histories h))
      idle =
          nothing_in (entries_at (fresh_station c h) (histories h))
          (sym (by_entries c h (histories h) (λ e. cond (is_doing_of r e.input) 1 0))
          ∙ (total_same (λ before e. cond (is_doing_of r (entry_at (fresh_station c h) before e).input) 1 0) w [] (histories h)
          (λ before e. ap (λ i. cond (is_doing_of r i) 1 0) (input_is (fresh_station c h) before e))
          ∙ none_at))
