-- Where as many programs have finished as there are each has, since none finishes twice; where not so many have, one has not.
use Rattle.std.proofs.Common.{◌≡◌, ◌≢◌, ℕ, ◌+◌, ◌*◌, ◌<◌, ◌≤◌, Bool, true, false, Option, Some, None, List, [], ◌∷◌, ◌++◌, cond, refl, sym, ap, ◌∙◌, subst, arith, ◌⊎◌, inl, inr, nat_le, nat_lt, ltb-true, ltb-false}
use Rattle.std.proofs.lemmas.Bool.{leb-false, leb-true}
use mathlib.Core.List.{IsPrefix}
use Rattle.std.specs.Prelude.{if◌then◌else◌}
use Rattle.vk_types.specs.Types.{StationEvent}
use Rattle.vk_base.specs.Settings.{Settings}
use Rattle.vk_schedule.specs.declared.plan.LinkPlan.{LinkPlan}
use Rattle.vk_hub.specs.declared.event.Fetched.TheVariants as fetched
use Rattle.vk_hub.specs.declared.event.HubEvent.{HubEvent}
use Rattle.vk_hub.specs.declared.event.HubEvent.TheVariants as hub_events
use Rattle.vk_hub.specs.Hubs.{HubLog, Traffic, changed, first_for, first_traffic, found, is_halt, is_stopped, traffic_after, traffic_of}
use Rattle.vk_hub.specs.Links.{Frame}
use Rattle.vk_port.specs.Ports.{Action}
use Rattle.vk_port.specs.Stations.{StationHistory}
use Rattle.vk_rules.specs.Each.{Each}
use Rattle.v_run.specs.Closed.{AreClosed}
use Rattle.v_run.specs.Jobs.{EndsRole}
use Rattle.v_run.specs.Passages.{IsAtEnd, IsLast, Passage, Pumps, Role, Runs, Ticks, answers_by, calls_by, fresh_station, host_of}
use Rattle.v_run.proofs.Totals.{Place, added, added_none, total, weight}
use Rattle.v_run.proofs.Heard.{sends}
use Rattle.vk_port.specs.Stations.{frames_at}
use Rattle.v_run.proofs.Logs.{entered_places}
use Rattle.v_run.proofs.Counts.{fetch_count, sends_few}
use Rattle.v_run.proofs.Sums.{IsDone, added_most_each, added_same_each, all_done, events_at_hub}

abbrev pub finishes : HubEvent → ℕ
finishes hub_events.Finished = 1
finishes e = 0

abbrev pub halts : HubEvent → ℕ
halts e = cond (is_halt e) 1 0

-- a sum that sees events alone
abbrev pub summed : {E : Type 0} → (E → ℕ) → List (ℕ × E) → ℕ
summed u [] = 0
summed u (x ∷ xs) = u x.1 + summed u xs

pub summed_is : {E : Type 0} (u : E → ℕ) (acc xs : List (ℕ × E)) → total (λ before e. u e) acc xs ≡ summed u xs
summed_is u acc [] = refl
summed_is u acc (x ∷ xs) = ap (λ n. u x.1 + n) (summed_is u (acc ++ x ∷ []) xs)

summed_append : {E : Type 0} (u : E → ℕ) (xs ys : List (ℕ × E)) → summed u xs ≤ summed u (xs ++ ys)
summed_append u [] ys = omega arith
summed_append u (x ∷ xs) ys = let rest = summed_append u xs ys in omega arith

pub summed_prefix : {E : Type 0} (u : E → ℕ) (xs ys : List (ℕ × E)) → IsPrefix xs ys → summed u xs ≤ summed u ys
summed_prefix u xs ys pre = subst (λ l. summed u xs ≤ summed u l) pre.1 (summed_append u xs pre.0)

-- Traffic counts them.
module _ (plan : LinkPlan) (n : ℕ) where
  finished_step : (e : HubEvent) (t : Traffic) (m s : ℕ) → m ≡ (changed plan n t e).finished + s → m ≡ t.finished + (finishes e + s)
  finished_step (hub_events.Post f) t m s rest = omega arith
  finished_step (hub_events.Fetch h) t m s rest = omega arith
  finished_step hub_events.Finished t m s rest = omega arith
  finished_step hub_events.Halt t m s rest = omega arith

  pub finished_after : (t : Traffic) (xs : List (ℕ × HubEvent)) → (traffic_after plan n t xs).finished ≡ t.finished + summed finishes xs
  finished_after t [] = omega arith
  finished_after t (x ∷ xs) =
      finished_step x.1 t ((traffic_after plan n (changed plan n t x.1) xs).finished) (summed finishes xs) (finished_after (changed plan
      n t x.1) xs)

  halted_step : (e : HubEvent) (t : Traffic) (s : ℕ) → halts e + s ≡ 0 → ((changed plan n t e).halted ≡ t.halted) × (s ≡ 0)
  halted_step (hub_events.Post f) t s none = (refl, omega arith)
  halted_step (hub_events.Fetch h) t s none = (refl, omega arith)
  halted_step hub_events.Finished t s none = (refl, omega arith)
  halted_step hub_events.Halt t s none = absurd (omega arith)

  pub halted_after : (t : Traffic) (xs : List (ℕ × HubEvent)) → summed halts xs ≡ 0 → (traffic_after plan n t xs).halted ≡ t.halted
  halted_after t [] none = refl
  halted_after t (x ∷ xs) none =
      let step = halted_step x.1 t (summed halts xs) none in halted_after (changed plan n t x.1) xs step.1 ∙ step.0

-- the frame that is found is no stop
found_is_no_stop : (o : Option Frame) → found o ≡ fetched.Stopped → ⊥
found_is_no_stop (Some f) is = cc is
found_is_no_stop None is = cc is

pub stopped_by : (programs h : ℕ) (t : Traffic) (b : Bool) → is_stopped programs t ≡ b
    → (if b then fetched.Stopped else found (first_for h t.waiting)) ≡ fetched.Stopped → is_stopped programs t ≡ true
stopped_by programs h t true is stop = is
stopped_by programs h t false is stop = absurd (found_is_no_stop (first_for h t.waiting) stop)

-- Jobs that met no Room.
abbrev pub is_program : Role → ℕ
is_program (Runs r task) = 1
is_program Pumps = 0
is_program Ticks = 0

-- each finishes at most once, and is a program
pub finish_few : (c : Settings) (g : Passage) (role : Role) → EndsRole c g role → IsLast g.last → added finishes g.last ≤ is_program role
finish_few c g (Runs r task) ends (inl is) = let n = ap (added finishes) is in omega arith
finish_few c g (Runs r task) ends (inr (inl is)) = let n = ap (added finishes) is in omega arith
finish_few c g (Runs r task) ends (inr (inr is)) = let n = ap (added finishes) is in omega arith
finish_few c g Pumps ends (inl is) = let n = ap (added finishes) is in omega arith
finish_few c g Pumps ends (inr (inl is)) = absurd (ends is)
finish_few c g Pumps ends (inr (inr is)) = let n = ap (added finishes) is in omega arith
finish_few c g Ticks ends (inl is) = let n = ap (added finishes) is in omega arith
finish_few c g Ticks ends (inr (inl is)) = absurd (ends is)
finish_few c g Ticks ends (inr (inr is)) = let n = ap (added finishes) is in omega arith

pub no_halt_last : (last : List HubEvent) → IsLast last → last ≢ hub_events.Halt ∷ [] → added halts last ≡ 0
no_halt_last last (inl is) none = ap (added halts) is
no_halt_last last (inr (inl is)) none = ap (added halts) is
no_halt_last last (inr (inr is)) none = absurd (none is)

pub no_sends : (u : HubEvent → ℕ) → ((f : Frame) → u (hub_events.Post f) ≡ 0) → ((h : ℕ) → u (hub_events.Fetch h) ≡ 0)
    → (o : StationHistory) (host : ℕ) (acts : List Action) → added u (sends o host acts) ≡ 0
no_sends u post fetch o host acts =
    let few = sends_few u (λ f. 0) post o host acts in
    let none = weight_none (entered_places acts) in
    let nothing = fetch host in
    at_most (added u (sends o host acts)) (weight (λ before e. added (λ (f : Frame). 0) (frames_at o before e)) (entered_places acts))
    (u (hub_events.Fetch host))
    (fetch_count acts) few none nothing
  where
    weight_none : (ps : List (Place StationEvent)) → weight (λ before e. added (λ (f : Frame). 0) (frames_at o before e)) ps ≡ 0
    weight_none ps = added_none (λ (p : Place StationEvent). added (λ (f : Frame). 0) (frames_at o p.0 p.1)) ps
        (λ p. added_none (λ (f : Frame). 0) (frames_at o p.0 p.1) (λ f. refl))

    at_most : (n w z k : ℕ) → n ≤ w + k * z → w ≡ 0 → z ≡ 0 → n ≡ 0
    at_most n w z k few none nothing = let gone : k * z ≡ k * 0 = ap (λ m. k * m) nothing in omega arith

abbrev pub HasEnded : Settings → Passage → Role → Type 0
HasEnded c g (Runs r task) = IsAtEnd task (calls_by g.actions) (answers_by (fresh_station c (host_of g)) g.actions)
HasEnded c g role = Unit {0}

ended_one : (c : Settings) (g : Passage) (role : Role) → EndsRole c g role → IsLast g.last
    → (1 ≤ is_program role → added finishes g.last ≡ 0 → ⊥) → HasEnded c g role
ended_one c g (Runs r task) ends (inl is) never = absurd (never (omega arith) (ap (added finishes) is))
ended_one c g (Runs r task) ends (inr (inl is)) never = ends is
ended_one c g (Runs r task) ends (inr (inr is)) never = absurd (never (omega arith) (ap (added finishes) is))
ended_one c g Pumps ends last never = tt
ended_one c g Ticks ends last never = tt

pub program_one : (role : Role) → is_program role ≤ 1
program_one (Runs r task) = omega arith
program_one Pumps = omega arith
program_one Ticks = omega arith

-- one of a list
abbrev pub Among : {A : Type 0} → A → List A → Type 0
Among x [] = ⊥
Among x (y ∷ ys) = (y ≡ x) ⊎ Among x ys

pub each_of : {A : Type 0} (P : A → Type 0) (xs : List A) → ((x : A) → Among x xs → P x) → Each P xs
each_of P [] all = tt
each_of P (x ∷ xs) all = (all x (inl refl), each_of P xs (λ y among. all y (inr among)))

pub of_each : {A : Type 0} (P : A → Type 0) (xs : List A) (x : A) → Each P xs → Among x xs → P x
of_each P [] x each among = absurd among
of_each P (y ∷ ys) x each (inl is) = subst P is each.0
of_each P (y ∷ ys) x each (inr among) = of_each P ys x each.1 among

added_less : {A : Type 0} (f h : A → ℕ) (xs : List A) (x : A) → Each (λ y. f y ≤ h y) xs → Among x xs → f x < h x → added f xs < added h xs
added_less f h [] x most among less = absurd among
added_less f h (y ∷ ys) x most (inl is) less =
    let one = subst (λ z. f z < h z) (sym is) less in let rest = added_most_list f h ys most.1 in omega arith
  where
    added_most_list : {A : Type 0} (f h : A → ℕ) (xs : List A) → Each (λ y. f y ≤ h y) xs → added f xs ≤ added h xs
    added_most_list f h xs most = added_most_each (λ y. f y ≤ h y) f h xs (λ y few. few) most
added_less f h (y ∷ ys) x most (inr among) less = let rest = added_less f h ys x most.1 among less in let one = most.0 in omega arith

-- where a sum is less than another one, so is one of its parts
less_one : {A : Type 0} (f h : A → ℕ) (xs : List A) → added f xs < added h xs → (x : A) × Among x xs × (f x < h x)
less_one f h [] less = absurd (omega arith)
less_one {A = A} f h (x ∷ xs) less = by (less_one f h xs) (nat_lt (f x) (h x)) refl
  where
    by : (added f xs < added h xs → (y : A) × Among y xs × (f y < h y)) → (b : Bool) → nat_lt (f x) (h x) ≡ b
        → (y : A) × Among y (x ∷ xs) × (f y < h y)
    by more true is = (x, inl refl, ltb-true (f x) (h x) is)
    by more false is =
        let most = ltb-false (f x) (h x) is in let rest = more (omega arith) in (rest.0, inr rest.1, rest.2)

module _ (c : Settings) (o : HubLog) (histories : ℕ → List (ℕ × StationEvent)) (heard : List (ℕ × HubEvent)) (gs : List Passage)
    (k : AreClosed c o histories heard gs) (programs : o.programs ≡ added (λ (g : Passage). is_program g.role) gs)
    (roles : Each (λ (g : Passage). EndsRole c g g.role) gs) where
  abbrev D : Passage → Type 0
  D = IsDone c o histories heard

  done : (g : Passage) → Among g gs → D g
  done g among = of_each D gs g (all_done c o histories heard gs k) among

  finished_are : (traffic_of o heard).finished ≡ added (λ (g : Passage). added finishes g.last) gs
  finished_are =
      let so_many = finished_after o.plan o.programs (first_traffic o.plan o.stations) heard in
      let all : summed finishes heard ≡ added (λ (g : Passage). added finishes g.last) gs =
      sym (summed_is finishes [] heard) ∙ (events_at_hub c o histories heard gs k finishes
      ∙ added_same_each D (λ g. added finishes (sends (fresh_station c (host_of g)) (host_of g) g.actions) + added finishes g.last)
      (λ g. added finishes g.last) gs
      (λ g d. second (added finishes (sends (fresh_station c (host_of g)) (host_of g) g.actions)) (added finishes g.last)
      (no_sends finishes (λ f. refl) (λ h. refl) (fresh_station c (host_of g)) (host_of g) g.actions))
      (all_done c o histories heard gs k)) in
      omega arith
    where
      second : (a b : ℕ) → a ≡ 0 → a + b ≡ b
      second a b none = omega arith

  few_each : Each (λ (g : Passage). added finishes g.last ≤ is_program g.role) gs
  few_each = each_of _ gs (λ g among. finish_few c g g.role (of_each _ gs g roles among) (done g among).0.last)

  pub all_ended : nat_le o.programs (traffic_of o heard).finished ≡ true → Each (λ (g : Passage). HasEnded c g g.role) gs
  all_ended enough = each_of _ gs (λ g among. ended_one c g g.role (of_each _ gs g roles among) (done g among).0.last (never g among))
    where
      never : (g : Passage) → Among g gs → 1 ≤ is_program g.role → added finishes g.last ≡ 0 → ⊥
      never g among program none =
          let count : o.programs ≤ (traffic_of o heard).finished = leb-true o.programs (traffic_of o heard).finished enough in
          let all = finished_are in
          let less =
          added_less (λ (h : Passage). added finishes h.last) (λ (h : Passage). is_program h.role) gs g few_each among (omega arith) in
          omega arith

  -- a program that has not finished
  pub one_left : nat_le o.programs (traffic_of o heard).finished ≡ false
      → (g : Passage) × Among g gs × (is_program g.role ≡ 1) × (added finishes g.last ≡ 0)
  one_left wanting =
      let count : (traffic_of o heard).finished < o.programs = leb-false o.programs (traffic_of o heard).finished wanting in
      let all = finished_are in
      let it = less_one (λ (h : Passage). added finishes h.last) (λ (h : Passage). is_program h.role) gs (omega arith) in
      let less = it.2 in
      let one = program_one it.0.role in
      (it.0, it.1, omega arith, omega arith)
