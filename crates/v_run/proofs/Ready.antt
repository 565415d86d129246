-- Each entry of a station was ready where it was made: each collect came in time.
use Rattle.std.proofs.Common.{◌≡◌, ℕ, ◌==◌, not, eqb-true, Bool, true, false, List, [], ◌∷◌, ◌++◌, cond, refl, sym, ap, ◌∙◌, subst, arith, append_assoc, append-nil}
use Rattle.vk_types.specs.Types.{StationEvent}
use Rattle.vk_base.specs.declared.event.StationEvent.TheVariants as events
use Rattle.vk_base.specs.declared.step.Step.TheVariants as steps
use Rattle.vk_base.specs.Settings.{Settings, has_station}
use Rattle.vk_base.specs.Steps.{is_allowed}
use Rattle.vk_base.proofs.BoolLemmas.{and_second}
use Rattle.vk_hub.specs.declared.event.HubEvent.{HubEvent}
use Rattle.vk_hub.specs.Hubs.{HubLog}
use Rattle.vk_host.specs.Values.{input_of}
use Rattle.vk_port.specs.Ports.{Action, Enters, Delivers, Drops, Hears, Berth, IsLog, Stand, entered_at, fetched_at}
use Rattle.vk_port.specs.Stations.{StationHistory, entries_at, is_full, is_own, is_ready}
use Rattle.vk_port.proofs.Histories.{entries_more}
use Rattle.vk_rules.specs.Readings.{reading}
use Rattle.v_run.specs.Closed.{AreClosed}
use Rattle.v_ended.specs.Answered.{ComeInTime, IsInTime}
use Rattle.v_run.specs.Passages.{Passage, fresh_station, host_of, nowhere}
use Rattle.v_run.proofs.Totals.{added_none, total, weight}
use Rattle.v_run.proofs.Logs.{entered_places}
use Rattle.v_run.proofs.Sums.{IsDone, added_same_each, all_done, at_station}
use Rattle.v_run.proofs.Entries.{input_is}

-- weights that are nothing where the entry was the station's own, ready, and had room
module _ (w : List (ℕ × StationEvent) → StationEvent → ℕ) where
  abbrev pub IsLight : StationHistory → Type 0
  IsLight o = (before : List (ℕ × StationEvent)) (e : StationEvent) → is_own o e ≡ true → is_ready o before e ≡ true
      → is_full o before e ≡ false
      → w before e ≡ 0

  pub light_log : (b : Berth) → IsLight b.station → (acts : List Action) (s t : Stand) → IsLog b s acts t → weight w (entered_places acts) ≡ 0
  light_log b light [] s t log = refl
  light_log b light (Enters before e posted ∷ acts) s t log =
      let one = light before e log.0.own log.0.ready log.0.room in
      let rest = light_log b light acts (entered_at b s before e posted) t log.1 in
      omega arith
  light_log b light (Delivers heard frame before posted ∷ acts) s t log =
      let e = events.Deliver frame in
      let one = light before e log.0.1.own log.0.1.ready log.0.1.room in
      let rest = light_log b light acts (entered_at b (fetched_at b s heard) before e posted) t log.1 in
      omega arith
  light_log b light (Drops heard frame ∷ acts) s t log = light_log b light acts (fetched_at b s heard) t log.1
  light_log b light (Hears heard ∷ acts) s t log = light_log b light acts (fetched_at b s heard) t log.1

-- A collect that is not allowed.
abbrev pub is_early : StationHistory → List (ℕ × StationEvent) → StationEvent → Bool
is_early o before (events.Collect pid) = not (is_allowed (reading o.config o.host (entries_at o before)).view (steps.Collect pid))
is_early o before e = false

abbrev pub early : StationHistory → List (ℕ × StationEvent) → StationEvent → ℕ
early o before e = cond (is_early o before e) 1 0

not_early : (b : Bool) → b ≡ true → cond {A = ℕ} (not b) 1 0 ≡ 0
not_early true is = refl
not_early false is = absurd (cc is)

pub early_none : (o : StationHistory) → IsLight (early o) o
early_none o before (events.Call pid c) own ready room = refl
early_none o before (events.Collect pid) own ready room =
    not_early (is_allowed (reading o.config o.host (entries_at o before)).view (steps.Collect pid)) (and_second _ _ ready)
early_none o before events.Tick own ready room = refl
early_none o before (events.Deliver f) own ready room = refl

allowed_by : (b : Bool) → cond {A = ℕ} (not b) 1 0 ≡ 0 → b ≡ true
allowed_by true none = refl
allowed_by false none = absurd (cc none)

in_time_one : (o : StationHistory) (before : List (ℕ × StationEvent)) (e : StationEvent) → early o before e ≡ 0
    → IsInTime o.config o.host (entries_at o before) (input_of e)
in_time_one o before (events.Call pid c) none = tt
in_time_one o before (events.Collect pid) none = allowed_by _ none
in_time_one o before events.Tick none = tt
in_time_one o before (events.Deliver f) none = tt

pub in_time_all : (o : StationHistory) (acc xs : List (ℕ × StationEvent)) → total (early o) acc xs ≡ 0
    → ComeInTime o.config o.host (entries_at o acc)
    → ComeInTime o.config o.host (entries_at o (acc ++ xs))
in_time_all o acc [] none so = subst (λ l. ComeInTime o.config o.host (entries_at o l)) (sym (append-nil acc)) so
in_time_all o acc (x ∷ xs) none so =
    let one = in_time_one o acc x.1 (omega arith) in
    let next : ComeInTime o.config o.host (entries_at o (acc ++ x ∷ [])) =
    subst (ComeInTime o.config o.host) (sym (entries_more o acc x))
    (subst (IsInTime o.config o.host (entries_at o acc)) (sym (input_is o acc x.1)) one, so) in
    subst (λ l. ComeInTime o.config o.host (entries_at o l)) (append_assoc acc (x ∷ []) xs) (in_time_all o (acc ++ x ∷ []) xs (omega
    arith) next)

module _ (c : Settings) (o : HubLog) (histories : ℕ → List (ℕ × StationEvent)) (heard : List (ℕ × HubEvent)) (gs : List Passage)
    (k : AreClosed c o histories heard gs) (h : ℕ) (there : has_station c.specs h ≡ true) where
  -- what is nothing at each entry of this station alone
  light_here : (w : StationHistory → List (ℕ × StationEvent) → StationEvent → ℕ) → ((q : StationHistory) → IsLight (w q) q)
      → total (w (fresh_station c h)) [] (histories h) ≡ 0
  light_here w light =
      at_station c o histories heard gs k (w (fresh_station c h)) h there
      ∙ (added_same_each (IsDone c o histories heard) (λ g. cond (host_of g == h) (weight (w (fresh_station c h)) (entered_places
      g.actions)) 0) (λ g. 0)
      gs (λ g d. by g d (host_of g == h) refl) (all_done c o histories heard gs k)
      ∙ added_none (λ (g : Passage). 0) gs (λ g. refl))
    where
      by : (g : Passage) → IsDone c o histories heard g → (b : Bool) → (host_of g == h) ≡ b
          → cond b (weight (w (fresh_station c h)) (entered_places g.actions)) 0 ≡ 0
      by g d true is =
          let here : g.berth.station ≡ fresh_station c h =
          d.0.station ∙ ap (fresh_station c) (eqb-true (host_of g) h is) in
          light_log (w (fresh_station c h)) g.berth (subst (IsLight (w (fresh_station c h))) (sym here) (light (fresh_station c h)))
          g.actions nowhere
          g.left d.0.log
      by g d false is = refl

  pub in_time : ComeInTime c h (entries_at (fresh_station c h) (histories h))
  in_time = in_time_all (fresh_station c h) [] (histories h) (light_here early early_none) tt
