-- Why a run was limited: a station is used up, or there are many frames and deliveries.
use Rattle.std.proofs.Common.{◌≡◌, ℕ, suc, ◌+◌, ◌*◌, ◌≤◌, ◌==◌, eqb-true, Bool, true, false, List, [], ◌∷◌, ◌++◌, length, map, cond, refl, sym, ap, ◌∙◌, subst, arith}
use mathlib.Core.List.{IsPrefix}
use Rattle.vk_types.specs.Types.{StationEvent}
use Rattle.vk_base.specs.Settings.{Settings, has_station, stations_of}
use Rattle.vk_hub.specs.declared.event.HubEvent.{HubEvent}
use Rattle.vk_hub.specs.Hubs.{HubLog, is_halt, others}
use Rattle.vk_hub.specs.Links.{Frame}
use Rattle.vk_port.specs.Stations.{entries_at, entry_at, frames_at}
use Rattle.vk_rules.specs.Each.{Each}
use Rattle.v_run.specs.Closed.{AreClosed}
use Rattle.v_run.specs.Jobs.{IsJobEnd, JobEnd, last_entries, losses}
use Rattle.v_run.specs.Outcomes.{deliveries_in, frames_in, over}
use Rattle.v_run.specs.Passages.{Passage, fresh_station, host_of, lost_count}
use Rattle.v_run.specs.Runs.{passages_of}
use Rattle.v_run.proofs.Totals.{added, added_append, added_same, added_sum, total, weight}
use Rattle.v_run.proofs.Spread.{by_hosts}
use Rattle.v_run.proofs.Heard.{sends}
use Rattle.v_run.proofs.Logs.{entered_places}
use Rattle.v_run.proofs.Sums.{IsDone, added_most_each, added_same_each, all_done, at_station, events_at_hub}
use Rattle.v_run.proofs.Counts.{delivers, fetches_counted, other, others_are, sends_few}
use Rattle.v_run.proofs.Entries.{by_entries, deliveries_are, frames_sum, total_same}
use Rattle.v_run.proofs.Seldom.{added_over, all_once, each_station, own}

losses_are : (gs : List Passage) → losses gs ≡ added (λ g. lost_count g.actions) gs
losses_are [] = refl
losses_are (g ∷ gs) = ap (λ n. lost_count g.actions + n) (losses_are gs)

lasts_are : (gs : List Passage) → last_entries gs ≡ added (λ g. length g.last) gs
lasts_are [] = refl
lasts_are (g ∷ gs) = ap (λ n. length g.last + n) (lasts_are gs)

pub few_losses : (c : Settings) (js : List JobEnd) → Each (IsJobEnd c) js
    → added (λ g. lost_count g.actions) (passages_of js) ≤ 2 * length js
few_losses c [] ends = omega arith
few_losses c (j ∷ js) ends =
    let rest = few_losses c js ends.1 in
    let one = ends.0.losses in
    let same = losses_are j.passages in
    let sum = added_append (λ (g : Passage). lost_count g.actions) j.passages (passages_of js) in
    omega arith

pub few_lasts : (c : Settings) (js : List JobEnd) → Each (IsJobEnd c) js
    → added (λ (g : Passage). length g.last) (passages_of js) ≤ length js
few_lasts c [] ends = omega arith
few_lasts c (j ∷ js) ends =
    let rest = few_lasts c js ends.1 in
    let one = ends.0.last_entries in
    let same = lasts_are j.passages in
    let sum = added_append (λ (g : Passage). length g.last) j.passages (passages_of js) in
    omega arith

one_each : (b : Bool) → cond {A = ℕ} b 0 1 ≤ 1
one_each true = omega arith
one_each false = omega arith

pub last_few : (last : List HubEvent) → added other last ≤ length last
last_few [] = omega arith
last_few (e ∷ es) = let rest = last_few es in let one = one_each (is_halt e) in omega arith

pub added_ones : {A : Type 0} (xs : List A) → added (λ x. 1) xs ≡ length xs
added_ones [] = refl
added_ones (x ∷ xs) = let rest = added_ones xs in omega arith

pub length_map : {A B : Type 0} (f : A → B) (xs : List A) → length (map f xs) ≡ length xs
length_map f [] = refl
length_map f (x ∷ xs) = ap suc (length_map f xs)

module _ (c : Settings) (o : HubLog) (histories : ℕ → List (ℕ × StationEvent)) (heard : List (ℕ × HubEvent)) (gs : List Passage)
    (k : AreClosed c o histories heard gs) where
  abbrev D : Passage → Type 0
  D = IsDone c o histories heard

  -- what a passage made, and what it delivered
  abbrev made : ℕ → List (ℕ × StationEvent) → StationEvent → ℕ
  made q before e = added (λ (f : Frame). 1) (frames_at (fresh_station c q) before e)

  abbrev took : List (ℕ × StationEvent) → StationEvent → ℕ
  took before e = delivers (λ f. true) e

  sent_by : (g : Passage) → D g
      → added other (sends (fresh_station c (host_of g)) (host_of g) g.actions) + added other g.last
      ≤ (weight (made (host_of g)) (entered_places g.actions) + weight took (entered_places g.actions))
      + (lost_count g.actions + length g.last)
  sent_by g d =
      let few = sends_few other (λ f. 1) (λ f. refl) (fresh_station c (host_of g)) (host_of g) g.actions in
      let count = fetches_counted g.actions (own c o histories heard gs k g d) in
      let last = last_few g.last in
      omega arith

  one_at : (w : ℕ → List (ℕ × StationEvent) → StationEvent → ℕ) (g : Passage) (q : ℕ) (b : Bool) → (host_of g == q) ≡ b
      → cond b (weight (w (host_of g)) (entered_places g.actions)) 0 ≡ cond b (weight (w q) (entered_places g.actions)) 0
  one_at w g q true is = ap (λ (x : ℕ). weight (w x) (entered_places g.actions)) (eqb-true (host_of g) q is)
  one_at w g q false is = refl

  one_total : (w : ℕ → List (ℕ × StationEvent) → StationEvent → ℕ) (q : ℕ) → has_station c.specs q ≡ true
      → added (λ g. cond (host_of g == q) (weight (w (host_of g)) (entered_places g.actions)) 0) gs ≡ total (w q) [] (histories q)
  one_total w q there =
      added_same (λ g. cond (host_of g == q) (weight (w (host_of g)) (entered_places g.actions)) 0)
      (λ g. cond (host_of g == q) (weight (w q) (entered_places g.actions)) 0) gs (λ g. one_at w g q (host_of g == q) refl)
      ∙ sym (at_station c o histories heard gs k (w q) q there)

  -- what all passages did at all stations
  pub by_stations : (w : ℕ → List (ℕ × StationEvent) → StationEvent → ℕ)
      → added (λ g. weight (w (host_of g)) (entered_places g.actions)) gs ≡ added (λ q. total (w q) [] (histories q)) (stations_of c.specs)
  by_stations w =
      let parts = by_hosts host_of (λ g. weight (w (host_of g)) (entered_places g.actions)) (stations_of c.specs) gs
      (all_once c gs k.stations) in
      let each = added_same_each (λ q. has_station c.specs q ≡ true)
      (λ q. added (λ g. cond (host_of g == q) (weight (w (host_of g)) (entered_places g.actions)) 0) gs)
      (λ q. total (w q) [] (histories q)) (stations_of c.specs) (one_total w) (each_station (λ q. has_station c.specs q
      ≡ true) c (λ q there. there)) in
      sym parts ∙ each

  frames_are : (q : ℕ) → total (made q) [] (histories q) ≡ frames_in (entries_at (fresh_station c q) (histories q))
  frames_are q =
      let O = fresh_station c q in
      total_same (made q) (λ before e. length (entry_at O before e).frames) [] (histories q)
      (λ before e. added_ones (frames_at O before e) ∙ length_map _ (entry_at O before e).frames)
      ∙ (by_entries c q (histories q) (λ e. length e.frames) ∙ sym (frames_sum (entries_at O (histories q))))

  -- the hub's entries are few beside frames and deliveries
  pub others_most : others heard
      ≤ (over (λ q. frames_in (entries_at (fresh_station c q) (histories q))) (stations_of c.specs)
      + over (λ q. deliveries_in (entries_at (fresh_station c q) (histories q))) (stations_of c.specs))
      + (added (λ (g : Passage). lost_count g.actions) gs + added (λ (g : Passage). length g.last) gs)
  others_most =
      let all = others_are [] heard in
      let hub = events_at_hub c o histories heard gs k other in
      let most = added_most_each D
      (λ g. added other (sends (fresh_station c (host_of g)) (host_of g) g.actions) + added other g.last)
      (λ g. (weight (made (host_of g)) (entered_places g.actions) + weight took (entered_places g.actions))
      + (lost_count g.actions + length g.last)) gs sent_by (all_done c o histories heard gs k) in
      let one = added_sum (λ g. weight (made (host_of g)) (entered_places g.actions) + weight took (entered_places g.actions))
      (λ g. lost_count g.actions + length g.last) gs in
      let two = added_sum (λ g. weight (made (host_of g)) (entered_places g.actions)) (λ g. weight took (entered_places g.actions)) gs in
      let three = added_sum (λ (g : Passage). lost_count g.actions) (λ (g : Passage). length g.last) gs in
      let frames = by_stations made in
      let taken = by_stations (λ q. took) in
      let f = added_same (λ q. total (made q) [] (histories q)) (λ q. frames_in (entries_at (fresh_station c q) (histories q)))
      (stations_of c.specs)
      frames_are in
      let d = added_same (λ q. total took [] (histories q)) (λ q. deliveries_in (entries_at (fresh_station c q) (histories q)))
      (stations_of c.specs)
      (λ q. deliveries_are c q (histories q)) in
      let g = added_over (λ q. frames_in (entries_at (fresh_station c q) (histories q))) (stations_of c.specs) in
      let h = added_over (λ q. deliveries_in (entries_at (fresh_station c q) (histories q))) (stations_of c.specs) in
      omega arith

-- a beginning of the hub's history has no more entries
others_append : (xs ys : List (ℕ × HubEvent)) → others xs ≤ others (xs ++ ys)
others_append [] ys = omega arith
others_append (x ∷ xs) ys = by (is_halt x.1) (others_append xs ys)
  where
    by : (b : Bool) → others xs ≤ others (xs ++ ys) → cond b (others xs) (others xs + 1)
        ≤ cond b (others (xs ++ ys)) (others (xs ++ ys) + 1)
    by true rest = rest
    by false rest = omega arith

pub others_prefix : (xs ys : List (ℕ × HubEvent)) → IsPrefix xs ys → others xs ≤ others ys
others_prefix xs ys pre = subst (λ l. others xs ≤ others l) pre.1 (others_append xs pre.0)
