-- A port's log in the closed histories: its own entries stand there at the places that its actions tell.
use Rattle.std.proofs.Common.{◌≡◌, ℕ, ◌==◌, eq-eqb, Bool, true, false, List, [], ◌∷◌, ◌++◌, cond, refl, sym, ap, ◌∙◌, append_assoc, append-nil}
use native.Mathlib.Omega.{arith}
use mathlib.Core.List.{IsPrefix}
use Rattle.vk_types.specs.Types.{StationEvent}
use Rattle.turn_cell.specs.History.{events_of}
use Rattle.vk_base.specs.declared.event.StationEvent.TheVariants as events
use Rattle.vk_hub.specs.declared.event.HubEvent.{HubEvent}
use Rattle.vk_hub.specs.declared.event.HubEvent.TheVariants as hub_events
use Rattle.vk_port.specs.Ports.{Action, Enters, Delivers, Drops, Hears, IsLog, Berth, Stand, entered_at, fetched_at}
use Rattle.v_run.proofs.Totals.{Place, events_append, no_places, places, places_append}

append_none : {A : Type 0} (xs ys : List A) → xs ++ ys ≡ xs → ys ≡ []
append_none [] ys same = same
append_none (x ∷ xs) ys same = append_none xs ys (grind (arith, same))

-- the places at its station, and at the hub
abbrev pub entered_places : List Action → List (Place StationEvent)
entered_places [] = []
entered_places (Enters before e posted ∷ acts) = (before, e) ∷ entered_places acts
entered_places (Delivers heard frame before posted ∷ acts) = (before, events.Deliver frame) ∷ entered_places acts
entered_places (Drops heard frame ∷ acts) = entered_places acts
entered_places (Hears heard ∷ acts) = entered_places acts

abbrev pub fetched_places : ℕ → List Action → List (Place HubEvent)
fetched_places host [] = []
fetched_places host (Enters before e posted ∷ acts) = fetched_places host acts
fetched_places host (Delivers heard frame before posted ∷ acts) = (heard, hub_events.Fetch host) ∷ fetched_places host acts
fetched_places host (Drops heard frame ∷ acts) = (heard, hub_events.Fetch host) ∷ fetched_places host acts
fetched_places host (Hears heard ∷ acts) = (heard, hub_events.Fetch host) ∷ fetched_places host acts

snoc_rest : {A : Type 0} (xs : List A) (x : A) (ys zs whole : List A) → whole ≡ (xs ++ x ∷ []) ++ ys → ys ≡ zs → whole ≡ xs ++ (x ∷ zs)
snoc_rest xs x ys zs whole is rest = is ∙ (append_assoc xs (x ∷ []) ys ∙ ap (λ l. xs ++ (x ∷ l)) rest)

module _ {E : Type 0} where
  -- what lies between two beginnings that have the same own events has none
  none_between : (n : ℕ) (xs ys : List (ℕ × E)) (mine : List E) → IsPrefix xs ys → events_of n xs ≡ mine → events_of n ys ≡ mine
      → places n [] ys ≡ places n [] xs
  none_between n xs ys mine pre here there =
      let rest = pre.0 in
      let whole : xs ++ rest ≡ ys = pre.1 in
      let none : events_of n rest ≡ [] =
      append_none (events_of n xs) (events_of n rest)
      (sym (events_append n xs rest) ∙ (ap (events_of n) whole ∙ (there ∙ sym here))) in
      ap (places n []) (sym whole)
      ∙ (places_append n [] xs rest ∙ (ap (λ l. places n [] xs ++ l) (no_places n xs rest none) ∙ append-nil (places n [] xs)))

  one_place_by : (b : Bool) (p : Place E) → b ≡ true → cond {A = List (Place E)} b (p ∷ []) [] ≡ p ∷ []
  one_place_by true p is = refl
  one_place_by false p is = absurd (cc is)

  one_event_by : (b : Bool) (e : E) → b ≡ true → cond {A = List E} b (e ∷ []) [] ≡ e ∷ []
  one_event_by true p is = refl
  one_event_by false p is = absurd (cc is)

  pub placed_last : (n : ℕ) (xs : List (ℕ × E)) (e : E) → places n [] (xs ++ (n, e) ∷ []) ≡ places n [] xs ++ (xs, e) ∷ []
  placed_last n xs e =
      places_append n [] xs ((n, e) ∷ []) ∙ ap (λ l. places n [] xs ++ l) (one_place_by (n == n) (xs, e) (eq-eqb n n refl))

  pub events_last : (n : ℕ) (xs : List (ℕ × E)) (e : E) (mine : List E) → events_of n xs ≡ mine
      → events_of n (xs ++ (n, e) ∷ []) ≡ mine ++ e ∷ []
  events_last n xs e mine is =
      events_append n xs ((n, e) ∷ []) ∙ (ap (λ l. l ++ events_of n ((n, e) ∷ [])) is
      ∙ ap (λ l. mine ++ l) (one_event_by (n == n) e (eq-eqb n n refl)))

-- at the station
pub placed : (p : Berth) (history : List (ℕ × StationEvent)) (acts : List Action) (s t : Stand) → IsLog p s acts t
    → events_of p.number s.seen ≡ s.mine → IsPrefix t.seen history → events_of p.number history ≡ t.mine
    → places p.number [] history ≡ places p.number [] s.seen ++ entered_places acts
placed p history [] s t log mine pre whole =
    let n = p.number in
    let same : t.mine ≡ s.mine = log.2 in
    let later : IsPrefix s.seen history = then_prefix s.seen t.seen history log.0 pre in
    none_between n s.seen history s.mine later mine (whole ∙ same) ∙ sym (append-nil (places n [] s.seen))
  where
    then_prefix : {A : Type 0} (xs ys zs : List A) → IsPrefix xs ys → IsPrefix ys zs → IsPrefix xs zs
    then_prefix xs ys zs one two = (one.0 ++ two.0, sym (append_assoc xs one.0 two.0) ∙ (ap (λ l. l ++ two.0) one.1 ∙ two.1))
placed p history (Enters before e posted ∷ acts) s t log mine pre whole =
    let n = p.number in
    let at = log.0 in
    let next = entered_at p s before e posted in
    let rest = placed p history acts next t log.1 (events_last n before e s.mine at.mine) pre whole in
    snoc_rest (places n [] s.seen) (before, e) (entered_places acts) (entered_places acts) (places n [] history)
    (rest ∙ ap (λ l. l ++ entered_places acts)
    (placed_last n before e ∙ ap (λ l. l ++ (before, e) ∷ []) (none_between n s.seen before s.mine at.later mine at.mine))) refl
placed p history (Delivers heard frame before posted ∷ acts) s t log mine pre whole =
    let n = p.number in
    let at = log.0.1 in
    let e = events.Deliver frame in
    let next = entered_at p (fetched_at p s heard) before e posted in
    let rest = placed p history acts next t log.1 (events_last n before e s.mine at.mine) pre whole in
    snoc_rest (places n [] s.seen) (before, e) (entered_places acts) (entered_places acts) (places n [] history)
    (rest ∙ ap (λ l. l ++ entered_places acts)
    (placed_last n before e ∙ ap (λ l. l ++ (before, e) ∷ []) (none_between n s.seen before s.mine at.later mine at.mine))) refl
placed p history (Drops heard frame ∷ acts) s t log mine pre whole = placed p history acts (fetched_at p s heard) t log.1 mine pre whole
placed p history (Hears heard ∷ acts) s t log mine pre whole = placed p history acts (fetched_at p s heard) t log.1 mine pre whole
