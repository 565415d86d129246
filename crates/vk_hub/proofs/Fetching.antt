-- A fetch takes what it gives.
use Rattle.std.proofs.Common.{◌≡◌, ℕ, ◌+◌, ◌*◌, ◌≤◌, ◌==◌, eqb-true, Bool, true, false, Option, Some, None, List, [], ◌∷◌, cond, refl, sym, ap, ◌∙◌, subst, arith}
use Rattle.vk_hub.specs.Links.{Frame, Waiting, first_of, rest_of}
use Rattle.vk_hub.specs.Hubs.{first_for, found, without_first}
use Rattle.vk_hub.specs.Counting.{hits}
use Rattle.vk_hub.specs.declared.event.Fetched.TheVariants as fetched
use Rattle.vk_hub.proofs.Posting.{in_held, in_ring, inside, waiting_for, waiting_here, waiting_past}

rest_station : (station : ℕ) (ring : List Frame) (held : Option Frame) → (rest_of station ring held).station ≡ station
rest_station station [] held = refl
rest_station station (f ∷ ring) held = refl

module _ (test : Frame → Bool) where
  taken_one : (host station : ℕ) (ring : List Frame) (held : Option Frame)
      → hits test host (found (first_of ring held)) + inside test (rest_of station ring held) ≡ in_ring test ring + in_held test held
  unfolding in_ring in_held
  taken_one host station [] None = refl
  taken_one host station [] (Some f) = omega arith
  taken_one host station (f ∷ ring) held = omega arith

  same_by : (host : ℕ) (w : Waiting) (ws : List Waiting) (b : Bool) → (w.station == host) ≡ b
      → hits test host (found (first_for host ws)) + waiting_for test host (without_first host ws) ≤ waiting_for test host ws
      → hits test host (found (cond b (first_of w.ring w.held) (first_for host ws)))
      + waiting_for test host (cond {A = List Waiting} b (rest_of w.station w.ring w.held ∷ ws) (w ∷ without_first host ws))
      ≤ waiting_for test host (w ∷ ws)
  same_by host w ws true is rest =
      let station = ap (λ k. k == host) (rest_station w.station w.ring w.held) ∙ is in
      let now = waiting_here test host (rest_of w.station w.ring w.held) ws station in
      let was = waiting_here test host w ws is in
      let took = taken_one host w.station w.ring w.held in
      omega arith
  same_by host w ws false is rest =
      let now = waiting_past test host w (without_first host ws) is in
      let was = waiting_past test host w ws is in
      omega arith

  -- a fetch of the station
  taken_same : (host : ℕ) (ws : List Waiting)
      → hits test host (found (first_for host ws)) + waiting_for test host (without_first host ws) ≤ waiting_for test host ws
  unfolding waiting_for
  taken_same host [] = omega arith
  taken_same host (w ∷ ws) = same_by host w ws (w.station == host) refl (taken_same host ws)

  other_by : (host h : ℕ) (w : Waiting) (ws : List Waiting) → (h == host) ≡ false → (b : Bool) → (w.station == h) ≡ b
      → waiting_for test host (without_first h ws) ≡ waiting_for test host ws
      → waiting_for test host (cond {A = List Waiting} b (rest_of w.station w.ring w.held ∷ ws) (w ∷ without_first h ws))
      ≡ waiting_for test host (w ∷ ws)
  other_by host h w ws other true is rest =
      let here : (w.station == host) ≡ false = ap (λ k. k == host) (eqb-true w.station h is) ∙ other in
      let station = ap (λ k. k == host) (rest_station w.station w.ring w.held) ∙ here in
      waiting_past test host (rest_of w.station w.ring w.held) ws station ∙ sym (waiting_past test host w ws here)
  other_by host h w ws other false is rest = by_first (w.station == host) refl
    where
      by_first : (b : Bool) → (w.station == host) ≡ b → waiting_for test host (w ∷ without_first h ws) ≡ waiting_for test host (w ∷ ws)
      by_first true here = waiting_here test host w (without_first h ws) here ∙ sym (waiting_here test host w ws here)
      by_first false here = waiting_past test host w (without_first h ws) here ∙ (rest ∙ sym (waiting_past test host w ws here))

  -- a fetch of another station
  taken_other : (host h : ℕ) (ws : List Waiting) → (h == host) ≡ false
      → waiting_for test host (without_first h ws) ≡ waiting_for test host ws
  taken_other host h [] other = refl
  taken_other host h (w ∷ ws) other = other_by host h w ws other (w.station == h) refl (taken_other host h ws other)

  -- a fetch, by whether the hub is stopped and whether it is one of this station
  pub fetched_by : (host h most : ℕ) (ws : List Waiting) (stopped mine : Bool) → (h == host) ≡ mine
      → cond mine (hits test host (cond stopped fetched.Stopped (found (first_for h ws)))) 0
      + waiting_for test host (cond {A = List Waiting} stopped ws (without_first h ws)) ≤ waiting_for test host ws + most * 0
  fetched_by host h most ws true true is = omega arith
  fetched_by host h most ws true false is = omega arith
  fetched_by host h most ws false true is =
      let Takes : ℕ → Type 0 =
      λ k. hits test host (found (first_for k ws)) + waiting_for test host (without_first k ws) ≤ waiting_for test host ws in
      let it : Takes h = subst Takes (sym (eqb-true h host is)) (taken_same host ws) in
      omega arith
  fetched_by host h most ws false false is = let same = taken_other host h ws is in omega arith
