-- The first of a station among what waits, place by place.
use Rattle.std.proofs.Common.{◌≡◌, ℕ, zero, suc, ◌<◌, ◌==◌, true, List, [], ◌∷◌, ◌++◌, length, get_or, take, drop, set, sym, ap, ◌∙◌, arith, cond}
use Rattle.vk_hub.specs.Links.{Waiting, rest_of}
use Rattle.vk_hub.specs.Hubs.{without_first}

without_here : (host : ℕ) (w : Waiting) (ws : List Waiting) → (w.station == host) ≡ true
    → without_first host (w ∷ ws) ≡ rest_of w.station w.ring w.held ∷ ws
without_here host w ws e = ap (λ b. cond b (rest_of w.station w.ring w.held ∷ ws) (w ∷ without_first host ws)) e

-- what waits at i is the first of its station
pub taken_at : (host : ℕ) (ws : List Waiting) (i : ℕ) (w : Waiting) → i < length ws → w ≡ get_or ws i w → (w.station == host) ≡ true
    → take i ws ++ without_first host (drop i ws) ≡ set ws i (rest_of w.station w.ring w.held)
taken_at host [] i w inside is here = absurd (omega arith)
taken_at host (v ∷ ws) zero w inside is here =
    without_here host v ws (ap (λ u. u.station == host) (sym is) ∙ here) ∙ ap (λ u. rest_of u.station u.ring u.held ∷ ws) (sym is)
taken_at host (v ∷ ws) (suc i) w inside is here = ap (λ l. v ∷ l) (taken_at host ws i w (omega arith) is here)
