-- Closed histories: those of all stations and that of the hub, once all seats have come back.
use Rattle.std.specs.Prelude.{ℕ, ◌≡◌, ◌==◌, eqb, true, false, List, [], ◌∷◌, ◌++◌, map, cond}
use Rattle.std.specs.List.{IsDistinct, list_any}
use mathlib.Core.List.{IsPrefix}
use Rattle.vk_types.specs.Types.{StationEvent}
use Rattle.turn_cell.specs.History.{events_of}
use Rattle.vk_base.specs.Settings.{Settings, has_station}
use Rattle.vk_hub.specs.declared.event.HubEvent.{HubEvent}
use Rattle.vk_hub.specs.Hubs.{HubLog}
use Rattle.vk_rules.specs.Each.{Each}
use Rattle.v_run.specs.Passages.{IsPassage, Passage, host_of, hub_number_of, number_of}

-- the numbers that the passages at this station had there, in order
abbrev pub numbers_at : ℕ → List Passage → List ℕ
numbers_at h [] = []
numbers_at h (g ∷ gs) = cond (host_of g == h) (number_of g ∷ numbers_at h gs) (numbers_at h gs)

-- The history of its station begins with what its seat had seen, and has just its events of its number; so does that of the hub.
pub record IsClosed (histories : ℕ → List (ℕ × StationEvent)) (hub : List (ℕ × HubEvent)) (g : Passage) : Type 0 where
  pub seen : IsPrefix g.left.seen (histories (host_of g))
  pub mine : events_of (number_of g) (histories (host_of g)) ≡ g.left.mine
  pub heard : IsPrefix g.left.heard hub
  pub sent : events_of (hub_number_of g) hub ≡ g.left.sent ++ g.last

-- All passages were through ports of these stations and this hub. At each station their seats have different numbers, and no other
-- number has entered anything; so it is at the hub.
pub record AreClosed (c : Settings) (o : HubLog) (histories : ℕ → List (ℕ × StationEvent)) (heard : List (ℕ × HubEvent)) (gs : List Passage)
    : Type 0 where
  pub passages : Each (IsPassage c o) gs
  pub closed : Each (IsClosed histories heard) gs
  pub stations : Each (λ g. has_station c.specs (host_of g) ≡ true) gs
  pub numbers : (h : ℕ) → has_station c.specs h ≡ true → IsDistinct eqb (numbers_at h gs)
  pub known : (h : ℕ) → has_station c.specs h ≡ true → (k : ℕ) → list_any (λ n. n == k) (numbers_at h gs) ≡ false →
      events_of k (histories h) ≡ []
  pub hub_numbers : IsDistinct eqb (map hub_number_of gs)
  pub hub_known : (k : ℕ) → list_any (λ n. n == k) (map hub_number_of gs) ≡ false → events_of k heard ≡ []
