-- That what a fetch gave was posted for the station.
use Rattle.std.specs.Prelude.{◌≡◌, ℕ, ◌⊎◌, true, List, [], ◌∷◌}
use Rattle.vk_hub.specs.Links.{Frame, header_of, is_addressed}
use Rattle.vk_hub.specs.declared.event.HubEvent.{HubEvent}
use Rattle.vk_hub.specs.declared.event.HubEvent.TheVariants as event
use Rattle.vk_hub.specs.declared.event.Fetched.{Fetched}
use Rattle.vk_hub.specs.declared.event.Fetched.TheVariants as fetched

-- the event posts this frame, which is addressed to the station
abbrev pub IsPostOf : Frame → ℕ → HubEvent → Type 0
IsPostOf frame host (event.Post f) = (f ≡ frame) × (is_addressed (header_of f) host ≡ true)
IsPostOf frame host e = ⊥

abbrev pub WasPosted : Frame → ℕ → List (ℕ × HubEvent) → Type 0
WasPosted frame host [] = ⊥
WasPosted frame host (x ∷ xs) = IsPostOf frame host x.1 ⊎ WasPosted frame host xs

-- the frame that was fetched, if one was, was posted for the station in this history
abbrev pub IsFromPost : Fetched → ℕ → List (ℕ × HubEvent) → Type 0
IsFromPost (fetched.Frame frame) host history = WasPosted frame host history
IsFromPost f host history = Unit {0}
