-- What two stations do that hand each other their frames.
use Rattle.std.specs.Prelude.{◌≡◌, ℕ, Bool, true, false, List, [], ◌∷◌, ◌++◌}
use Rattle.vk_types.specs.Types.{Call, EventAnswer, Pid}
use Rattle.vk_rules.specs.Entries.{Called, Collected, Delivered}
use Rattle.vk_rules.specs.Frames.{unsealed_of}
use Rattle.vk_host.specs.declared.response.Response.{Response}
use Rattle.vk_host.specs.Responses.{answer_of}
use Rattle.vk_host.specs.Standing.{IsEvent}
use Rattle.vk_host.specs.Values.{StationValue}

-- the process made the call at this station, which was answered so; its frames went onto this wire
pub record HasMade (pid : Pid) (call : Call) (old new : StationValue) (wire wire-new : List (List ℕ)) (given : Response) : Type 0 where
  pub event : IsEvent old new (Called pid call) (answer_of new given)
  pub sent : wire-new ≡ wire ++ new.frames

-- the process collected its answer at this station
abbrev pub HasCollected : Pid → StationValue → StationValue → Response → Type 0
HasCollected pid old new given = IsEvent old new (Collected pid) (answer_of new given)

-- the first frame of the wire came to the station, and its frames went onto the other wire
pub record HasDelivered (wire wire-new : List (List ℕ)) (old new : StationValue) (back back-new : List (List ℕ)) : Type 0 where
  pub frame : List ℕ
  pub given : EventAnswer
  pub first : wire ≡ frame ∷ wire-new
  pub event : IsEvent old new (Delivered (unsealed_of frame)) given
  pub sent : back-new ≡ back ++ new.frames

-- there was no frame on the wire, and nothing changed
pub record HasRested (wire wire-new : List (List ℕ)) (old new : StationValue) (back back-new : List (List ℕ)) : Type 0 where
  pub none : wire ≡ []
  pub none_yet : wire-new ≡ []
  pub same : new ≡ old
  pub unsent : back-new ≡ back

-- the first frame of the wire was handed over to the station, where there was one
abbrev pub HasHandedOver : List (List ℕ) → List (List ℕ) → StationValue → StationValue → List (List ℕ) → List (List ℕ) → Bool → Type 0
HasHandedOver wire wire-new old new back back-new false = HasRested wire wire-new old new back back-new
HasHandedOver wire wire-new old new back back-new true = HasDelivered wire wire-new old new back back-new
