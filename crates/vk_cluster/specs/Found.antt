-- The frame that a delivery finds, by its position.
use Rattle.std.specs.Prelude.{ℕ, Bool, false, ◌==◌, ◌&&◌, ◌||◌, not, List, [], ◌∷◌, ◌++◌, map, Option, Some, None, if◌then◌else◌}
use Rattle.vk_base.specs.Options.{◌>>=◌}
use Rattle.vk_frame.specs.declared.header.Header.{Header}
use Rattle.vk_frame.specs.Reading.{frame_of}
use Rattle.vk_rules.specs.Entries.{Entry}
use Rattle.vk_rules.specs.Frames.{Frame, every_station}
use Rattle.vk_host.specs.Sealed.{sealed}
use Rattle.vk_cluster.specs.Piles.{frame_at, from_one}

-- the frames of a station's events, the oldest first, as frames and as their bytes
abbrev pub events_in : List Entry → List (List Frame)
events_in [] = []
events_in (e ∷ es) = events_in es ++ e.frames ∷ []

abbrev pub sealed_events : List Entry → List (List (List ℕ))
sealed_events es = map (map sealed) (events_in es)

-- a header is for a station where it names it, or names every station and comes from another
abbrev pub is_addressed : ℕ → Header → Bool
is_addressed to h = h.destination == to || (h.destination == every_station && not (h.source == to))

abbrev pub if_addressed : ℕ → Frame → Option Frame
if_addressed to f = if is_addressed to f.header then Some f else None

-- the frame with this output number of the event with this number, where it is for this station
abbrev pub frame_for : ℕ → ℕ → ℕ → List (List Frame) → Option Frame
frame_for to event output events = from_one events event >>= λ fs. from_one fs output >>= if_addressed to

-- The same of bytes, of which the header is read.
abbrev pub opens_for : ℕ → Option (Header × List ℕ) → Bool
opens_for to None = false
opens_for to (Some f) = is_addressed to f.0

abbrev pub if_for : ℕ → List ℕ → Option (List ℕ)
if_for to bytes = if opens_for to (frame_of bytes) then Some bytes else None

abbrev pub bytes_for : ℕ → List (List (List (List ℕ))) → ℕ → ℕ → ℕ → Option (List ℕ)
bytes_for to logs place event output = frame_at logs place event output >>= if_for to
