-- What an event of a cluster is at its station.
use Rattle.std.specs.Prelude.{ℕ, ◌≡◌, Bool, true, List, slice_get, Some, None}
use Rattle.vk_types.specs.Types.{ProcessSpec}
use Rattle.vk_base.specs.Pids.{IsPid}
use Rattle.vk_base.specs.Settings.{stations_of}
use Rattle.vk_schedule.specs.declared.event.Event.{Event}
use Rattle.vk_schedule.specs.declared.event.Event.TheVariants as events
use Rattle.vk_text.specs.Laws.{IsReadable}
use Rattle.vk_rules.specs.Entries.{Called, Collected, Delivered, Input, Ticked}
use Rattle.vk_rules.specs.Frames.{unsealed_of}
use Rattle.vk_host.specs.Values.{StationValue, has}
use Rattle.vk_cluster.specs.Found.{bytes_for}

-- A delivery comes with the bytes of the frame that it finds among all, any other event with none; the fields of a call are in their
-- ranges.
abbrev pub ComesWith : List ProcessSpec → List (List (List (List ℕ))) → Event → List ℕ → Type 0
ComesWith specs logs (events.Call pid call) frame = IsPid pid × IsReadable call
ComesWith specs logs (events.Collect pid) frame = Unit {0}
ComesWith specs logs (events.Tick host) frame = Unit {0}
ComesWith specs logs (events.Deliver to from event output) frame =
    (place : ℕ) × (slice_get (stations_of specs) place ≡ Some from) × (bytes_for to logs place event output ≡ Some frame)

-- it is a delivery that finds none
abbrev pub FindsNone : List ProcessSpec → List (List (List (List ℕ))) → Event → Type 0
FindsNone specs logs (events.Deliver to from event output) =
    (place : ℕ) × (slice_get (stations_of specs) place ≡ Some from) × (bytes_for to logs place event output ≡ None)
FindsNone specs logs e = ⊥

-- what the event is for the rules of stations, where this frame comes with it
abbrev pub input_with : List ℕ → Event → Input
input_with frame (events.Call pid call) = Called pid call
input_with frame (events.Collect pid) = Collected pid
input_with frame (events.Tick host) = Ticked
input_with frame (events.Deliver to from event output) = Delivered (unsealed_of frame)

-- the process whose event it is is one of the station
abbrev pub is_own : StationValue → Event → Bool
is_own s (events.Call pid call) = has s pid
is_own s (events.Collect pid) = has s pid
is_own s e = true
