-- The link plan: what waits for each station, and what a post and a fetch make of it.
use Rattle.std.specs.Prelude.{ℕ, ◌%◌, ◌==◌, ◌&&◌, ◌||◌, not, Bool, false, Option, Some, None, List, [], ◌∷◌, ◌++◌, nat_lt, if◌then◌else◌}
use Rattle.vk_base.specs.declared.limits.TheConstants.{EVERY_STATION}
use Rattle.std.specs.Option.{option_map}
use Rattle.circular_buffer.specs.Buffer.{keep_last}
use Rattle.vk_frame.specs.Reading.{frame_of}
use Rattle.vk_frame.specs.declared.header.Header.{Header}
use Rattle.vk_schedule.specs.declared.plan.LinkPlan.{LinkPlan}
use Rattle.vk_generator.specs.Numbers.{drawn, next}

abbrev pub Frame : Type 0
Frame = List ℕ

-- the frames that wait for one station: those in its ring, the oldest first, and the one that is held back
pub record Waiting : Type 0 where
  pub station : ℕ
  pub ring : List Frame
  pub held : Option Frame

-- the generator's state after three draws
abbrev pub third_next : ℕ → ℕ
third_next x = next (next (next x))

-- what a draw gives that comes to this state, of 256
abbrev pub drawn_byte : ℕ → ℕ
drawn_byte x = drawn x % 256

-- a ring of 128 frames; a full one loses its oldest
abbrev pub into_ring : List Frame → Frame → List Frame
into_ring ring frame = keep_last 128 (ring ++ frame ∷ [])

-- a frame that was held back goes to the ring
abbrev pub with_held : List Frame → Option Frame → List Frame
with_held ring (Some frame) = into_ring ring frame
with_held ring None = ring

abbrev pub once : Waiting → Frame → Waiting
once w frame = record w { ring = into_ring w.ring frame }

abbrev pub twice : Waiting → Frame → Waiting
twice w frame = record w { ring = into_ring (into_ring w.ring frame) frame }

abbrev pub holding : Waiting → Frame → Waiting
holding w frame = record w { ring = with_held w.ring w.held; held = Some frame }

-- A post to one station. Three draws decide: by the first the frame is lost, else by the third it is held back, else by the second
-- it comes twice
abbrev pub posted : LinkPlan → ℕ → Waiting → Frame → Waiting
posted plan x w frame =
    if nat_lt (drawn_byte (next x)) plan.lose then w
    else if nat_lt (drawn_byte (third_next x)) plan.hold then holding w frame
    else if nat_lt (drawn_byte (next (next x))) plan.double then twice w frame
    else once w frame

-- what a fetch gives: the oldest of the ring, else the held one
abbrev pub first_of : List Frame → Option Frame → Option Frame
first_of (frame ∷ ring) held = Some frame
first_of [] held = held

-- what it leaves
abbrev pub rest_of : ℕ → List Frame → Option Frame → Waiting
rest_of station (frame ∷ ring) held = record { station = station; ring = ring; held = held }
rest_of station [] held = record { station = station; ring = []; held = None }

-- the header that opens a frame, if one does
abbrev pub header_of : Frame → Option Header
header_of frame = option_map (λ (h : Header × List ℕ). h.0) (frame_of frame)

-- to the station of its destination, or to all but the sender; without a header to none
abbrev pub is_addressed : Option Header → ℕ → Bool
is_addressed None station = false
is_addressed (Some h) station = (h.destination == station) || ((h.destination == EVERY_STATION) && not (h.source == station))

-- a post to each station in turn to which the frame is addressed; each takes three draws
abbrev pub posted_all : LinkPlan → ℕ → List Waiting → Option Header → Frame → ℕ × List Waiting
posted_all plan x [] header frame = (x, [])
posted_all plan x (w ∷ ws) header frame =
    if is_addressed header w.station then (let t = posted_all plan (third_next x) ws header frame in (t.0, posted plan x w frame ∷ t.1))
    else (let t = posted_all plan x ws header frame in (t.0, w ∷ t.1))
