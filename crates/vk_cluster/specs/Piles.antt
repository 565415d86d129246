-- What is kept of the frames that were emitted: all of them, and spans of the list of these.
use Rattle.std.specs.Prelude.{ℕ, zero, suc, ◌≡◌, ◌+◌, ◌-◌, ◌<◌, ◌≤◌, List, [], ◌∷◌, ◌++◌, length, map, take, drop, sum_by, slice_get, slice_set, slice_index_or, vec_len, vec_capacity, Option, Some, None}
use Rattle.vk_base.specs.declared.limits.TheConstants.{TICK_PACKETS}
use Rattle.std.specs.Global.{Vec}
use Rattle.std.specs.List.{concat}
use Rattle.vk_base.specs.Options.{◌>>=◌}
use Rattle.vk_rules.specs.Each.{Each}
use Rattle.vk_cluster.specs.declared.emitted.EmittedFrames.{EmittedFrames}
use Rattle.vk_cluster.specs.declared.emitted.Span.{Span}
use Rattle.vk_cluster.specs.declared.frames.TheConstants.{MOST_BYTES}
use Rattle.vk_cluster.specs.Blocks.{IsFrameSized}

-- a part of a list, and that it lies within a list of this length
abbrev pub spanned : {A : Type 0} → List A → Span → List A
spanned xs p = take p.count (drop p.from xs)

abbrev pub IsSpanWithin : ℕ → Span → Type 0
IsSpanWithin n p = p.from + p.count ≤ n

-- the element of this number, counted from 1
abbrev pub from_one : {A : Type 0} → List A → ℕ → Option A
from_one xs zero = None
from_one xs (suc n) = slice_get xs n

-- what is kept, without the room that there is for more: the bytes are those of the frames
pub record Pile : Type 0 where
  pub bytes : List ℕ
  pub frames : List (List ℕ)
  pub events : List (List Span)

abbrev pub items_of : Vec Span → List Span
items_of v = v.items

abbrev pub pile_of : EmittedFrames → Pile
pile_of e = record { bytes = concat e.frames.items; frames = e.frames.items; events = map items_of e.events.items }

-- each span lies within the list that it is of
abbrev pub IsPileKept : Pile → Type 0
IsPileKept p = Each (Each (IsSpanWithin (length p.frames))) p.events

-- What it stands for: for each station its events, in order, of each of which its frames.
abbrev pub frames_by_event : Pile → List (List (List (List ℕ)))
frames_by_event p = map (map (spanned p.frames)) p.events

-- the frame with this output number of the event with this number of the station at this place
abbrev pub frame_at : {A : Type 0} → List (List (List A)) → ℕ → ℕ → ℕ → Option A
frame_at logs place event output = slice_get logs place >>= λ s. from_one s event >>= λ fs. from_one fs output

-- the frames of the event, as a span of all
abbrev pub event_span : Pile → ℕ → ℕ → Option Span
event_span p place event = slice_get p.events place >>= λ s. from_one s event

-- one event more of the station at this place
abbrev pub event_added : {A : Type 0} → List (List A) → ℕ → A → List (List A)
event_added logs place e = slice_set logs place (slice_index_or logs place [] ++ e ∷ [])

-- A frame more; and the frames from this one on are those of one event of the station at this place.
abbrev pub put_frame : Pile → List ℕ → Pile
put_frame p frame = record {
  bytes = p.bytes ++ frame;
  frames = p.frames ++ frame ∷ [];
  events = p.events;
}

abbrev pub end_event : Pile → ℕ → ℕ → Pile
end_event p place first = record {
  bytes = p.bytes;
  frames = p.frames;
  events = event_added p.events place (record { from = first; count = length p.frames - first });
}

-- the frames of an event: not too many
pub record AreFrames (fs : List (List ℕ)) : Type 0 where
  pub few : length fs ≤ TICK_PACKETS
  pub each : Each IsFrameSized fs

-- these frames were put behind all that were before, and are of no event yet
pub record IsAdding (before now : Pile) (fs : List (List ℕ)) : Type 0 where
  pub kept : IsPileKept now
  pub frames : now.frames ≡ before.frames ++ fs
  pub shown : frames_by_event now ≡ frames_by_event before
  pub events : now.events ≡ before.events
  pub bytes : length now.bytes ≡ length before.bytes + sum_by length fs

-- what is kept after an event of these frames
pub record IsAdded (before now : Pile) (place : ℕ) (fs : List (List ℕ)) : Type 0 where
  pub kept : IsPileKept now
  pub shown : frames_by_event now ≡ event_added (frames_by_event before) place fs
  pub bytes : length now.bytes ≡ length before.bytes + sum_by length fs

-- there is room for so many bytes and frames, and for an event of the station at this place
pub record HasFrameRoom (e : EmittedFrames) (place bytes frames : ℕ) : Type 0 where
  pub for_bytes : bytes ≤ e.frames.bytes
  pub for_frames : frames ≤ e.frames.places
  pub for_all : length (concat e.frames.items) + bytes ≤ MOST_BYTES
  pub for_event : (s : Vec Span) → slice_get e.events.items place ≡ Some s → vec_len s < vec_capacity s
