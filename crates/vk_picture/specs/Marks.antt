-- The marks of a history: an event, a frame at the event that emitted it, an arrow to an event that it came to, a cross, and a hand, which
-- is a message that a Forward brings to another process.
use Rattle.std.specs.Prelude.{ℕ, ◌+◌, ◌*◌, Bool, true, false, ◌==◌, ◌&&◌, ◌||◌, not, List, [], ◌∷◌, ◌++◌, find, flat_map, length, Option, None, option_map, if◌then◌else◌}
use Rattle.std.specs.List.{list_any}
use Rattle.std.specs.Option.{option_map_or}
use Rattle.vk_types.specs.Types.{Pid}
use Rattle.vk_base.specs.Options.{◌>>=◌}
use Rattle.vk_report.specs.declared.frame.PacketKind.{PacketKind}
use Rattle.vk_picture.specs.declared.marks.Start.{Start}
use Rattle.vk_picture.specs.declared.picture.Act.{Act}
use Rattle.vk_picture.specs.declared.picture.Act.TheVariants as acts
use Rattle.vk_picture.specs.declared.picture.CallKind.{CallKind}
use Rattle.vk_picture.specs.declared.picture.CallKind.TheVariants as calls
use Rattle.vk_picture.specs.declared.picture.Column.{Column}
use Rattle.vk_picture.specs.declared.picture.FrameMark.{FrameMark}
use Rattle.vk_picture.specs.declared.picture.Picture.{Picture}
use Rattle.vk_picture.specs.declared.picture.EventRow.{EventRow}
use Rattle.vk_picture.specs.declared.picture.Said.{Said}
use Rattle.vk_picture.specs.declared.picture.Said.TheVariants as said
use Rattle.vk_picture.specs.declared.places.Point.{Point}
use Rattle.vk_picture.specs.Places.{act_x, process_x, row_y}

-- where an event stands
abbrev pub event_point : List Column → EventRow → Point
event_point columns r = record { x = act_x columns r.act; y = row_y r.number }

-- the frames of an event stand behind it, in order of their outputs
abbrev pub frame_point : List Column → EventRow → ℕ → Point
frame_point columns r output = record { x = act_x columns r.act + 6 + 6 * output; y = row_y r.number }

abbrev pub is_missing : Said → Bool
is_missing said.Missing = true
is_missing answer = false

abbrev pub is_taken : Said → Bool
is_taken said.Taken = true
is_taken answer = false

-- the event with this number of a station
abbrev pub is_event : ℕ → ℕ → EventRow → Bool
is_event host own r = r.host == host && r.own == own

abbrev pub is_output : ℕ → FrameMark → Bool
is_output output f = f.output == output

-- the frame that is this output of this event of a station, and where it begins
abbrev pub start_in : List Column → EventRow → ℕ → Option Start
start_in columns r output =
    option_map (λ (f : FrameMark). record { point = frame_point columns r output; kind = f.kind }) (find (is_output output) r.frames)

abbrev pub start_of : Picture → ℕ → ℕ → ℕ → Option Start
start_of p host own output = find (is_event host own) p.rows >>= λ r. start_in p.columns r output

abbrev pub brought_by : Picture → Said → Act → Option Start
brought_by p answer (acts.Deliver to from event output) = if is_missing answer then None else start_of p from event output
brought_by p answer act = None

-- the frame that comes at an event
abbrev pub brought : Picture → EventRow → Option Start
brought p r = brought_by p r.said r.act

abbrev pub kind_brought : Picture → EventRow → Option PacketKind
kind_brought p r = option_map (λ (s : Start). s.kind) (brought p r)

-- a frame that is not taken is drawn lightly, and one that brings neither a step nor a frame
abbrev pub is_light : EventRow → Bool
is_light r = not (is_taken r.said) || (length r.steps == 0 && length r.frames == 0)

-- this output of this event of a station comes to it
abbrev pub is_delivery : ℕ → ℕ → ℕ → Said → Act → Bool
is_delivery host own number answer (acts.Deliver to from event output) =
    not (is_missing answer) && from == host && event == own && output == number
is_delivery host own number answer act = false

abbrev pub is_arrival : ℕ → ℕ → ℕ → EventRow → Bool
is_arrival host own output r = is_delivery host own output r.said r.act

-- this output of an event comes somewhere
abbrev pub arrives : Picture → EventRow → ℕ → Bool
arrives p r output = list_any (is_arrival r.host r.own output) p.rows

abbrev pub handed_to : CallKind → Option Pid → Said → Option Pid
handed_to (calls.Forward from) partner said.Ok = partner
handed_to kind partner answer = None

abbrev pub handed_by : Said → Act → Option Pid
handed_by answer (acts.Call pid kind partner) = handed_to kind partner answer
handed_by answer act = None

-- the process to which an event, which is a Forward, brings a message
abbrev pub handed : EventRow → Option Pid
handed r = handed_by r.said r.act

pub data Mark : Type 0 where
  -- a frame comes at the event of this number: from where, to where, its kind, and whether it is drawn lightly
  Arrow : (number : ℕ) (start : Start) (end : Point) (light : Bool) → Mark
  -- a frame that an event emitted
  Dot : (number output : ℕ) (at : Point) (kind : PacketKind) → Mark
  -- it came nowhere
  Cross : (number output : ℕ) (at : Point) (kind : PacketKind) → Mark
  -- the event of this number hands a message on: from where, and the line of the process that has it now
  Hand : (number : ℕ) (start : Point) (holder : ℕ) → Mark
  -- an event, and what is brought to it
  Event : (row : EventRow) (at : Point) (brings : Option PacketKind) → Mark

abbrev pub arrow_marks : Picture → EventRow → List Mark
arrow_marks p r = option_map_or (λ s. Arrow r.number s (event_point p.columns r) (is_light r) ∷ []) (brought p r) []

abbrev pub cross_marks : Picture → EventRow → FrameMark → List Mark
cross_marks p r f = if arrives p r f.output then [] else Cross r.number f.output (frame_point p.columns r f.output) f.kind ∷ []

abbrev pub frame_marks : Picture → EventRow → FrameMark → List Mark
frame_marks p r f = Dot r.number f.output (frame_point p.columns r f.output) f.kind ∷ cross_marks p r f

abbrev pub event_mark : Picture → EventRow → Mark
event_mark p r = Event r (event_point p.columns r) (kind_brought p r)

abbrev pub hand_mark : Picture → EventRow → Pid → Mark
hand_mark p r to = Hand r.number (event_point p.columns r) (process_x p.columns to)

abbrev pub hand_marks : Picture → EventRow → List Mark
hand_marks p r = option_map_or (λ to. hand_mark p r to ∷ []) (handed r) []

-- an event lies on the hand that begins there
abbrev pub act_marks : Picture → EventRow → List Mark
act_marks p r = hand_marks p r ++ event_mark p r ∷ []

abbrev pub row_marks : Picture → EventRow → List Mark
row_marks p r = flat_map (frame_marks p r) r.frames ++ act_marks p r

-- all marks, in the order in which they are drawn
abbrev pub marks_of : Picture → List Mark
marks_of p = flat_map (arrow_marks p) p.rows ++ flat_map (row_marks p) p.rows
