-- The picture of a history as a text of SVG.
use Rattle.std.specs.Prelude.{ℕ, ◌+◌, Bool, List, [], ◌∷◌, ◌++◌, flat_map, codes, decimal, Option, Some, None, if◌then◌else◌}
use Rattle.vk_types.specs.Types.{Pid}
use Rattle.vk_text.specs.Spelling.{pid_text}
use Rattle.vk_report.specs.declared.frame.PacketKind.{PacketKind}
use Rattle.vk_report.specs.Report.{kind_text}
use Rattle.vk_picture.specs.declared.elements.TheConstants.{START}
use Rattle.vk_picture.specs.declared.lanes.Activity.{Activity}
use Rattle.vk_picture.specs.declared.lanes.Activity.TheVariants as activities
use Rattle.vk_picture.specs.declared.marks.Start.{Start}
use Rattle.vk_picture.specs.declared.picture.Act.{Act}
use Rattle.vk_picture.specs.declared.picture.Act.TheVariants as acts
use Rattle.vk_picture.specs.declared.picture.Column.{Column}
use Rattle.vk_picture.specs.declared.picture.FrameMark.{FrameMark}
use Rattle.vk_picture.specs.declared.picture.Picture.{Picture}
use Rattle.vk_picture.specs.declared.picture.EventRow.{EventRow}
use Rattle.vk_picture.specs.declared.picture.StepMark.{StepMark}
use Rattle.vk_picture.specs.declared.places.Point.{Point}
use Rattle.vk_picture.specs.declared.style.TheConstants.{STYLE}
use Rattle.vk_picture.specs.Lanes.{activity_word, turn_of}
use Rattle.vk_picture.specs.Marks.{Mark, Arrow, Dot, Cross, Hand, Event, arrow_marks, frame_marks, hand_marks, event_mark}
use Rattle.vk_picture.specs.Places.{bottom_y, column_x, row_y, steps_x, width_of}
use Rattle.vk_picture.specs.Words.{label_text, step_text}

-- Elements.

abbrev pub point_text : Point → List ℕ
point_text at = decimal at.x ++ 32 ∷ decimal at.y

-- the beginning of a line or of a sign: its class, and its first point
abbrev pub shape_start : List ℕ → List ℕ → Point → List ℕ
shape_start class kind at = codes "<path class=\"" ++ class ++ 32 ∷ kind ++ codes "\" d=\"M" ++ point_text at

-- which goes on so
unfoldable pub shape_text : List ℕ → List ℕ → Point → List ℕ → List ℕ
shape_text class kind at rest = shape_start class kind at ++ rest ++ codes "\"/>\n"

-- a line straight down to this place
abbrev pub down_text : List ℕ → Point → List ℕ → ℕ → List ℕ
down_text class at start bottom = shape_start class (codes "line") at ++ start ++ decimal bottom ++ codes "\"/>\n"

abbrev pub place_text : Point → List ℕ
place_text at = codes " x=\"" ++ decimal at.x ++ codes "\" y=\"" ++ decimal at.y ++ codes "\""

-- the beginning of words of this class
abbrev pub open_text : List ℕ → Point → List ℕ
open_text class at = codes "<text class=\"" ++ class ++ codes "\"" ++ place_text at

abbrev pub light_text : Bool → List ℕ
light_text light = if light then codes " opacity=\".4\"" else []

-- Marks.

-- from the event that emitted the frame to the one that it came to
abbrev pub arrow_start : PacketKind → Bool → List ℕ
arrow_start kind light = codes "<path class=\"frame " ++ kind_text kind ++ codes "\"" ++ light_text light

abbrev pub way_text : Point → Point → List ℕ
way_text start end = point_text start ++ codes "L" ++ point_text end ++ codes "\"/>\n"

abbrev pub arrow_text : Start → Point → Bool → List ℕ
arrow_text start end light =
    arrow_start start.kind light ++ codes " marker-end=\"url(#head)\" d=\"M" ++ way_text start.point end

abbrev pub dot_text : Point → PacketKind → List ℕ
dot_text at kind = shape_text (codes "dot") (kind_text kind) at (codes "m-2 0a2 2 0 1 0 4 0a2 2 0 1 0-4 0")

-- words behind a point, at some distance
unfoldable pub words_text : List ℕ → Point → List ℕ → List ℕ → List ℕ
words_text class at distance words = open_text class at ++ distance ++ words ++ codes "</text>\n"

-- a short way down, a cross, and the kind
abbrev pub cross_text : Point → PacketKind → List ℕ
cross_text at kind =
    shape_text (codes "frame") (kind_text kind) at (codes "l8 16m-5-5l10 10m0-10l-10 10")
    ++ words_text (codes "lost") at (codes " dx=\"16\" dy=\"20\">") (kind_text kind)

-- a line to that of the process that has the message now, and a diamond there
abbrev pub hand_text : Point → ℕ → List ℕ
hand_text start holder = shape_start (codes "hand") (codes "send") start ++ codes "H" ++ decimal holder ++ codes "m-5 0l5-5 5 5-5 5z\"/>\n"

abbrev pub sign_word : Act → List ℕ
sign_word (acts.Call pid kind partner) = codes "call"
sign_word (acts.Collect pid) = codes "answer"
sign_word (acts.Tick host) = codes "tick"
sign_word (acts.Deliver to from event output) = codes "come"

-- a disc, a ring, a small mark, a square
abbrev pub sign_shape : Act → List ℕ
sign_shape (acts.Call pid kind partner) = codes "m-4 0a4 4 0 1 0 8 0a4 4 0 1 0-8 0"
sign_shape (acts.Collect pid) = codes "m-4 0a4 4 0 1 0 8 0a4 4 0 1 0-8 0"
sign_shape (acts.Tick host) = codes "m-8 0h16"
sign_shape (acts.Deliver to from event output) = codes "m-3-3h6v6h-6z"

abbrev pub sign_text : Point → Act → List ℕ
sign_text at act = shape_text (codes "event") (sign_word act) at (sign_shape act)

abbrev pub label_at_text : Point → Option PacketKind → EventRow → List ℕ
label_at_text at brings r = words_text (codes "label") at (codes " dx=\"8\" dy=\"-5\">") (label_text brings r.act r.said)

abbrev pub event_text : EventRow → Point → Option PacketKind → List ℕ
event_text r at brings = sign_text at r.act ++ label_at_text at brings r

abbrev pub mark_text : Mark → List ℕ
mark_text (Arrow number start end light) = arrow_text start end light
mark_text (Dot number output at kind) = dot_text at kind
mark_text (Cross number output at kind) = cross_text at kind
mark_text (Hand number start holder) = hand_text start holder
mark_text (Event row at brings) = event_text row at brings

abbrev pub marks_text : List Mark → List ℕ
marks_text marks = flat_map mark_text marks

-- the arrow to an event
unfoldable pub arrow_line : Picture → EventRow → List ℕ
arrow_line p r = marks_text (arrow_marks p r)

-- a frame, and its cross
unfoldable pub frame_line : Picture → EventRow → FrameMark → List ℕ
frame_line p r f = marks_text (frame_marks p r f)

-- a message that an event hands on
unfoldable pub hand_line : Picture → EventRow → List ℕ
hand_line p r = marks_text (hand_marks p r)

-- the frames of an event, what it hands on, and the event
unfoldable pub row_line : Picture → EventRow → List ℕ
row_line p r = flat_map (frame_line p r) r.frames ++ hand_line p r ++ mark_text (event_mark p r)

-- Rows and columns.

-- a thin line across the page
abbrev pub across_text : ℕ → ℕ → List ℕ
across_text y width = codes "<path class=\"row\" d=\"M50 " ++ decimal y ++ codes "H" ++ decimal width ++ codes "\"/>\n"

abbrev pub number_text : ℕ → ℕ → List ℕ
number_text y number =
    words_text (codes "number") (record { x = 40; y = y }) (codes " dy=\"4\">") (decimal number)

abbrev pub steps_text : ℕ → ℕ → List StepMark → List ℕ
steps_text x y steps =
    words_text (codes "step") (record { x = x; y = y }) (codes " dy=\"4\">") (flat_map step_text steps)

-- the line of an event, its number, and its steps in the margin
unfoldable pub ruler_text : ℕ → ℕ → EventRow → List ℕ
ruler_text steps width r =
    across_text (row_y r.number) width ++ number_text (row_y r.number) r.number ++ steps_text steps (row_y r.number) r.steps

-- what a process does from a line on
abbrev pub next_text : ℕ → ℕ → Activity → List ℕ
next_text x y a = decimal y ++ codes "\"/>\n" ++ shape_start (activity_word a) (codes "line") (record { x = x; y = y }) ++ codes "V"

abbrev pub turn_text : ℕ → ℕ → Option Activity → List ℕ
turn_text x y None = []
turn_text x y (Some a) = next_text x y a

abbrev pub turned : Activity → Option Activity → Activity
turned a None = a
turned a (Some b) = b

abbrev pub turns_text : Pid → ℕ → Activity → List EventRow → List ℕ
turns_text pid x a [] = []
turns_text pid x a (r ∷ rs) = turn_text x (row_y r.number) (turn_of pid a r) ++ turns_text pid x (turned a (turn_of pid a r)) rs

-- the line of a process, which is ready at first
abbrev pub lane_text : Pid → ℕ → ℕ → List EventRow → List ℕ
lane_text pid x bottom rows =
    shape_start (codes "ready") (codes "line") (record { x = x; y = 50 }) ++ codes "V" ++ turns_text pid x activities.Ready rows
    ++ decimal bottom ++ codes "\"/>\n"

-- the wall before a station, and the line of its kernel
abbrev pub station_text : ℕ → ℕ → List ℕ
station_text x bottom =
    down_text (codes "wall") (record { x = x; y = 20 }) (codes "m-50 0V") bottom
    ++ down_text (codes "kernel") (record { x = x; y = 50 }) (codes "V") bottom

abbrev pub name_words : ℕ → Option Pid → List ℕ
name_words host None = codes "station " ++ decimal host
name_words host (Some pid) = pid_text pid

abbrev pub name_text : Column → ℕ → List ℕ
name_text c y =
    words_text (codes "name") (record { x = column_x c; y = y }) (codes ">") (name_words c.host c.process)

abbrev pub column_line : ℕ → ℕ → List EventRow → Option Pid → List ℕ
column_line x bottom rows None = station_text x bottom
column_line x bottom rows (Some pid) = lane_text pid x bottom rows

-- a column with its name above and below
unfoldable pub column_text : ℕ → List EventRow → Column → List ℕ
column_text bottom rows c = column_line (column_x c) bottom rows c.process ++ name_text c 40 ++ name_text c (bottom + 20)

-- The whole.

abbrev pub size_text : ℕ → ℕ → List ℕ
size_text width height = decimal width ++ codes "\" height=\"" ++ decimal height

-- all of it is seen
abbrev pub view_text : ℕ → ℕ → List ℕ
view_text width height = codes "\" viewBox=\"0 0 " ++ decimal width ++ 32 ∷ decimal height ++ codes "\">\n"

abbrev pub opening_text : ℕ → ℕ → List ℕ
opening_text width height =
    START.now ++ size_text width height ++ view_text width height

abbrev pub page_text : ℕ → ℕ → List ℕ
page_text width height =
    codes "<rect class=\"page\" width=\"" ++ size_text width height ++ codes "\"/>\n"

-- how large the page is, how its shapes look, and the page
unfoldable pub head_text : ℕ → ℕ → List ℕ
head_text width height = opening_text width height ++ STYLE.now ++ page_text width height

-- the lines of events and of columns, then the marks
abbrev pub picture_text : Picture → List ℕ
picture_text p =
    head_text (width_of p.columns p.rows) (bottom_y p.rows + 40)
    ++ flat_map (ruler_text (steps_x p.columns) (width_of p.columns p.rows)) p.rows
    ++ flat_map (column_text (bottom_y p.rows) p.rows) p.columns
    ++ flat_map (arrow_line p) p.rows
    ++ flat_map (row_line p) p.rows
    ++ codes "</svg>\n"
