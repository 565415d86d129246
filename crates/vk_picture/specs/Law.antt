-- Nothing is drawn twice, and nothing is left out.
use Rattle.std.specs.Prelude.{ℕ, ◌≡◌, List, [], ◌∷◌, ◌++◌, flat_map, map, is_some, if◌then◌else◌}
use Rattle.vk_picture.specs.declared.picture.FrameMark.{FrameMark}
use Rattle.vk_picture.specs.declared.picture.Picture.{Picture}
use Rattle.vk_picture.specs.declared.picture.EventRow.{EventRow}
use Rattle.vk_picture.specs.Marks.{Mark, Arrow, Dot, Cross, Hand, Event, arrives, brought, handed, marks_of}
use Rattle.vk_picture.specs.Svg.{arrow_line, marks_text, row_line}

-- the number of the event that a mark is of
abbrev pub event_in : Mark → List ℕ
event_in (Event row at brings) = row.number ∷ []
event_in mark = []

-- the number of the event that an arrow comes to
abbrev pub arrow_in : Mark → List ℕ
arrow_in (Arrow number start end light) = number ∷ []
arrow_in mark = []

-- the frame that a mark is of: the number of the event that emitted it, and which of its outputs it is
abbrev pub dot_in : Mark → List (ℕ × ℕ)
dot_in (Dot number output at kind) = (number, output) ∷ []
dot_in mark = []

-- that of a cross
abbrev pub cross_in : Mark → List (ℕ × ℕ)
cross_in (Cross number output at kind) = (number, output) ∷ []
cross_in mark = []

-- the number of the event that a hand begins at
abbrev pub hand_in : Mark → List ℕ
hand_in (Hand number start holder) = number ∷ []
hand_in mark = []

-- the number of an event, where a frame comes at it
abbrev pub arrival : Picture → EventRow → List ℕ
arrival p r = if is_some (brought p r) then r.number ∷ [] else []

-- the number of an event, where it hands a message on
abbrev pub handing : EventRow → List ℕ
handing r = if is_some (handed r) then r.number ∷ [] else []

abbrev pub frame_name : EventRow → FrameMark → ℕ × ℕ
frame_name r f = (r.number, f.output)

-- a frame that comes nowhere
abbrev pub stray : Picture → EventRow → FrameMark → List (ℕ × ℕ)
stray p r f = if arrives p r f.output then [] else frame_name r f ∷ []

-- of each event, each frame, each frame that comes at an event, each that comes nowhere, and each message that is handed on there is one
-- mark, in their order; and what is written behind the lines of events and of columns is the text of all marks
pub record HasOneMarkEach (p : Picture) : Type 0 where
  pub events : flat_map event_in (marks_of p) ≡ map (λ (r : EventRow). r.number) p.rows
  pub frames : flat_map dot_in (marks_of p) ≡ flat_map (λ (r : EventRow). map (frame_name r) r.frames) p.rows
  pub arrows : flat_map arrow_in (marks_of p) ≡ flat_map (arrival p) p.rows
  pub crosses : flat_map cross_in (marks_of p) ≡ flat_map (λ (r : EventRow). flat_map (stray p r) r.frames) p.rows
  pub hands : flat_map hand_in (marks_of p) ≡ flat_map handing p.rows
  pub drawn : flat_map (arrow_line p) p.rows ++ flat_map (row_line p) p.rows ≡ marks_text (marks_of p)

abbrev pub EachHasOneMark : Type 0
EachHasOneMark = (p : Picture) → HasOneMarkEach p
