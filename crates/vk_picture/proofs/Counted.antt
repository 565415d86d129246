-- Which marks there are.
use Rattle.std.proofs.Common.{◌≡◌, Bool, true, false, cond, List, [], ◌∷◌, ◌++◌, map, Option, Some, None, refl, ap, sym, ◌∙◌, append-nil, append_assoc}
use Rattle.std.specs.Prelude.{is_some}
use Rattle.std.specs.List.{flat_map}
use Rattle.std.specs.Option.{option_map_or}
use Rattle.std.proofs.lemmas.List.Concat.{flat_map-append, flat_map_single}
use Rattle.vk_types.specs.Types.{Pid}
use Rattle.vk_picture.specs.declared.marks.Start.{Start}
use Rattle.vk_picture.specs.declared.picture.FrameMark.{FrameMark}
use Rattle.vk_picture.specs.declared.picture.Picture.{Picture}
use Rattle.vk_picture.specs.declared.picture.EventRow.{EventRow}
use Rattle.vk_picture.specs.declared.places.Point.{Point}
use Rattle.vk_picture.specs.Law.{event_in, arrow_in, dot_in, cross_in, hand_in, arrival, handing, frame_name, stray, HasOneMarkEach, EachHasOneMark}
use Rattle.vk_picture.specs.Marks.{Mark, Arrow, Cross, act_marks, arrives, arrow_marks, brought, cross_marks, event_mark, event_point, frame_marks, frame_point, hand_mark, hand_marks, handed, is_light, marks_of, row_marks}
use Rattle.vk_picture.specs.Svg.{mark_text}
unfoldable use Rattle.vk_picture.specs.Svg.{arrow_line, frame_line, hand_line, row_line}

-- what is said of each part is said of the whole
each : {A B C : Type 0} (g : B → List C) (f : A → List B) (h : A → List C) → ((x : A) → flat_map g (f x) ≡ h x) → (xs : List A)
    → flat_map g (flat_map f xs) ≡ flat_map h xs
each g f h is [] = refl
each g f h is (x ∷ xs) =
    flat_map-append g (f x) (flat_map f xs) ∙ ap (λ l. l ++ flat_map g (flat_map f xs)) (is x) ∙ ap (λ l. h x ++ l) (each g f h is xs)

none : {A C : Type 0} (xs : List A) → flat_map {X = A} {A = C} (λ x. []) xs ≡ []
none [] = refl
none (x ∷ xs) = none xs

-- both halves of the marks
halves : {C : Type 0} (p : Picture) (g : Mark → List C) (a b : EventRow → List C) → ((r : EventRow) → flat_map g (arrow_marks p r) ≡ a r)
    → ((r : EventRow) → flat_map g (row_marks p r) ≡ b r) → flat_map g (marks_of p) ≡ flat_map a p.rows ++ flat_map b p.rows
halves p g a b first second =
    flat_map-append g (flat_map (arrow_marks p) p.rows) (flat_map (row_marks p) p.rows)
    ∙ ap (λ l. l ++ flat_map g (flat_map (row_marks p) p.rows)) (each g (arrow_marks p) a first p.rows)
    ∙ ap (λ l. flat_map a p.rows ++ l) (each g (row_marks p) b second p.rows)

-- a hand, where there is one, is none of these
no_hand : {C : Type 0} (p : Picture) (g : Mark → List C) (r : EventRow) (o : Option Pid) → ((to : Pid) → g (hand_mark p r to) ≡ [])
    → flat_map g (option_map_or (λ to. hand_mark p r to ∷ []) o [] ++ event_mark p r ∷ []) ≡ g (event_mark p r) ++ []
no_hand p g r None is = refl
no_hand p g r (Some to) is = ap (λ l. l ++ (g (event_mark p r) ++ [])) (is to)

hand_number : (p : Picture) (r : EventRow) (o : Option Pid)
    → flat_map hand_in (option_map_or (λ to. hand_mark p r to ∷ []) o [] ++ event_mark p r ∷ []) ≡ cond (is_some o) (r.number ∷ []) []
hand_number p r None = refl
hand_number p r (Some to) = refl

-- the marks of a row: those of its frames, and of what happens at its event
of_frames : {C : Type 0} (p : Picture) (g : Mark → List C) (h : FrameMark → List C) (r : EventRow)
    → ((f : FrameMark) → flat_map g (frame_marks p r f) ≡ h f)
    → flat_map g (row_marks p r) ≡ flat_map h r.frames ++ flat_map g (act_marks p r)
of_frames p g h r is =
    flat_map-append g (flat_map (frame_marks p r) r.frames) (act_marks p r)
    ∙ ap (λ l. l ++ flat_map g (act_marks p r)) (each g (frame_marks p r) h is r.frames)

-- where a hand is none of these, those of its frames, and its event's
of_row : {C : Type 0} (p : Picture) (g : Mark → List C) (h : FrameMark → List C) (r : EventRow) → ((f : FrameMark) → flat_map g (frame_marks p r f) ≡ h f)
    → ((to : Pid) → g (hand_mark p r to) ≡ []) → flat_map g (row_marks p r) ≡ flat_map h r.frames ++ (g (event_mark p r) ++ [])
of_row p g h r is not = of_frames p g h r is ∙ ap (λ l. flat_map h r.frames ++ l) (no_hand p g r (handed r) not)

-- an arrow, where there is one
arrow_by : {C : Type 0} (p : Picture) (r : EventRow) (g : Mark → List C) (o : Option Start)
    → ((s : Start) → g (Arrow r.number s (event_point p.columns r) (is_light r)) ≡ [])
    → flat_map g (option_map_or (λ s. Arrow r.number s (event_point p.columns r) (is_light r) ∷ []) o []) ≡ []
arrow_by p r g None is = refl
arrow_by p r g (Some s) is = append-nil _ ∙ is s

arrow_number : (p : Picture) (r : EventRow) (o : Option Start)
    → flat_map arrow_in (option_map_or (λ s. Arrow r.number s (event_point p.columns r) (is_light r) ∷ []) o []) ≡ cond (is_some o) (r.number ∷ []) []
arrow_number p r None = refl
arrow_number p r (Some s) = refl

-- a cross, where there is one
cross_by : {C : Type 0} (g : Mark → List C) (mark : Mark) (b : Bool) → g mark ≡ [] → flat_map g (cond b [] (mark ∷ [])) ≡ []
cross_by g mark true is = refl
cross_by g mark false is = append-nil _ ∙ is

cross_name : (r : EventRow) (f : FrameMark) (at : Point) (b : Bool)
    → flat_map cross_in (cond b [] (Cross r.number f.output at f.kind ∷ [])) ≡ cond b [] (frame_name r f ∷ [])
cross_name r f at true = refl
cross_name r f at false = refl

module _ (p : Picture) where
  no_arrow : {C : Type 0} (g : Mark → List C) → ((r : EventRow) (s : Start) → g (Arrow r.number s (event_point p.columns r) (is_light r)) ≡ [])
      → (r : EventRow) → flat_map g (arrow_marks p r) ≡ []
  no_arrow g is r = arrow_by p r g (brought p r) (is r)

  no_cross : {C : Type 0} (g : Mark → List C) (r : EventRow) (f : FrameMark)
      → g (Cross r.number f.output (frame_point p.columns r f.output) f.kind) ≡ [] → flat_map g (cross_marks p r f) ≡ []
  no_cross g r f is =
      cross_by g (Cross r.number f.output (frame_point p.columns r f.output) f.kind) (arrives p r f.output) is

  row_event : (r : EventRow) → flat_map event_in (row_marks p r) ≡ r.number ∷ []
  row_event r =
      of_row p event_in (λ (f : FrameMark). []) r (λ f. no_cross event_in r f refl) (λ to. refl)
      ∙ ap (λ l. l ++ r.number ∷ []) (none r.frames)

  row_frames : (r : EventRow) → flat_map dot_in (row_marks p r) ≡ map (frame_name r) r.frames
  row_frames r =
      of_row p dot_in (λ f. frame_name r f ∷ []) r (λ f. ap (λ l. frame_name r f ∷ l) (no_cross dot_in r f refl)) (λ to. refl)
      ∙ append-nil _ ∙ flat_map_single (frame_name r) r.frames

  row_arrows : (r : EventRow) → flat_map arrow_in (row_marks p r) ≡ []
  row_arrows r = of_row p arrow_in (λ (f : FrameMark). []) r (λ f. no_cross arrow_in r f refl) (λ to. refl) ∙ append-nil _ ∙ none r.frames

  row_crosses : (r : EventRow) → flat_map cross_in (row_marks p r) ≡ flat_map (stray p r) r.frames
  row_crosses r =
      of_row p cross_in (stray p r) r
      (λ f. cross_name r f (frame_point p.columns r f.output) (arrives p r f.output)) (λ to. refl)
      ∙ append-nil _

  row_hands : (r : EventRow) → flat_map hand_in (row_marks p r) ≡ handing r
  row_hands r =
      of_frames p hand_in (λ (f : FrameMark). []) r (λ f. no_cross hand_in r f refl)
      ∙ ap (λ l. l ++ flat_map hand_in (act_marks p r)) (none r.frames) ∙ hand_number p r (handed r)

  row_drawn : (r : EventRow) → flat_map mark_text (row_marks p r) ≡ row_line p r
  unfolding frame_line hand_line row_line
  row_drawn r =
      let frames = flat_map (frame_line p r) r.frames in
      let hand = flat_map mark_text (hand_marks p r) in
      let event = mark_text (event_mark p r) in
      of_frames p mark_text (frame_line p r) r (λ f. refl)
      ∙ ap (λ l. frames ++ l) (flat_map-append mark_text (hand_marks p r) (event_mark p r ∷ []) ∙ ap (λ l. hand ++ l) (append-nil event))
      ∙ sym (append_assoc frames hand event)

  arrow_drawn : (r : EventRow) → flat_map mark_text (arrow_marks p r) ≡ arrow_line p r
  unfolding arrow_line
  arrow_drawn r = refl

  has_one_mark_each : HasOneMarkEach p
  has_one_mark_each = record {
    events =
        halves p event_in (λ (r : EventRow). []) (λ (r : EventRow). r.number ∷ []) (no_arrow event_in (λ r s. refl)) row_event
        ∙ ap (λ l. l ++ flat_map (λ (r : EventRow). r.number ∷ []) p.rows) (none p.rows)
        ∙ flat_map_single (λ (r : EventRow). r.number) p.rows;
    frames =
        halves p dot_in (λ (r : EventRow). []) (λ (r : EventRow). map (frame_name r) r.frames) (no_arrow dot_in (λ r s. refl)) row_frames
        ∙ ap (λ l. l ++ flat_map (λ (r : EventRow). map (frame_name r) r.frames) p.rows) (none p.rows);
    arrows =
        halves p arrow_in (arrival p) (λ (r : EventRow). []) (λ r. arrow_number p r (brought p r)) row_arrows
        ∙ ap (λ l. flat_map (arrival p) p.rows ++ l) (none p.rows) ∙ append-nil _;
    crosses =
        halves p cross_in (λ (r : EventRow). []) (λ (r : EventRow). flat_map (stray p r) r.frames) (no_arrow cross_in (λ r s. refl)) row_crosses
        ∙ ap (λ l. l ++ flat_map (λ (r : EventRow). flat_map (stray p r) r.frames) p.rows) (none p.rows);
    hands =
        halves p hand_in (λ (r : EventRow). []) handing (no_arrow hand_in (λ r s. refl)) row_hands
        ∙ ap (λ l. l ++ flat_map handing p.rows) (none p.rows);
    drawn = sym (halves p mark_text (arrow_line p) (row_line p) arrow_drawn row_drawn);
  }

pub each_has_one_mark : EachHasOneMark
each_has_one_mark p = has_one_mark_each p
