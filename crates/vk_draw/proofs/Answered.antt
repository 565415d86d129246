-- From the picture of a text to the answer to an input.
use Rattle.std.proofs.Common.{◌≡◌, ℕ, ◌+◌, ◌*◌, ◌<◌, ◌≤◌, ◌==◌, ◌&&◌, Bool, true, false, cond, List, [], ◌∷◌, length, take, Option, Some, None, Ok, Err, ◌⊎◌, inl, inr, refl, ap, subst, sym, ◌∙◌, arith, length-append}
use Rattle.std.specs.Prelude.{IfSome}
use Rattle.std.specs.Io.KnownBytes.{Appends}
use Rattle.vk_cluster.specs.declared.report.ClusterRefusal.{ClusterRefusal}
use Rattle.vk_cluster.specs.declared.report.ClusterRefusal.TheVariants as clusters
use Rattle.vk_edge.proofs.Inputs.{is_all, partly, too_many}
use Rattle.vk_edge.specs.Answers.{CountsFaults, IsWritten}
use Rattle.vk_edge.specs.Inputs.{IsReadOver, IsText, IsUnread}
use Rattle.vk_types.specs.Types.{ProcessSpec}
use Rattle.vk_base.specs.declared.limits.TheConstants.{INPUT_BYTES}
use Rattle.vk_schedule.specs.declared.schedule.Schedule.{Schedule}
use Rattle.vk_schedule.specs.declared.schedule.TextRefusal.{TextRefusal}
use Rattle.vk_schedule.specs.declared.schedule.TextRefusal.TheVariants as schedules
use Rattle.vk_schedule.specs.Schedule.{HasProcess, schedule_of}
use Rattle.vk_io.specs.Causes.{TellsFault}
use Rattle.vk_io.specs.declared.whole.ReadRefusal.{ReadRefusal}
use Rattle.vk_io.specs.declared.whole.ReadRefusal.TheVariants as reads
use Rattle.vk_text.specs.Lines.{lines_of}
use Rattle.vk_text.specs.Openings.{opening_of}
use Rattle.vk_picture.specs.declared.picture.Column.{Column}
use Rattle.vk_picture.specs.declared.svg.TheConstants.{ROWS}
use Rattle.vk_picture.specs.Places.{columns_of, place_behind, station_column}
use Rattle.vk_draw.specs.declared.status.Status.{Status}
use Rattle.vk_draw.specs.declared.status.Status.TheVariants as status
use Rattle.vk_draw.specs.declared.page.TheConstants.{PAGE_BYTES}
use Rattle.vk_draw.specs.declared.words.Drawing.{Drawing}
use Rattle.vk_draw.specs.declared.words.Drawing.TheVariants as asked
use Rattle.vk_draw.specs.Frames.{frames_text}
use Rattle.vk_draw.specs.Statuses.{many_for, refused, refused_event, unread}
use Rattle.vk_draw.specs.Top.{FitsPicture, IsMade, IsPage, IsRefusal, IsTooLarge, report_text}
use Rattle.vk_page.specs.Page.{is_plain, page_text}
use Rattle.vk_page.specs.declared.parts.PageParts.{PageParts}
use Rattle.vk_draw.specs.Work.{IsAnswered, IsOutcome}

-- a process brings two columns at the most
station_few : (column : Column) (b : Bool) → length (cond b [] (column ∷ [])) ≤ 1
station_few column true = omega arith
station_few column false = omega arith

pub few_columns : (last place : ℕ) (specs : List ProcessSpec) → length (columns_of last place specs) ≤ 2 * length specs
few_columns last place [] = omega arith
few_columns last place (s ∷ ss) =
    let rest = few_columns s.pid.host (place_behind last place s.pid.host + 1) ss in
    let front = station_few (record { host = s.pid.host; process = None; place = place }) (s.pid.host == last) in
    let all = length-append (station_column last place s.pid.host)
    (record { host = s.pid.host; process = Some s.pid; place = place_behind last place s.pid.host }
    ∷ columns_of s.pid.host (place_behind last place s.pid.host + 1) ss) in
    omega (arith, all, front, rest)

-- the empty text spells no schedule, and has no process

empty_bad : schedule_of [] ≡ Err (schedules.BadInput 1)
unfolding lines_of opening_of
empty_bad = refl

empty_bare : HasProcess [] → ⊥
unfolding lines_of opening_of
empty_bare some = absurd (omega (arith, some))

pub spelled_some : (text : List ℕ) (s : Schedule) → schedule_of text ≡ Ok s → 0 < length text
spelled_some [] s spells = let bad = empty_bad in absurd (cc)
spelled_some (b ∷ bs) s spells = omega arith

-- memory is wanted only of a text that has some bytes
wanted_some : (text : List ℕ) → HasProcess text ⊎ (schedule_of text ≡ Err schedules.NoMemory) → 0 < length text
wanted_some [] (inl some) = absurd (empty_bare some)
wanted_some [] (inr is) = let bad = empty_bad in absurd (cc)
wanted_some (b ∷ bs) why = omega arith

-- too many events
many_refused : (a : Drawing) (text : List ℕ) → schedule_of text ≡ Err schedules.Limit → IsRefusal a text (many_for a)
many_refused asked.Picture text is = (refl, inl is)
many_refused asked.Page text is = inl is

-- why a text is not read
pub refused_text : (a : Drawing) (text : List ℕ) (e : TextRefusal) → ((e ≡ schedules.NoMemory) × HasProcess text) ⊎ (schedule_of text ≡ Err e)
    → IsRefusal a text (refused a e)
refused_text a text (schedules.BadInput line) (inl wanted) = absurd (grind (arith, wanted))
refused_text a text (schedules.BadInput line) (inr is) = is
refused_text a text schedules.Limit (inl wanted) = absurd (grind (arith, wanted))
refused_text a text schedules.Limit (inr is) = many_refused a text is
refused_text a text schedules.NoMemory (inl wanted) = wanted_some text (inl wanted.1)
refused_text a text schedules.NoMemory (inr is) = wanted_some text (inr is)

-- why its events are not played
pub event_refused : (e : ClusterRefusal) (TooLarge : Type 0) → (e ≡ clusters.Limit → TooLarge)
    → (refused_event e ≡ status.NoMemory) ⊎ ((refused_event e ≡ status.Limit) × TooLarge)
event_refused clusters.Limit TooLarge large = inr (refl, large refl)
event_refused clusters.NoMemory TooLarge large = inl refl

-- why nothing is drawn of a schedule
pub refusal_by : (text : List ℕ) (s : Schedule) (e : Status) → schedule_of text ≡ Ok s → length s.events ≤ ROWS
    → (e ≡ status.NoMemory) ⊎ ((e ≡ status.Limit) × IsTooLarge s) → IsRefusal asked.Picture text e
refusal_by text s e spells few (inl is) = subst (IsRefusal asked.Picture text) (sym is) (spelled_some text s spells)
refusal_by text s e spells few (inr is) = subst (IsRefusal asked.Picture text) (sym is.0) (s, spells, few, is.1)

-- why no page is made of it
pub page_refusal_by : (text : List ℕ) (s : Schedule) (e : Status) → schedule_of text ≡ Ok s
    → (e ≡ status.NoMemory) ⊎ ((e ≡ status.Limit) × IsTooLarge s) → IsRefusal asked.Page text e
page_refusal_by text s e spells (inl is) = subst (IsRefusal asked.Page text) (sym is) (spelled_some text s spells)
page_refusal_by text s e spells (inr is) = subst (IsRefusal asked.Page text) (sym is.0) (inr (s, spells, is.1))

-- why its texts make none
pub texts_refused : (text report frames : List ℕ) (s : Schedule) (e : Status) → schedule_of text ≡ Ok s → FitsPicture s
    → report ≡ report_text s → frames ≡ frames_text s
    → ((e ≡ status.TooMuchText) × (PAGE_BYTES < length text + length report + length frames))
    ⊎ ((e ≡ status.NotPlain) × (length text + length report + length frames ≤ PAGE_BYTES)
    × ((is_plain text && is_plain report && is_plain frames) ≡ false)) → IsRefusal asked.Page text e
texts_refused text report frames s e spells fits reports frame_lines (inl is) =
    subst (IsRefusal asked.Page text) (sym is.0) (
      refl,
      (
        s,
        spells,
        fits,
        subst (λ r. PAGE_BYTES < length text + length r + length (frames_text s)) reports
            (subst (λ f. PAGE_BYTES < length text + length report + length f) frame_lines is.1),
      ),
    )
texts_refused text report frames s e spells fits reports frame_lines (inr is) =
    subst (IsRefusal asked.Page text) (sym is.0) (
      refl,
      (
        s,
        spells,
        fits,
        subst (λ r. length text + length r + length (frames_text s) ≤ PAGE_BYTES) reports
            (subst (λ f. length text + length report + length f ≤ PAGE_BYTES) frame_lines is.1),
        subst (λ r. (is_plain text && is_plain r && is_plain (frames_text s)) ≡ false) reports
            (subst (λ f. (is_plain text && is_plain report && is_plain f) ≡ false) frame_lines is.2),
      ),
    )

-- the page
pub page_is : (parts : PageParts) (text report frames made : List ℕ) (s : Schedule) → schedule_of text ≡ Ok s → FitsPicture s
    → report ≡ report_text s → frames ≡ frames_text s → length text + length report + length frames ≤ PAGE_BYTES
    → (is_plain text && is_plain report && is_plain frames) ≡ true → made ≡ page_text parts text report frames → IsPage parts text made
page_is parts text report frames made s spells fits reports frame_lines short plain is = record {
  schedule = s;
  spells = spells;
  fits = fits;
  short = subst (λ r. length text + length r + length (frames_text s) ≤ PAGE_BYTES) reports
      (subst (λ f. length text + length report + length f ≤ PAGE_BYTES) frame_lines short);
  plain = subst (λ r. (is_plain text && is_plain r && is_plain (frames_text s)) ≡ true) reports
      (subst (λ f. (is_plain text && is_plain report && is_plain f) ≡ true) frame_lines plain);
  is = is ∙ (λ i. page_text parts text (reports i) (frame_lines i));
}

-- all was written, or a write failed
pub written_is : (Unchanged : Type 0) (a : Drawing) (parts : PageParts) (text drawn : List ℕ) (old new : Option (List ℕ)) (s : Status)
    → length text ≤ INPUT_BYTES → IsMade a parts text drawn → IsWritten status.Done status.WriteFault drawn old new s
    → (n : ℕ) × Appends old new (take n drawn) → IsAnswered Unchanged a parts text old new s
written_is Unchanged a parts text drawn old new s small made (inl (is, written)) front =
    subst (IsAnswered Unchanged a parts text old new) (sym is) (record {
      kinds = (λ e. grind (arith, e), λ e. grind (arith, e));
      done = λ e. record { small = small; drawn = drawn; made = made; output = written };
      refused = λ told. absurd told;
      memory = λ e. absurd (grind (arith, e));
      nothing = λ early. absurd early;
      front = λ e. absurd (grind (arith, e));
    })
written_is Unchanged a parts text drawn old new s small made (inr is) front =
    subst (IsAnswered Unchanged a parts text old new) (sym is) (record {
      kinds = (λ e. grind (arith, e), λ e. grind (arith, e));
      done = λ e. absurd (grind (arith, e));
      refused = λ told. absurd told;
      memory = λ e. absurd (grind (arith, e));
      nothing = λ early. absurd early;
      front = λ e. record { small = small; drawn = drawn; made = made; count = front.0; written = front.1 };
    })

-- nothing is written of a text
pub refused_is : (Unchanged : Type 0) (a : Drawing) (parts : PageParts) (text : List ℕ) (old : Option (List ℕ)) (s : Status) → Unchanged
    → IsRefusal a text s → IsAnswered Unchanged a parts text old old s
refused_is Unchanged a parts text old (status.BadInput line) same why = record {
  kinds = (λ e. grind (arith, e), λ e. grind (arith, e));
  done = λ e. absurd (grind (arith, e));
  refused = λ told. why;
  memory = λ e. absurd (grind (arith, e));
  nothing = λ early. same;
  front = λ e. absurd (grind (arith, e));
}
refused_is Unchanged a parts text old status.TooManyEvents same why = record {
  kinds = (λ e. grind (arith, e), λ e. grind (arith, e));
  done = λ e. absurd (grind (arith, e));
  refused = λ told. why;
  memory = λ e. absurd (grind (arith, e));
  nothing = λ early. same;
  front = λ e. absurd (grind (arith, e));
}
refused_is Unchanged a parts text old status.Limit same why = record {
  kinds = (λ e. grind (arith, e), λ e. grind (arith, e));
  done = λ e. absurd (grind (arith, e));
  refused = λ told. why;
  memory = λ e. absurd (grind (arith, e));
  nothing = λ early. same;
  front = λ e. absurd (grind (arith, e));
}
refused_is Unchanged a parts text old status.TooMuchText same why = record {
  kinds = (λ e. grind (arith, e), λ e. grind (arith, e));
  done = λ e. absurd (grind (arith, e));
  refused = λ told. why;
  memory = λ e. absurd (grind (arith, e));
  nothing = λ early. same;
  front = λ e. absurd (grind (arith, e));
}
refused_is Unchanged a parts text old status.NotPlain same why = record {
  kinds = (λ e. grind (arith, e), λ e. grind (arith, e));
  done = λ e. absurd (grind (arith, e));
  refused = λ told. why;
  memory = λ e. absurd (grind (arith, e));
  nothing = λ early. same;
  front = λ e. absurd (grind (arith, e));
}
refused_is Unchanged a parts text old status.NoMemory same why = record {
  kinds = (λ e. grind (arith, e), λ e. grind (arith, e));
  done = λ e. absurd (grind (arith, e));
  refused = λ told. absurd told;
  memory = λ e. why;
  nothing = λ early. same;
  front = λ e. absurd (grind (arith, e));
}
refused_is Unchanged a parts text old status.Done same why = absurd why
refused_is Unchanged a parts text old status.Usage same why = absurd why
refused_is Unchanged a parts text old status.ReadFault same why = absurd why
refused_is Unchanged a parts text old status.WriteFault same why = absurd why

-- the input

whole_by : (left rest : Option (List ℕ)) (text : List ℕ) → IfSome left (λ i. (text ≡ i) × (rest ≡ Some []))
    → IfSome left (λ i. length i ≤ INPUT_BYTES → rest ≡ Some [])
whole_by None rest text h = tt
whole_by (Some i) rest text h = λ small. h.1

not_whole : (left rest : Option (List ℕ)) → IsReadOver left rest → IfSome left (λ i. length i ≤ INPUT_BYTES → rest ≡ Some [])
not_whole None rest lost = tt
not_whole (Some i) None lost = absurd lost.front
not_whole (Some i) (Some ys) lost =
    λ small. absurd (omega (arith, small, lost.count, ap length lost.front, length-append lost.bytes ys))

pub read_is : (Unchanged : Type 0) (a : Drawing) (parts : PageParts) (left rest old new : Option (List ℕ)) (text seen : List ℕ) (s : Status)
    → IsText left rest text → seen ≡ text → IsAnswered Unchanged a parts seen old new s → IsOutcome Unchanged a parts left rest old new s
read_is Unchanged a parts left rest old new text seen s read same given =
    let answered = subst (λ t. IsAnswered Unchanged a parts t old new s) same given in
    let all = is_all left rest text read in
    record {
      kinds = answered.kinds.0;
      done = λ is. record { input = text; all = all; holds = answered.done is };
      whole = λ late. whole_by left rest text read.all;
      refused = λ told. record { input = text; all = all; holds = inr (read.small, answered.refused told) };
      memory = λ is. partly left rest text read (answered.memory is);
      nothing = answered.nothing;
      front = λ is. record { input = text; all = all; holds = answered.front is };
    }

unread_as : (Unchanged : Type 0) (a : Drawing) (parts : PageParts) (left rest old : Option (List ℕ)) (r : ReadRefusal) → Unchanged
    → IsUnread left rest r → IsOutcome Unchanged a parts left rest old old (unread r)
unread_as Unchanged a parts left rest old reads.Failed same why = record {
  kinds = λ e. grind (arith, e);
  done = λ e. absurd (grind (arith, e));
  whole = λ late. absurd late;
  refused = λ told. absurd told;
  memory = λ e. absurd (grind (arith, e));
  nothing = λ early. same;
  front = λ e. absurd (grind (arith, e));
}
unread_as Unchanged a parts left rest old reads.TooLong same why =
    let many = too_many left rest why in record {
      kinds = λ e. grind (arith, e);
      done = λ e. absurd (grind (arith, e));
      whole = λ late. not_whole left rest why;
      refused = λ told. record { input = many.input; all = many.all; holds = inl (refl, many.holds) };
      memory = λ e. absurd (grind (arith, e));
      nothing = λ early. same;
      front = λ e. absurd (grind (arith, e));
    }
unread_as Unchanged a parts left rest old reads.NoMemory same why = record {
  kinds = λ e. grind (arith, e);
  done = λ e. absurd (grind (arith, e));
  whole = λ late. absurd late;
  refused = λ told. absurd told;
  memory = λ e. why;
  nothing = λ early. same;
  front = λ e. absurd (grind (arith, e));
}

pub unread_is : (Unchanged : Type 0) (a : Drawing) (parts : PageParts) (left rest old : Option (List ℕ)) (r : ReadRefusal) (s : Status)
    → s ≡ unread r → Unchanged → IsUnread left rest r → IsOutcome Unchanged a parts left rest old old s
unread_is Unchanged a parts left rest old r s is same why =
    subst (IsOutcome Unchanged a parts left rest old old) (sym is) (unread_as Unchanged a parts left rest old r same why)

-- what is told where the input was not read

-- the answers to an input that was not read
abbrev IsOfInput : Status → Type 0
IsOfInput status.ReadFault = Unit {0}
IsOfInput status.Limit = Unit {0}
IsOfInput status.NoMemory = Unit {0}
IsOfInput s = ⊥

of_input : (r : ReadRefusal) → IsOfInput (unread r)
of_input reads.Failed = tt
of_input reads.TooLong = tt
of_input reads.NoMemory = tt

pub unread_other : (r : ReadRefusal) (s why : Status) → s ≡ unread r → ¬ (IsOfInput why) → ¬ (s ≡ why)
unread_other r s why is none same = none (subst IsOfInput (sym is ∙ same) (of_input r))

pub unread_counts : (r : ReadRefusal) (s : Status) (before now : ℕ) → s ≡ unread r → TellsFault before now (Err r)
    → CountsFaults status.ReadFault s before now
unread_counts reads.Failed s before now is rose = inl (is, rose)
unread_counts reads.TooLong s before now is same =
    inr (λ fault. let clash : status.Limit ≡ status.ReadFault = sym is ∙ fault in grind (arith, clash), same)
unread_counts reads.NoMemory s before now is same =
    inr (λ fault. let clash : status.NoMemory ≡ status.ReadFault = sym is ∙ fault in grind (arith, clash), same)

-- at Done it was flushed, if it was wherever no write failed
pub done_flushed : (Flushed : Type 0) (s : Status) → (¬ (s ≡ status.WriteFault) → Flushed) → s ≡ status.Done → Flushed
done_flushed Flushed s flushed is =
    flushed (λ failed. let clash : status.Done ≡ status.WriteFault = sym is ∙ failed in grind (arith, clash))
