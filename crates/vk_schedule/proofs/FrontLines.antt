-- The lines of a front, one after another, and as texts.
use Rattle.std.proofs.Common.{◌≡◌, ℕ, ◌+◌, nat_lt, Bool, true, false, cond, List, [], ◌∷◌, ◌++◌, length, Option, Some, None, Result, Ok, Err, refl, sym, subst, ap, ◌∙◌, append-nil}
use Rattle.vk_base.specs.Settings.{Settings}
use Rattle.vk_text.specs.Lines.{lines_of, words_from}
use Rattle.vk_text.specs.Spelling.{joined}
use Rattle.vk_text.proofs.Bodies.{one_line_more, text_spelled}
use Rattle.vk_text.proofs.OpeningLaws.{openings_spelled}
use Rattle.vk_text.proofs.ReadBack.{line_joined}
use Rattle.vk_schedule.specs.declared.event.Event.{Event}
use Rattle.vk_schedule.specs.declared.schedule.Front.{Front}
use Rattle.vk_schedule.specs.declared.schedule.Schedule.{Schedule}
use Rattle.vk_schedule.specs.declared.schedule.TextRefusal.TheVariants as refusals
use Rattle.vk_schedule.specs.Lawful.{has_actors}
use Rattle.vk_schedule.specs.Laws.{SchedulesAreSpelled, FrontsHaveTheirLines}
use Rattle.vk_schedule.specs.Schedule.{event_of, acting, more, with_event, or_end, front_from, without_events, front_by, front_of, opened, plain_title, timed_title}
use Rattle.vk_schedule.specs.Spelling.{IsScheduleFront, event_text, schedule_lines, text_of}
use Rattle.vk_schedule.proofs.Events.{event_spelled}
use Rattle.vk_schedule.proofs.Lawfulness.{whole_is}

-- the lines of the schedule and those left, of which there are none where no line is refused
record Splits (opening : List (List ℕ)) (c : Settings) (lines : List (List ℕ)) (f : Front) : Type 0 where
  rest : List (List ℕ)
  parts : lines ≡ schedule_lines opening f.schedule ++ rest
  config : f.schedule.config ≡ c
  all : f.refused ≡ None → rest ≡ []

module _ (opening : List (List ℕ)) where
  more_lines : (s : Schedule) (e : Event) (l : List ℕ) (ls : List (List ℕ)) → l ≡ event_text e
      → schedule_lines opening s ++ l ∷ ls ≡ schedule_lines opening (more s e) ++ ls
  more_lines s e l ls is = one_line_more opening event_text s.events e l ls is

  -- what stands behind this schedule
  abbrev Behind : (Schedule → Front) → List (List ℕ) → Type 0
  Behind rest ls = (t : Schedule) → Splits opening t.config (schedule_lines opening t ++ ls) (rest t)

  by_room : (s : Schedule) (e : Event) (l : List ℕ) (ls : List (List ℕ)) (rest : Schedule → Front) (b : Bool) → l ≡ event_text e
      → Behind rest ls
      → Splits opening s.config (schedule_lines opening s ++ l ∷ ls) (or_end s (Some e) (cond b (Ok (more s e)) (Err refusals.Limit)) rest)
  by_room s e l ls rest true is after = let got = after (more s e) in
      record { rest = got.rest; parts = more_lines s e l ls is ∙ got.parts; config = got.config; all = got.all }
  by_room s e l ls rest false is after = record { rest = l ∷ ls; parts = refl; config = refl; all = λ h. cc }

  by_actors : (n : ℕ) (s : Schedule) (e : Event) (l : List ℕ) (ls : List (List ℕ)) (rest : Schedule → Front) (b : Bool) → l ≡ event_text e
      → Behind rest ls
      → Splits opening s.config (schedule_lines opening s ++ l ∷ ls) (or_end s (cond b (Some e) None) (with_event n s (cond b (Some e) None)) rest)
  by_actors n s e l ls rest true is after = by_room s e l ls rest (nat_lt (length s.events) 100000) is after
  by_actors n s e l ls rest false is after = record { rest = l ∷ ls; parts = refl; config = refl; all = λ h. cc }

  by_event : (n : ℕ) (s : Schedule) (o : Option Event) (l : List ℕ) (ls : List (List ℕ)) (rest : Schedule → Front)
      → event_of (words_from l 0) ≡ o → Behind rest ls
      → Splits opening s.config (schedule_lines opening s ++ l ∷ ls)
      (or_end s (acting s.config.specs o) (with_event n s (acting s.config.specs o)) rest)
  by_event n s None l ls rest is after = record { rest = l ∷ ls; parts = refl; config = refl; all = λ h. cc }
  by_event n s (Some e) l ls rest is after =
      by_actors n s e l ls rest (has_actors s.config.specs e) (sym (line_joined l) ∙ ap joined (event_spelled (words_from l 0) e is)) after

  from_splits : (n : ℕ) (s : Schedule) (lines : List (List ℕ)) →
      Splits opening s.config (schedule_lines opening s ++ lines) (front_from n s lines)
  unfolding front_from
  from_splits n s [] = record { rest = []; parts = refl; config = refl; all = λ h. refl }
  from_splits n s (l ∷ ls) =
      by_event n s (event_of (words_from l 0)) l ls (λ t. front_from (n + 1) t ls) refl (λ t. from_splits (n + 1) t ls)

-- what a text that opens has
record Opens (lines : List (List ℕ)) (f : Front) : Type 0 where
  opening : List (List ℕ)
  is : IsScheduleFront f.schedule.config opening
  rest : List (List ℕ)
  parts : lines ≡ schedule_lines opening f.schedule ++ rest
  all : f.refused ≡ None → rest ≡ []

behind_opening : (lines : List (List ℕ)) (found : Settings × List (List ℕ)) → opened lines ≡ Ok found → Opens lines (front_by lines (Ok found))
behind_opening lines found h =
    let front = openings_spelled plain_title timed_title lines found.1 found.0 h in
    let got = from_splits front.1.0 _ (without_events found.0) found.1 in
    record {
      opening = front.1.0;
      is = subst (λ (c : Settings). IsScheduleFront c front.1.0) (sym got.config) front.1.1;
      rest = got.rest;
      parts = front.1.2 ∙ ap (λ l. l ++ found.1) (sym (append-nil front.1.0)) ∙ got.parts;
      all = got.all;
    }

opens : (text : List ℕ) (found : Settings × List (List ℕ)) → opened (lines_of text) ≡ Ok found → Opens (lines_of text) (front_of text)
opens text found h =
    subst (Opens (lines_of text)) (sym (ap (front_by (lines_of text)) h)) (behind_opening (lines_of text) found h)

pub their_lines : FrontsHaveTheirLines
their_lines text found h = let got = opens text found h in (got.opening, got.is, (got.rest, got.parts))

-- a text of which no line is refused opens
opened_by : (lines : List (List ℕ)) (o : Result (Settings × List (List ℕ)) ℕ) → (front_by lines o).refused ≡ None →
    (found : Settings × List (List ℕ)) × (o ≡ Ok found)
opened_by lines (Ok found) h = (found, refl)
opened_by lines (Err n) h = cc

pub spelled : SchedulesAreSpelled
spelled text s h =
    let is = whole_is (front_of text).schedule s (front_of text).refused h in
    let found = opened_by (lines_of text) (opened (lines_of text)) is.1 in
    let got = opens text found.0 found.1 in
    let lines : lines_of text ≡ schedule_lines got.opening s =
    got.parts ∙ ap (λ l. schedule_lines got.opening (front_of text).schedule ++ l) (got.all is.1)
    ∙ append-nil (schedule_lines got.opening (front_of text).schedule) ∙ ap (schedule_lines got.opening) is.0 in (
      got.opening,
      subst (λ (t : Schedule). IsScheduleFront t.config got.opening) is.0 got.is,
      text_spelled text (text_of (schedule_lines got.opening s)) (schedule_lines got.opening s) lines refl,
    )
