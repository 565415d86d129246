-- A history, one event after another: its rows, and the lines of its frames.
use Rattle.std.proofs.Common.{◌≡◌, ℕ, suc, ◌+◌, ◌<◌, ◌≤◌, Bool, true, false, nat_le, nat_lt, List, [], ◌∷◌, ◌++◌, get_or, length, take, refl, sym, ap, subst, ◌∙◌, inl, inr, arith, append-nil, append_assoc}
use Rattle.std.specs.List.{list_all}
use Rattle.std.proofs.lemmas.Bool.{cases_Bool, leb-true, ltb-false, ltb-true, or_parts}
use Rattle.std.proofs.lemmas.List.{length-append, length-take-le, take_all}
use Rattle.std.proofs.lemmas.List.Folds.{list_all_at}
use Rattle.vk_base.specs.declared.limits.TheConstants.{EVENTS}
use Rattle.vk_base.specs.Settings.{Settings}
use Rattle.vk_cluster.specs.declared.emitted.TheConstants.{LAST_BYTES}
use Rattle.vk_cluster.specs.Standing.{StandsFor, StandsSomewhere, emitted_bytes, logs_of}
use Rattle.vk_cluster.specs.Values.{ClusterValue, is_full}
use Rattle.vk_schedule.specs.declared.event.Event.{Event}
use Rattle.vk_schedule.specs.declared.schedule.Schedule.{Schedule}
use Rattle.vk_schedule.specs.Lawful.{has_actors}
use Rattle.vk_rules.specs.Histories.{Logs, history_of, logs_after, no_entries}
unfoldable use Rattle.vk_rules.specs.Histories.{happened, history, logs_from}
use Rattle.vk_top.proofs.Fronts.{taken_more}
use Rattle.vk_top.proofs.Plays.{full_by}
use Rattle.vk_picture.specs.declared.picture.EventRow.{EventRow}
use Rattle.vk_frame_text.specs.Frames.{title_line}
use Rattle.vk_draw.specs.Frames.{frames_text, happened_lines, lines_of_history}
use Rattle.vk_draw.specs.Playing.{AreHad, ArePlayed, AreTold, HasTold, IsHad, next_row}
use Rattle.vk_draw.specs.Rows.{picture_row, rows_of}
unfoldable use Rattle.vk_draw.specs.Rows.{rows_from}
use Rattle.vk_draw.specs.Top.{FitsPicture, IsTooLarge}

-- one row more
rows_more : (c : Settings) (es : List Event) (logs : Logs) (n m : ℕ) (e : Event) → m ≡ n + length es + 1 →
    rows_from c logs n (es ++ e ∷ []) ≡ rows_from c logs n es ++ picture_row m e (happened c (logs_from c logs es) e) ∷ []
unfolding rows_from logs_from
rows_more c [] logs n m e is =
    let same : n + 1 ≡ m = omega (arith, is) in ap (λ k. picture_row k e (happened c logs e) ∷ []) same
rows_more c (x ∷ xs) logs n m e is =
    ap (λ rs. picture_row (n + 1) x (happened c logs x) ∷ rs)
    (rows_more c xs (logs_after logs (happened c logs x)) (n + 1) m e (omega (arith, is)))

rows_many : (c : Settings) (es : List Event) (logs : Logs) (n : ℕ) → length (rows_from c logs n es) ≡ length es
unfolding rows_from
rows_many c [] logs n = refl
rows_many c (x ∷ xs) logs n = ap suc (rows_many c xs (logs_after logs (happened c logs x)) (n + 1))

pub as_many : (c : Settings) (es : List Event) → length (rows_of c es) ≡ length es
as_many c es = rows_many c es no_entries 0

-- the lines of one event more
lines_more : (c : Settings) (es : List Event) (logs : Logs) (e : Event) →
    lines_of_history (history c logs (es ++ e ∷ [])) ≡ lines_of_history (history c logs es) ++ happened_lines (happened c (logs_from c logs es) e)
unfolding history logs_from
lines_more c [] logs e = append-nil (happened_lines (happened c logs e))
lines_more c (x ∷ xs) logs e =
    let h = happened c logs x in
    ap (λ l. happened_lines h ++ l) (lines_more c xs (logs_after logs h) e)
    ∙ sym (append_assoc (happened_lines h) (lines_of_history (history c (logs_after logs h) xs))
    (happened_lines (happened c (logs_from c (logs_after logs h) xs) e)))

-- before the first event
had_none : (c : Settings) (es : List Event) (now : ClusterValue) → StandsFor c [] now → AreHad c es 0 now
had_none c es now stands = record { stands = stands; fits = λ m low. absurd (omega (arith, low)) }

pub played_none : (c : Settings) (es : List Event) (now : ClusterValue) → StandsFor c [] now → ArePlayed c es 0 [] now
unfolding rows_from
played_none c es now stands = record { rows_are = refl; many = refl; had = had_none c es now stands }

pub told_none : (c : Settings) (es : List Event) (text : List ℕ) (now : ClusterValue) → text ≡ title_line → StandsFor c [] now →
    AreTold c es 0 text now
unfolding history
told_none c es text now is stands = record { lines = is ∙ sym (append-nil title_line); had = had_none c es now stands }

-- what holds below a number and at it
up_to : (P : ℕ → Type 0) (n : ℕ) → ((m : ℕ) → m < n → P m) → P n → (m : ℕ) → m < n + 1 → P m
up_to P n below at m low =
    elim (cases_Bool (nat_lt m n)) [
      | inl less ↦ below m (ltb-true m n less)
      | inr not ↦
          let same : n ≡ m = omega (arith, low, ltb-false m n not) in
          subst P same at
    ]

acts_by : (b : Bool) → ¬ (b ≡ false) → b ≡ true
acts_by true not = refl
acts_by false not = absurd (not refl)

module _ (s : Schedule) (n : ℕ) (now : ClusterValue) (had : AreHad s.config s.events n now) where
  pub somewhere : StandsSomewhere now
  somewhere = (s.config, take n s.events, had.stands)

  -- at the next one where there is room
  room_now : is_full now ≡ false → emitted_bytes (history_of s.config (take n s.events)) ≤ LAST_BYTES
  room_now room =
      let low = ltb-false LAST_BYTES (length now.pile.bytes) (or_parts (nat_le EVENTS now.events) (nat_lt LAST_BYTES (length now.pile.bytes)) room).1 in
      omega (arith, low, had.stands.bytes)

  -- all of them
  pub all_fit : length s.events ≤ n → FitsPicture s
  all_fit all m low = had.fits m (omega (arith, all, low))

  module _ (e : Event) (low : n < length s.events) (is : e ≡ get_or s.events n e) where
    so_many : length (take n s.events) ≡ n
    so_many = length-take-le n s.events (omega (arith, low))

    -- one more
    had_more : (later : ClusterValue) → is_full now ≡ false → StandsFor s.config (take n s.events ++ e ∷ []) later →
        AreHad s.config s.events (n + 1) later
    had_more later room stands =
        let taken = taken_more s n e low is in
        record {
          stands = subst (λ es. StandsFor s.config es later) (sym taken) stands;
          fits = up_to (λ m. emitted_bytes (history_of s.config (take m s.events)) ≤ LAST_BYTES) n had.fits (room_now room);
        }

    -- it is of the configuration
    pub acts : list_all (has_actors s.config.specs) s.events ≡ true → has_actors now.config.specs e ≡ true
    acts all =
        ap (λ (c : Settings). has_actors c.specs e) had.stands.config
        ∙ acts_by (has_actors s.config.specs e)
        (λ not. grind (arith, all, list_all_at (has_actors s.config.specs) s.events n e low (ap (has_actors s.config.specs) (sym is) ∙ not)))

    -- it is refused
    pub too_large : length s.events ≤ EVENTS → is_full now ≡ true → IsTooLarge s
    too_large few full =
        let some : ¬ (nat_le EVENTS now.events ≡ true) =
        λ all. let reached : EVENTS ≤ now.events = leb-true EVENTS now.events all in
        omega (arith, reached, had.stands.events, so_many, low, few) in (
          n,
          low,
          subst (λ b. LAST_BYTES < b) had.stands.bytes
              (ltb-true LAST_BYTES (length now.pile.bytes) (full_by (nat_le EVENTS now.events) (nat_lt LAST_BYTES (length now.pile.bytes)) some full)),
        )

-- the rows
module _ (s : Schedule) (n : ℕ) (rows : List EventRow) (now : ClusterValue) (played : ArePlayed s.config s.events n rows now) where
  pub played_all : length s.events ≤ n → rows ≡ rows_of s.config s.events
  played_all all = played.rows_are ∙ ap (rows_of s.config) (take_all n s.events all)

  pub played_more : (e : Event) → n < length s.events → e ≡ get_or s.events n e → (after : List EventRow) (later : ClusterValue) →
      is_full now ≡ false → IsHad s.config (take n s.events) e rows after later → ArePlayed s.config s.events (n + 1) after later
  played_more e low is after later room had =
      let taken = taken_more s n e low is in
      let row = next_row s.config (take n s.events) e (length rows + 1) in
      let so_many : length (take n s.events) ≡ n = length-take-le n s.events (omega (arith, low)) in
      let place : length rows + 1 ≡ 0 + length (take n s.events) + 1 = omega (arith, so_many, played.many) in
      let one : length after ≡ length rows + 1 = ap length had.rows ∙ length-append rows (row ∷ []) in
      record {
        rows_are =
            had.rows ∙ ap (λ l. l ++ row ∷ []) played.rows_are
            ∙ sym (rows_more s.config (take n s.events) no_entries 0 (length rows + 1) e place)
            ∙ ap (rows_of s.config) (sym taken);
        many = omega (arith, one, played.many);
        had = had_more s n now played.had e low is later room had.stands;
      }

-- the lines of frames
module _ (s : Schedule) (n : ℕ) (text : List ℕ) (now : ClusterValue) (told : AreTold s.config s.events n text now) where
  pub told_all : length s.events ≤ n → text ≡ frames_text s
  told_all all = told.lines ∙ ap (λ es. title_line ++ lines_of_history (history_of s.config es)) (take_all n s.events all)

  pub told_more : (e : Event) → n < length s.events → e ≡ get_or s.events n e → (after : List ℕ) (later : ClusterValue) →
      is_full now ≡ false → HasTold s.config (take n s.events) e text after later → AreTold s.config s.events (n + 1) after later
  told_more e low is after later room had =
      let before = lines_of_history (history_of s.config (take n s.events)) in
      let one = happened_lines (happened s.config (logs_of s.config (take n s.events)) e) in
      record {
        lines =
            had.lines ∙ ap (λ l. l ++ one) told.lines
            ∙ append_assoc title_line before one
            ∙ ap (λ l. title_line ++ l) (sym (lines_more s.config (take n s.events) no_entries e))
            ∙ ap (λ es. title_line ++ lines_of_history (history_of s.config es)) (sym (taken_more s n e low is));
        had = had_more s n now told.had e low is later room had.stands;
      }
