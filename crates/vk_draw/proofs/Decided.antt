-- Each condition of an answer is that of one status alone.
use Rattle.std.proofs.Common.{◌≡◌, ℕ, ◌<◌, ◌≤◌, true, false, nat_lt, cond, List, length, Option, inl, inr, refl, sym, ap, ◌∙◌, arith}
use Rattle.std.proofs.lemmas.Bool.{cases_Bool, cond-true, cond-false, le-ltb, lt-ltb}
use Rattle.vk_base.specs.declared.limits.TheConstants.{INPUT_BYTES}
use Rattle.vk_edge.proofs.Inputs.{weaker}
use Rattle.vk_edge.specs.Inputs.{OfInput}
use Rattle.vk_schedule.specs.declared.schedule.Schedule.{Schedule}
use Rattle.vk_schedule.specs.Schedule.{schedule_of}
use Rattle.vk_picture.specs.declared.svg.TheConstants.{ROWS}
use Rattle.vk_top.proofs.Fronts.{fits_all, full_before, refused_within}
use Rattle.vk_top.specs.Report.{is_cut, taken_of}
use Rattle.vk_draw.specs.declared.status.Status.{Status}
use Rattle.vk_draw.specs.declared.status.Status.TheVariants as status
use Rattle.vk_page.specs.declared.parts.PageParts.{PageParts}
use Rattle.vk_draw.specs.declared.page.TheConstants.{PAGE_BYTES}
use Rattle.vk_draw.specs.declared.words.Drawing.{Drawing}
use Rattle.vk_draw.specs.declared.words.Drawing.TheVariants as asked
use Rattle.vk_draw.specs.Top.{FitsPicture, HasTooLarge, HasTooMany, HasTooMuch, HasUnplain, IsDecided, IsDrawn, IsFront, IsMade, IsOfText, IsRefusal, IsRefused, IsTooLarge, are_plain, page_status, picture_status, status_of, text_status, texts_len}
use Rattle.vk_draw.specs.Work.{IsOutcome}

-- a schedule is cut exactly where before one of its events too many bytes are emitted

whole_is : (s : Schedule) → FitsPicture s → is_cut s ≡ false
whole_is s fits =
    elim (cases_Bool (is_cut s)) [
      | inl cut ↦
          let low = fits (taken_of s) (refused_within s cut) in
          absurd (omega (arith, low, full_before s cut))
      | inr whole ↦ whole
    ]

cut_is : (s : Schedule) → IsTooLarge s → is_cut s ≡ true
cut_is s large =
    elim (cases_Bool (is_cut s)) [
      | inl cut ↦ cut
      | inr whole ↦
          let low = fits_all s whole large.0 large.1 in
          absurd (omega (arith, low, large.2))
    ]

-- what a schedule asks for

many_asked : (s : Schedule) → ROWS < length s.events → picture_status s ≡ status.TooManyEvents
many_asked s many =
    cond-true (nat_lt ROWS (length s.events)) status.TooManyEvents (cond (is_cut s) status.Limit status.Done)
    (lt-ltb ROWS (length s.events) many)

few_asked : (s : Schedule) → length s.events ≤ ROWS → picture_status s ≡ cond (is_cut s) status.Limit status.Done
few_asked s few =
    cond-false (nat_lt ROWS (length s.events)) status.TooManyEvents (cond (is_cut s) status.Limit status.Done)
    (le-ltb ROWS (length s.events) few)

-- what the texts of a page ask for
abbrev texts_status : List ℕ → Schedule → Status
texts_status text s =
    cond (nat_lt PAGE_BYTES (texts_len text s)) status.TooMuchText (cond (are_plain text s) status.Done status.NotPlain)

whole_page : (text : List ℕ) (s : Schedule) → FitsPicture s → page_status text s ≡ texts_status text s
whole_page text s fits = cond-false (is_cut s) status.Limit (texts_status text s) (whole_is s fits)

short_page : (text : List ℕ) (s : Schedule) → texts_len text s ≤ PAGE_BYTES →
    texts_status text s ≡ cond (are_plain text s) status.Done status.NotPlain
short_page text s short =
    cond-false (nat_lt PAGE_BYTES (texts_len text s)) status.TooMuchText (cond (are_plain text s) status.Done status.NotPlain)
    (le-ltb PAGE_BYTES (texts_len text s) short)

-- what an input asks for

long_asked : (a : Drawing) (i : List ℕ) → INPUT_BYTES < length i → status_of a i ≡ status.Limit
long_asked a i long =
    cond-true (nat_lt INPUT_BYTES (length i)) status.Limit (text_status a i (schedule_of i)) (lt-ltb INPUT_BYTES (length i) long)

short_asked : (a : Drawing) (i : List ℕ) → length i ≤ INPUT_BYTES → status_of a i ≡ text_status a i (schedule_of i)
short_asked a i small =
    cond-false (nat_lt INPUT_BYTES (length i)) status.Limit (text_status a i (schedule_of i)) (le-ltb INPUT_BYTES (length i) small)

made_asked : (a : Drawing) (parts : PageParts) (i made : List ℕ) → length i ≤ INPUT_BYTES → IsMade a parts i made → status_of a i ≡ status.Done
made_asked asked.Picture parts i made small is =
    let s = is.schedule in
    short_asked asked.Picture i small ∙ ap (text_status asked.Picture i) is.spells ∙ few_asked s is.few
    ∙ cond-false (is_cut s) status.Limit status.Done (whole_is s is.fits)
made_asked asked.Page parts i made small is =
    let s = is.schedule in
    short_asked asked.Page i small ∙ ap (text_status asked.Page i) is.spells ∙ whole_page i s is.fits ∙ short_page i s is.short
    ∙ cond-true (are_plain i s) status.Done status.NotPlain is.plain

too_many_asked : (a : Drawing) (i : List ℕ) → a ≡ asked.Picture → HasTooMany i → text_status a i (schedule_of i) ≡ status.TooManyEvents
too_many_asked asked.Picture i is (inl limit) = ap (text_status asked.Picture i) limit
too_many_asked asked.Picture i is (inr some) = ap (text_status asked.Picture i) some.1 ∙ many_asked some.0 some.2
too_many_asked asked.Page i is many = absurd (grind (arith, is))

too_large_asked : (a : Drawing) (i : List ℕ) → HasTooLarge a i → text_status a i (schedule_of i) ≡ status.Limit
too_large_asked asked.Picture i large =
    let s = large.0 in
    ap (text_status asked.Picture i) large.1 ∙ few_asked s large.2 ∙ cond-true (is_cut s) status.Limit status.Done (cut_is s large.3)
too_large_asked asked.Page i (inl many) = ap (text_status asked.Page i) many
too_large_asked asked.Page i (inr large) =
    let s = large.0 in
    ap (text_status asked.Page i) large.1 ∙ cond-true (is_cut s) status.Limit (texts_status i s) (cut_is s large.2)

too_much_asked : (a : Drawing) (i : List ℕ) → a ≡ asked.Page → HasTooMuch i → text_status a i (schedule_of i) ≡ status.TooMuchText
too_much_asked asked.Page i is much =
    let s = much.0 in
    ap (text_status asked.Page i) much.1 ∙ whole_page i s much.2
    ∙ cond-true (nat_lt PAGE_BYTES (texts_len i s)) status.TooMuchText (cond (are_plain i s) status.Done status.NotPlain)
    (lt-ltb PAGE_BYTES (texts_len i s) much.3)
too_much_asked asked.Picture i is much = absurd (grind (arith, is))

unplain_asked : (a : Drawing) (i : List ℕ) → a ≡ asked.Page → HasUnplain i → text_status a i (schedule_of i) ≡ status.NotPlain
unplain_asked asked.Page i is odd =
    let s = odd.0 in
    ap (text_status asked.Page i) odd.1 ∙ whole_page i s odd.2 ∙ short_page i s odd.3
    ∙ cond-false (are_plain i s) status.Done status.NotPlain odd.4
unplain_asked asked.Picture i is odd = absurd (grind (arith, is))

refusal_asked : (a : Drawing) (i : List ℕ) (s : Status) → IsOfText s → IsRefusal a i s → text_status a i (schedule_of i) ≡ s
refusal_asked a i (status.BadInput line) told why = ap (text_status a i) why
refusal_asked a i status.TooManyEvents told why = too_many_asked a i why.0 why.1
refusal_asked a i status.Limit told why = too_large_asked a i why
refusal_asked a i status.TooMuchText told why = too_much_asked a i why.0 why.1
refusal_asked a i status.NotPlain told why = unplain_asked a i why.0 why.1
refusal_asked a i status.Done told why = absurd told
refusal_asked a i status.Usage told why = absurd told
refusal_asked a i status.ReadFault told why = absurd told
refusal_asked a i status.WriteFault told why = absurd told
refusal_asked a i status.NoMemory told why = absurd told

refused_asked : (a : Drawing) (i : List ℕ) (s : Status) → IsOfText s → IsRefused a i s → status_of a i ≡ s
refused_asked a i s told (inl long) = long_asked a i long.1 ∙ sym long.0
refused_asked a i s told (inr short) = short_asked a i short.0 ∙ refusal_asked a i s told short.1

-- from what holds of the input to what it asks for
module _ (Unchanged : Type 0) (a : Drawing) (parts : PageParts) (left rest old new : Option (List ℕ)) where
  told_is : (s : Status) → IsOfText s → IsOutcome Unchanged a parts left rest old new s → OfInput left (λ i. status_of a i ≡ s)
  told_is s told is = weaker left (λ i. IsRefused a i s) (λ i. status_of a i ≡ s) (λ i. refused_asked a i s told) (is.refused told)

  pub decided_is : (s : Status) → IsOutcome Unchanged a parts left rest old new s → IsDecided a left s
  decided_is (status.BadInput line) is = told_is (status.BadInput line) tt is
  decided_is status.TooManyEvents is = told_is status.TooManyEvents tt is
  decided_is status.Limit is = told_is status.Limit tt is
  decided_is status.TooMuchText is = told_is status.TooMuchText tt is
  decided_is status.NotPlain is = told_is status.NotPlain tt is
  decided_is status.Done is =
      weaker left (λ i. IsDrawn a parts i old new) (λ i. status_of a i ≡ status.Done)
      (λ i drawn. made_asked a parts i drawn.drawn drawn.small drawn.made) (is.done refl)
  decided_is status.WriteFault is =
      weaker left (λ i. IsFront a parts i old new) (λ i. status_of a i ≡ status.Done)
      (λ i front. made_asked a parts i front.drawn front.small front.made) (is.front refl)
  decided_is status.Usage is = tt
  decided_is status.ReadFault is = tt
  decided_is status.NoMemory is = tt
