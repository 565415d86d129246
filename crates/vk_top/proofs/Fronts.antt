-- How many events of a schedule are taken, and what is written of them.
use Rattle.std.proofs.Common.{◌≡◌, ℕ, zero, suc, ◌+◌, ◌<◌, ◌≤◌, true, false, nat_lt, List, [], ◌∷◌, ◌++◌, flat_map, length, take, drop, get_or, refl, sym, ap, subst, ◌∙◌, inl, inr, append_assoc, arith}
use Rattle.std.specs.Prelude.{sum_by}
use Rattle.std.proofs.lemmas.Bool.{cases_Bool, cond-true, cond-false, le-ltb, lt-ltb, ltb-false, ltb-true}
use Rattle.std.proofs.lemmas.List.{append-nil, drop_all, drop_more, length-append, length-take-le, take_all, take_more}
use Rattle.std.proofs.lemmas.List.Concat.{flat_map-append, flat_map-cons}
use Rattle.std.proofs.lemmas.List.Sums.{sum_by-append, sum_by-cons}
use Rattle.vk_base.specs.Settings.{Settings}
use Rattle.vk_cluster.specs.declared.emitted.TheConstants.{LAST_BYTES}
use Rattle.vk_cluster.specs.Standing.{emitted_bytes, event_bytes, logs_of}
use Rattle.vk_cluster.proofs.Logs.{bytes_next, history_more, logs_next}
use Rattle.vk_schedule.specs.declared.event.Event.{Event}
use Rattle.vk_schedule.specs.declared.schedule.Schedule.{Schedule}
use Rattle.vk_report.specs.declared.entry.Counts.{Counts}
use Rattle.vk_report.specs.declared.entry.Form.{Form}
use Rattle.vk_report.specs.Histories.{Told, told_lines}
use Rattle.vk_report.specs.Report.{end_lines, opening_lines}
use Rattle.vk_rules.specs.Histories.{Happened, Logs, logs_after, no_entries}
unfoldable use Rattle.vk_rules.specs.Histories.{happened, history, logs_from}
use Rattle.vk_rules.specs.Observed.{all_steps, steps_in}
use Rattle.vk_rules.proofs.OneHistory.{histories_have_all}
use Rattle.vk_top.specs.Playing.{counts_after}
use Rattle.vk_top.specs.Report.{counts_of, frame_count, front_text, history_before, history_of_schedule, is_cut, output_text, taken_from, taken_of, told_from, told_of, written_text}

-- The history of the first events is the front of the history.
history_take : (c : Settings) (logs : Logs) (es : List Event) (n : ℕ) → history c logs (take n es) ≡ take n (history c logs es)
unfolding history
history_take c logs [] zero = refl
history_take c logs [] (suc n) = refl
history_take c logs (e ∷ es) zero = refl
history_take c logs (e ∷ es) (suc n) = ap (λ hs. happened c logs e ∷ hs) (history_take c (logs_after logs (happened c logs e)) es n)

-- one event more
module _ (s : Schedule) (n : ℕ) (e : Event) (low : n < length s.events) (is : e ≡ get_or s.events n e) where
  abbrev happens : Happened
  happens = happened s.config (logs_of s.config (take n s.events)) e

  pub taken_more : take (n + 1) s.events ≡ take n s.events ++ e ∷ []
  taken_more = take_more s.events n e low ∙ ap (λ x. take n s.events ++ x ∷ []) (sym is)

  history_next : history_before (n + 1) s ≡ history_before n s ++ happens ∷ []
  history_next = ap (history s.config no_entries) taken_more ∙ history_more s.config (take n s.events) no_entries e

-- lines and counts of one more
told_more : (n : ℕ) (hs : List Happened) (h : Happened) → told_from n (hs ++ h ∷ []) ≡ told_from n hs ++ told_of (n + length hs + 1) h ∷ []
told_more n [] h = let same : n + 1 ≡ n + 0 + 1 = omega arith in ap (λ m. told_of m h ∷ []) same
told_more n (x ∷ xs) h =
    let same : n + 1 + length xs + 1 ≡ n + suc (length xs) + 1 = omega arith in
    ap (λ ts. told_of (n + 1) x ∷ ts) (told_more (n + 1) xs h ∙ ap (λ m. told_from (n + 1) xs ++ told_of m h ∷ []) same)

one_told : (form : Form) (t : Told) → flat_map (told_lines form) (t ∷ []) ≡ told_lines form t
one_told form t = flat_map-cons (told_lines form) t [] ∙ append-nil (told_lines form t)

counts : ℕ → ℕ → ℕ → Counts
counts events steps frames = record { events = events; steps = steps; frames = frames }

counts_more : (hs : List Happened) (h : Happened) → counts_of (hs ++ h ∷ []) ≡ counts_after (counts_of hs) h
unfolding counts
counts_more hs h =
    let events : length (hs ++ h ∷ []) ≡ length hs + 1 = length-append hs (h ∷ []) in
    let steps : length (all_steps (hs ++ h ∷ [])) ≡ length (all_steps hs) + length (steps_in h) =
    ap length (flat_map-append steps_in hs (h ∷ []) ∙ ap (λ ss. all_steps hs ++ ss) (flat_map-cons steps_in h [] ∙ append-nil (steps_in h)))
    ∙ length-append (all_steps hs) (steps_in h) in
    let one : sum_by frame_count hs + (0 + frame_count h) ≡ sum_by frame_count hs + frame_count h = omega arith in
    let frames : sum_by frame_count (hs ++ h ∷ []) ≡ sum_by frame_count hs + frame_count h =
    sum_by-append frame_count hs (h ∷ []) ∙ one in
    (λ i. counts (events i) (steps i) (frames i))

pub front_next : (form : Form) (s : Schedule) (n : ℕ) (e : Event) → n < length s.events → e ≡ get_or s.events n e →
    front_text form (n + 1) s
    ≡ front_text form n s ++ told_lines form (told_of (n + 1) (happened s.config (logs_of s.config (take n s.events)) e))
front_next form s n e low is =
    let h = happened s.config (logs_of s.config (take n s.events)) e in
    let hs = history_before n s in
    let start = opening_lines form s.config.specs in
    let many : 0 + length hs + 1 ≡ n + 1 =
    omega (arith, histories_have_all s.config (take n s.events), length-take-le n s.events (omega arith)) in
    ap (λ l. start ++ flat_map (told_lines form) (told_from 0 l)) (history_next s n e low is)
    ∙ ap (λ ts. start ++ flat_map (told_lines form) ts) (told_more 0 hs h)
    ∙ ap (λ l. start ++ l) (flat_map-append (told_lines form) (told_from 0 hs) (told_of (0 + length hs + 1) h ∷ []))
    ∙ ap (λ l. start ++ (flat_map (told_lines form) (told_from 0 hs) ++ l)) (one_told form (told_of (0 + length hs + 1) h))
    ∙ ap (λ m. start ++ (flat_map (told_lines form) (told_from 0 hs) ++ told_lines form (told_of m h))) many
    ∙ sym (append_assoc start (flat_map (told_lines form) (told_from 0 hs)) (told_lines form (told_of (n + 1) h)))

pub counts_next : (s : Schedule) (n : ℕ) (e : Event) → n < length s.events → e ≡ get_or s.events n e →
    counts_of (history_before (n + 1) s)
    ≡ counts_after (counts_of (history_before n s)) (happened s.config (logs_of s.config (take n s.events)) e)
counts_next s n e low is =
    ap counts_of (history_next s n e low is)
    ∙ counts_more (history_before n s) (happened s.config (logs_of s.config (take n s.events)) e)

-- how many of what is left behind the first so many are taken
abbrev pub left_taken : Schedule → ℕ → ℕ
left_taken s n =
    taken_from (emitted_bytes (history_before n s)) (history s.config (logs_of s.config (take n s.events)) (drop n s.events))

pub none_taken : (s : Schedule) → taken_of s ≡ 0 + left_taken s 0
unfolding history logs_from
none_taken s = let same : taken_of s ≡ 0 + taken_of s = omega arith in same

module _ (s : Schedule) (n : ℕ) (e : Event) (low : n < length s.events) (is : e ≡ get_or s.events n e) where
  abbrev then_happens : Happened
  then_happens = happened s.config (logs_of s.config (take n s.events)) e

  left_is : history s.config (logs_of s.config (take n s.events)) (drop n s.events)
      ≡ then_happens ∷ history s.config (logs_of s.config (take (n + 1) s.events)) (drop (n + 1) s.events)
  unfolding history
  left_is =
      ap (history s.config (logs_of s.config (take n s.events)))
      (drop_more s.events n e low ∙ ap (λ x. x ∷ drop (n + 1) s.events) (sym is))
      ∙ ap (λ logs. then_happens ∷ history s.config logs (drop (n + 1) s.events))
      (sym (ap (logs_of s.config) (taken_more s n e low is) ∙ logs_next s.config (take n s.events) e))

  bytes_more : emitted_bytes (history_before n s) + event_bytes then_happens ≡ emitted_bytes (history_before (n + 1) s)
  bytes_more =
      sym (ap (λ es. emitted_bytes (history s.config no_entries es)) (taken_more s n e low is) ∙ bytes_next s.config (take n s.events) e)

  -- one more is taken
  pub takes_next : nat_lt LAST_BYTES (emitted_bytes (history_before n s)) ≡ false → taken_of s ≡ n + left_taken s n →
      taken_of s ≡ n + 1 + left_taken s (n + 1)
  takes_next room so_far =
      let rest = history s.config (logs_of s.config (take (n + 1) s.events)) (drop (n + 1) s.events) in
      let more : left_taken s n ≡ suc (left_taken s (n + 1)) =
      ap (taken_from (emitted_bytes (history_before n s))) left_is
      ∙ cond-false (nat_lt LAST_BYTES (emitted_bytes (history_before n s))) 0
      (suc (taken_from (emitted_bytes (history_before n s) + event_bytes then_happens) rest)) room
      ∙ ap (λ b. suc (taken_from b rest)) bytes_more in
      omega (arith, so_far, more)

  -- or it is refused
  pub takes_no_more : nat_lt LAST_BYTES (emitted_bytes (history_before n s)) ≡ true → taken_of s ≡ n + left_taken s n → taken_of s ≡ n
  takes_no_more full so_far =
      let rest = history s.config (logs_of s.config (take (n + 1) s.events)) (drop (n + 1) s.events) in
      let none : left_taken s n ≡ 0 =
      ap (taken_from (emitted_bytes (history_before n s))) left_is
      ∙ cond-true (nat_lt LAST_BYTES (emitted_bytes (history_before n s))) 0
      (suc (taken_from (emitted_bytes (history_before n s) + event_bytes then_happens) rest)) full in
      omega (arith, so_far, none)

-- no event is left
pub takes_all : (s : Schedule) (n : ℕ) → length s.events ≤ n → taken_of s ≡ n + left_taken s n → taken_of s ≡ n
unfolding history
takes_all s n all so_far =
    let none : left_taken s n ≡ 0 =
    ap (λ es. taken_from (emitted_bytes (history_before n s)) (history s.config (logs_of s.config (take n s.events)) es))
    (drop_all n s.events all) in
    omega (arith, so_far, none)

-- What is written.

pub cut_is : (s : Schedule) (n : ℕ) → n < length s.events → taken_of s ≡ n → is_cut s ≡ true
cut_is s n low is = ap (λ m. nat_lt m (length s.events)) is ∙ lt-ltb n (length s.events) low

pub whole_is : (s : Schedule) (n : ℕ) → length s.events ≤ n → taken_of s ≡ n → is_cut s ≡ false
whole_is s n all is = ap (λ m. nat_lt m (length s.events)) is ∙ le-ltb n (length s.events) all

pub cut_text : (form : Form) (s : Schedule) (n : ℕ) → n < length s.events → taken_of s ≡ n → front_text form n s ≡ written_text form s
cut_text form s n low is =
    ap (λ m. front_text form m s) (sym is)
    ∙ sym (cond-true (is_cut s) (front_text form (taken_of s) s) (output_text form s) (cut_is s n low is))

pub whole_text : (form : Form) (s : Schedule) (n : ℕ) → length s.events ≤ n → taken_of s ≡ n →
    front_text form n s ++ end_lines form (counts_of (history_before n s)) ≡ written_text form s
whole_text form s n all is =
    ap (λ es. (opening_lines form s.config.specs ++ flat_map (told_lines form) (told_from 0 (history s.config no_entries es)))
    ++ end_lines form (counts_of (history s.config no_entries es))) (take_all n s.events all)
    ∙ sym (cond-false (is_cut s) (front_text form (taken_of s) s) (output_text form s) (whole_is s n all is))

-- What that says of the bytes that are emitted before each event.

low_by : (b : ℕ) (h : Happened) (hs : List Happened) (n : ℕ) → b ≤ LAST_BYTES →
    ((m : ℕ) → m < taken_from (b + event_bytes h) hs → b + event_bytes h + emitted_bytes (take m hs) ≤ LAST_BYTES) →
    n < suc (taken_from (b + event_bytes h) hs) → b + emitted_bytes (take n (h ∷ hs)) ≤ LAST_BYTES
low_by b h hs zero fits rest low = omega (arith, fits)
low_by b h hs (suc m) fits rest low =
    let behind = rest m (omega (arith, low)) in omega (arith, behind, sum_by-cons event_bytes h (take m hs))

taken_low : (b : ℕ) (hs : List Happened) (n : ℕ) → n < taken_from b hs → b + emitted_bytes (take n hs) ≤ LAST_BYTES
taken_low b [] n low = absurd (omega (arith, low))
taken_low b (h ∷ hs) n low =
    let rest = taken_low (b + event_bytes h) hs in
    elim (cases_Bool (nat_lt LAST_BYTES b)) [
      | inl full ↦
          let none : taken_from b (h ∷ hs) ≡ 0 = cond-true (nat_lt LAST_BYTES b) 0 (suc (taken_from (b + event_bytes h) hs)) full in
          absurd (omega (arith, low, none))
      | inr room ↦
          let more : taken_from b (h ∷ hs) ≡ suc (taken_from (b + event_bytes h) hs) =
          cond-false (nat_lt LAST_BYTES b) 0 (suc (taken_from (b + event_bytes h) hs)) room in
          low_by b h hs n (ltb-false LAST_BYTES b room) rest (omega (arith, low, more))
    ]

taken_full : (b : ℕ) (hs : List Happened) → taken_from b hs < length hs → LAST_BYTES < b + emitted_bytes (take (taken_from b hs) hs)
taken_full b [] low = absurd (omega (arith, low))
taken_full b (h ∷ hs) low =
    let t = taken_from (b + event_bytes h) hs in
    let rest = taken_full (b + event_bytes h) hs in
    let P : ℕ → Type 0 = λ m. LAST_BYTES < b + emitted_bytes (take m (h ∷ hs)) in
    elim (cases_Bool (nat_lt LAST_BYTES b)) [
      | inl full ↦
          let none : taken_from b (h ∷ hs) ≡ 0 = cond-true (nat_lt LAST_BYTES b) 0 (suc t) full in
          let over : LAST_BYTES < b = ltb-true LAST_BYTES b full in
          subst P (sym none) (omega (arith, over))
      | inr room ↦
          let more : taken_from b (h ∷ hs) ≡ suc t = cond-false (nat_lt LAST_BYTES b) 0 (suc t) room in
          let over : LAST_BYTES < b + event_bytes h + emitted_bytes (take t hs) = rest (omega (arith, low, more)) in
          subst P (sym more) (omega (arith, over, sum_by-cons event_bytes h (take t hs)))
    ]

front_bytes : (s : Schedule) (n : ℕ) → emitted_bytes (history_before n s) ≡ emitted_bytes (take n (history_of_schedule s))
front_bytes s n = ap emitted_bytes (history_take s.config no_entries s.events n)

-- before each event that is taken they are not too many
pub fits_before : (s : Schedule) (n : ℕ) → n < taken_of s → emitted_bytes (history_before n s) ≤ LAST_BYTES
fits_before s n low =
    let fits = taken_low 0 (history_of_schedule s) n low in
    omega (arith, fits, front_bytes s n)

pub fits_all : (s : Schedule) → is_cut s ≡ false → (n : ℕ) → n < length s.events → emitted_bytes (history_before n s) ≤ LAST_BYTES
fits_all s whole n low = fits_before s n (omega (arith, low, ltb-false (taken_of s) (length s.events) whole))

-- and before the one that is refused they are
pub refused_within : (s : Schedule) → is_cut s ≡ true → taken_of s < length s.events
refused_within s cut = ltb-true (taken_of s) (length s.events) cut

pub full_before : (s : Schedule) → is_cut s ≡ true → LAST_BYTES < emitted_bytes (history_before (taken_of s) s)
full_before s cut =
    let within : taken_of s < length (history_of_schedule s) =
    omega (arith, refused_within s cut, histories_have_all s.config s.events) in
    let over = taken_full 0 (history_of_schedule s) within in
    omega (arith, over, front_bytes s (taken_of s))
