-- A history with what happened at one event more.
use Rattle.std.proofs.Common.{◌≡◌, ℕ, ◌+◌, ◌≤◌, Bool, cond, List, [], ◌∷◌, ◌++◌, length, ap, ◌∙◌, length-append, arith}
use Rattle.std.proofs.lemmas.Grind.{flat_map-append}
use Rattle.std.proofs.lemmas.List.{append-nil, length-map}
use Rattle.std.proofs.lemmas.List.Sums.{sum_by-append, count_by-le-length}
use Rattle.vk_types.specs.Types.{EventAnswer, Pid}
use Rattle.vk_schedule.specs.declared.event.Event.{Event}
use Rattle.vk_rules.specs.Entries.{Entry, is_frame_taken}
use Rattle.vk_rules.specs.Histories.{At, Happened, happened, history_of, no_entries}
use Rattle.vk_cluster.specs.Standing.{logs_of}
use Rattle.vk_cluster.proofs.Logs.{history_more}
use Rattle.vk_drive.specs.Tasks.{settings}
use Rattle.vk_drive.specs.declared.counts.StormCounts.{StormCounts}
use Rattle.vk_drive.specs.Driving.{AreLow, counts_of, counts_with, one_if}
use Rattle.vk_drive.specs.Told.{all_emitted, answered_in, answered_to, count_answered, emitted_in, has_answer, is_old, is_timed_out, tells_answer}

module _ (hs : List Happened) (h : Happened) where
  pub emitted_more : all_emitted (hs ++ h ∷ []) ≡ all_emitted hs ++ emitted_in h
  emitted_more = flat_map-append emitted_in hs (h ∷ []) ∙ ap (λ l. all_emitted hs ++ l) (append-nil (emitted_in h))

  pub answered_more : (pid : Pid) → answered_to pid (hs ++ h ∷ []) ≡ answered_to pid hs ++ answered_in pid h
  answered_more pid =
      flat_map-append (answered_in pid) hs (h ∷ []) ∙ ap (λ l. answered_to pid hs ++ l) (append-nil (answered_in pid h))

  pub count_more : (test : EventAnswer → Bool) → count_answered test (hs ++ h ∷ []) ≡ count_answered test hs + one_if (has_answer test h)
  count_more test =
      let before = count_answered test hs in
      let last = one_if (has_answer test h) in
      let one : before + (0 + last) ≡ before + last = omega arith in
      sum_by-append (λ x. cond (has_answer test x) 1 0) hs (h ∷ []) ∙ one

  pub frames_count : length (all_emitted (hs ++ h ∷ [])) ≡ length (all_emitted hs) + length (emitted_in h)
  frames_count = ap length emitted_more ∙ length-append (all_emitted hs) (emitted_in h)

-- what happens at one event more
pub history_with : (es : List Event) (e : Event) (h : Happened) → happened settings (logs_of settings es) e ≡ h →
    history_of settings (es ++ e ∷ []) ≡ history_of settings es ++ h ∷ []
history_with es e h is = history_more settings es no_entries e ∙ ap (λ x. history_of settings es ++ x ∷ []) is

-- the numbers, with an entry more
pub counts_at : (hs : List Happened) (host event : ℕ) (e : Entry) →
    counts_of (hs ++ At host event e ∷ []) ≡ counts_with (counts_of hs) (length e.frames) e.answer
counts_at hs host event e =
    let h : Happened = At host event e in
    let frames : length (all_emitted (hs ++ h ∷ [])) ≡ length (all_emitted hs) + length e.frames =
    frames_count hs h ∙ ap (λ n. length (all_emitted hs) + n) (length-map e.frames (λ f. f.header)) in
    (λ i. record {
      frames = frames i;
      taken = count_more hs h is_frame_taken i;
      late = count_more hs h is_old i;
      answers = count_more hs h tells_answer i;
      timedout = count_more hs h is_timed_out i;
    })

-- there is room in the numbers for one event more
pub low : (hs : List Happened) (counts : StormCounts) → counts ≡ counts_of hs → length hs ≤ 100000 → AreLow counts
low hs counts are few =
    let taken : counts.taken ≡ count_answered is_frame_taken hs = ap (λ (c : StormCounts). c.taken) are in
    let late : counts.late ≡ count_answered is_old hs = ap (λ (c : StormCounts). c.late) are in
    let answers : counts.answers ≡ count_answered tells_answer hs = ap (λ (c : StormCounts). c.answers) are in
    let timedout : counts.timedout ≡ count_answered is_timed_out hs = ap (λ (c : StormCounts). c.timedout) are in
    let one = count_by-le-length (has_answer is_frame_taken) hs in
    let two = count_by-le-length (has_answer is_old) hs in
    let three = count_by-le-length (has_answer tells_answer) hs in
    let four = count_by-le-length (has_answer is_timed_out) hs in
    record {
      taken = omega (arith, taken, one, few);
      late = omega (arith, late, two, few);
      answers = omega (arith, answers, three, few);
      timedout = omega (arith, timedout, four, few);
    }
