-- Steps have one spelling each.
use Rattle.std.proofs.Common.{◌≡◌, ℕ, ◌-◌, ◌^◌, cond, List, [], ◌∷◌, decimal, codes, bytes_eq, true, Option, Some, refl, arith, ap, sym, ◌∙◌}
use Rattle.std.proofs.lemmas.Option.{cond_some}
use Rattle.vk_types.specs.Types.{Ending, Pid, Step}
use Rattle.vk_base.specs.Options.{◌>>=◌}
use Rattle.vk_base.specs.declared.answer.Ending.TheVariants as endings
use Rattle.vk_base.specs.declared.step.Step.TheVariants as steps
use Rattle.vk_base.proofs.OptionLemmas.{bind_is}
use Rattle.vk_text.specs.Calls.{call_of}
use Rattle.vk_text.specs.Laws.{IsOrdinal}
use Rattle.vk_text.specs.Spelling.{pid_text}
use Rattle.vk_text.specs.Words.{count_of, pid_of}
use Rattle.vk_text.proofs.CallWords.{call_spelled, call_read}
use Rattle.vk_text.proofs.Firsts.{first_spelled, ended_is}
use Rattle.vk_text.proofs.Spelled.{either_word, positive_spelled, positive_read, count_spelled, count_read, pid_spelled, pid_read}
use Rattle.v_trace.specs.Laws.{IsFailure, IsEnding, IsReadableStep, StepWordsAreSpelledOnce}
use Rattle.v_trace.specs.Steps.{ordinal_of, failure_of, ending_of, last_as, call_step_of, pid_step_of, arrive_of, fail_of, open_of, copy_of, end_of, hear_of, found_of, step_of}
use Rattle.v_trace.specs.Texts.{ending_text, step_words}

ordinal_spelled : (n : ℕ) (word : List ℕ) → ordinal_of word ≡ Some n → word ≡ decimal n
ordinal_spelled n word h = (positive_spelled (2 ^ 63 - 1) n word (omega arith) h).0

ordinal_read : (n : ℕ) → IsOrdinal n → ordinal_of (decimal n) ≡ Some n
ordinal_read n h = positive_read (2 ^ 63 - 1) n (omega arith) h.0 (omega arith)

same_ending : (a b : Ending) → Some a ≡ Some b → a ≡ b
same_ending a b h = (cond_some true a b h).1

-- the word is that of this ending, or another
ending_named : (e it : Ending) (word : List ℕ) (y : Option Ending) → (y ≡ Some e → word ≡ ending_text e)
    → cond (bytes_eq word (ending_text it)) (Some it) y ≡ Some e → word ≡ ending_text e
ending_named e it word y other h =
    either_word (word ≡ ending_text e) word (ending_text it) (Some it) y (Some e) (λ w f. w ∙ ap ending_text (same_ending it e f)) other h

failure_spelled : (e : Ending) (word : List ℕ) → failure_of word ≡ Some e → word ≡ ending_text e
failure_spelled e word h = ending_named e endings.NoProcess word _ (ending_named e endings.TimedOut word _ (λ none. cc)) h

ending_spelled : (e : Ending) (word : List ℕ) → ending_of word ≡ Some e → word ≡ ending_text e
ending_spelled e word h =
    ending_named e endings.Ok word _ (ending_named e endings.TimedOut word _ (ending_named e endings.Gone word _ (λ none. cc))) h

failure_read : (e : Ending) → IsFailure e → failure_of (ending_text e) ≡ Some e
failure_read endings.NoProcess h = refl
failure_read endings.TimedOut h = refl
failure_read endings.Ok h = absurd h
failure_read endings.Gone h = absurd h

ending_read : (e : Ending) → IsEnding e → ending_of (ending_text e) ≡ Some e
ending_read endings.Ok h = refl
ending_read endings.TimedOut h = refl
ending_read endings.Gone h = refl
ending_read endings.NoProcess h = absurd h

-- the only word is the text of what is read
last_spelled : {A B : Type 0} (spelled : List ℕ → Option A) (text : A → List ℕ) → ((a : A) (w : List ℕ) → spelled w ≡ Some a → w ≡ text a)
    → (next : A → Option B) (b : B) (ws : List (List ℕ)) → (last_as spelled ws >>= next) ≡ Some b
    → (a : A) × (ws ≡ text a ∷ []) × (next a ≡ Some b)
last_spelled spelled text is next b ws h =
    let read = bind_is (last_as spelled ws) next b h in
    let first = first_spelled spelled text is _ read.0 ws read.1 in
    let end = ended_is first.1 first.0 read.0 first.3 in
    (read.0, first.2 ∙ ap (λ l. text first.0 ∷ l) end.0 ∙ ap (λ a. text a ∷ []) end.1, read.2)

same_step : (a b : Step) → Some a ≡ Some b → a ≡ b
same_step a b h = (cond_some true a b h).1

call_step_spelled : (ws : List (List ℕ)) (s : Step) → call_step_of ws ≡ Some s → codes "call" ∷ ws ≡ step_words s
unfolding call_step_of step_words
call_step_spelled ws s h =
    let pid = first_spelled pid_of pid_text pid_spelled _ s ws h in
    let call = bind_is (call_of pid.1) _ s pid.3 in
    let end = same_step _ s call.2 in
    ap (λ l. codes "call" ∷ l) (pid.2 ∙ ap (λ l. pid_text pid.0 ∷ l) (call_spelled pid.1 call.0 call.1)) ∙ ap step_words end

pid_step_spelled : (word : List ℕ) (make : Pid → Step) → ((pid : Pid) → step_words (make pid) ≡ word ∷ pid_text pid ∷ [])
    → (ws : List (List ℕ)) (s : Step) → pid_step_of make ws ≡ Some s → word ∷ ws ≡ step_words s
unfolding pid_step_of
pid_step_spelled word make is ws s h =
    let pid = last_spelled pid_of pid_text pid_spelled _ s ws h in
    let end = same_step _ s pid.2 in
    ap (λ l. word ∷ l) pid.1 ∙ sym (is pid.0) ∙ ap step_words end

arrive_spelled : (ws : List (List ℕ)) (s : Step) → arrive_of ws ≡ Some s → codes "arrive" ∷ ws ≡ step_words s
unfolding arrive_of step_words
arrive_spelled ws s h =
    let sender = first_spelled pid_of pid_text pid_spelled _ s ws h in
    let number = last_spelled ordinal_of decimal ordinal_spelled _ s sender.1 sender.3 in
    let end = same_step _ s number.2 in
    ap (λ l. codes "arrive" ∷ l) (sender.2 ∙ ap (λ l. pid_text sender.0 ∷ l) number.1) ∙ ap step_words end

fail_spelled : (ws : List (List ℕ)) (s : Step) → fail_of ws ≡ Some s → codes "fail" ∷ ws ≡ step_words s
unfolding fail_of step_words
fail_spelled ws s h =
    let pid = first_spelled pid_of pid_text pid_spelled _ s ws h in
    let why = last_spelled failure_of ending_text failure_spelled _ s pid.1 pid.3 in
    let end = same_step _ s why.2 in
    ap (λ l. codes "fail" ∷ l) (pid.2 ∙ ap (λ l. pid_text pid.0 ∷ l) why.1) ∙ ap step_words end

open_spelled : (ws : List (List ℕ)) (s : Step) → open_of ws ≡ Some s → codes "open" ∷ ws ≡ step_words s
unfolding open_of step_words
open_spelled ws s h =
    let sender = first_spelled pid_of pid_text pid_spelled _ s ws h in
    let number = first_spelled ordinal_of decimal ordinal_spelled _ s sender.1 sender.3 in
    let moving = last_spelled ordinal_of decimal ordinal_spelled _ s number.1 number.3 in
    let end = same_step _ s moving.2 in
    ap (λ l. codes "open" ∷ l) (sender.2 ∙ ap (λ l. pid_text sender.0 ∷ l) (number.2 ∙ ap (λ l. decimal number.0 ∷ l) moving.1))
    ∙ ap step_words end

copy_spelled : (ws : List (List ℕ)) (s : Step) → copy_of ws ≡ Some s → codes "copy" ∷ ws ≡ step_words s
unfolding copy_of step_words
copy_spelled ws s h =
    let sender = first_spelled pid_of pid_text pid_spelled _ s ws h in
    let number = first_spelled ordinal_of decimal ordinal_spelled _ s sender.1 sender.3 in
    let moving = first_spelled ordinal_of decimal ordinal_spelled _ s number.1 number.3 in
    let offset = first_spelled count_of decimal count_spelled _ s moving.1 moving.3 in
    let count = last_spelled count_of decimal count_spelled _ s offset.1 offset.3 in
    let end = same_step _ s count.2 in
    ap (λ l. codes "copy" ∷ l) (sender.2 ∙ ap (λ l. pid_text sender.0 ∷ l)
    (number.2 ∙ ap (λ l. decimal number.0 ∷ l)
    (moving.2 ∙ ap (λ l. decimal moving.0 ∷ l) (offset.2 ∙ ap (λ l. decimal offset.0 ∷ l) count.1)))) ∙ ap step_words end

end_spelled : (ws : List (List ℕ)) (s : Step) → end_of ws ≡ Some s → codes "end" ∷ ws ≡ step_words s
unfolding end_of step_words
end_spelled ws s h =
    let pid = first_spelled pid_of pid_text pid_spelled _ s ws h in
    let why = last_spelled ending_of ending_text ending_spelled _ s pid.1 pid.3 in
    let end = same_step _ s why.2 in
    ap (λ l. codes "end" ∷ l) (pid.2 ∙ ap (λ l. pid_text pid.0 ∷ l) why.1) ∙ ap step_words end

hear_spelled : (ws : List (List ℕ)) (s : Step) → hear_of ws ≡ Some s → codes "hear" ∷ ws ≡ step_words s
unfolding hear_of step_words
hear_spelled ws s h =
    let asker = first_spelled pid_of pid_text pid_spelled _ s ws h in
    let number = first_spelled ordinal_of decimal ordinal_spelled _ s asker.1 asker.3 in
    let pid = last_spelled pid_of pid_text pid_spelled _ s number.1 number.3 in
    let end = same_step _ s pid.2 in
    ap (λ l. codes "hear" ∷ l) (asker.2 ∙ ap (λ l. pid_text asker.0 ∷ l) (number.2 ∙ ap (λ l. decimal number.0 ∷ l) pid.1))
    ∙ ap step_words end

found_spelled : (ws : List (List ℕ)) (s : Step) → found_of ws ≡ Some s → codes "found" ∷ ws ≡ step_words s
unfolding found_of step_words
found_spelled ws s h =
    let asker = first_spelled pid_of pid_text pid_spelled _ s ws h in
    let pid = last_spelled pid_of pid_text pid_spelled _ s asker.1 asker.3 in
    let end = same_step _ s pid.2 in
    ap (λ l. codes "found" ∷ l) (asker.2 ∙ ap (λ l. pid_text asker.0 ∷ l) pid.1) ∙ ap step_words end

-- the first word is this one, or the step is another
named : (w word : List ℕ) (ws : List (List ℕ)) (s : Step) (x y : Option Step) → (x ≡ Some s → word ∷ ws ≡ step_words s)
    → (y ≡ Some s → w ∷ ws ≡ step_words s) → cond (bytes_eq w word) x y ≡ Some s → w ∷ ws ≡ step_words s
named w word ws s x y is other h = either_word (w ∷ ws ≡ step_words s) w word x y (Some s) (λ e f. ap (λ l. l ∷ ws) e ∙ is f) other h

-- words that read as a step are that step's words
pub step_spelled : (ws : List (List ℕ)) (s : Step) → step_of ws ≡ Some s → ws ≡ step_words s
unfolding step_words
step_spelled [] s h = cc
step_spelled (w ∷ ws) s h =
    named w (codes "call") ws s _ _ (call_step_spelled ws s)
    (named w (codes "arrive") ws s _ _ (arrive_spelled ws s)
    (named w (codes "take") ws s _ _ (pid_step_spelled (codes "take") (λ p. steps.Take p) (λ p. refl) ws s)
    (named w (codes "finish") ws s _ _ (pid_step_spelled (codes "finish") (λ p. steps.Finish p) (λ p. refl) ws s)
    (named w (codes "fail") ws s _ _ (fail_spelled ws s)
    (named w (codes "open") ws s _ _ (open_spelled ws s)
    (named w (codes "copy") ws s _ _ (copy_spelled ws s)
    (named w (codes "end") ws s _ _ (end_spelled ws s)
    (named w (codes "hear") ws s _ _ (hear_spelled ws s)
    (named w (codes "found") ws s _ _ (found_spelled ws s)
    (named w (codes "lost") ws s _ _ (pid_step_spelled (codes "lost") (λ p. steps.Lost p) (λ p. refl) ws s)
    (named w (codes "collect") ws s _ _ (pid_step_spelled (codes "collect") (λ p. steps.Collect p) (λ p. refl) ws s)
    (λ none. cc)))))))))))) h

-- a step's words read as it
pub step_read : (s : Step) → IsReadableStep s → step_of (step_words s) ≡ Some s
unfolding step_words call_step_of pid_step_of arrive_of fail_of open_of copy_of end_of hear_of found_of
step_read (steps.Call pid call) h = rw (pid_read pid h.0, call_read call h.1) refl
step_read (steps.Arrive sender number) h = rw (pid_read sender h.0, ordinal_read number h.1) refl
step_read (steps.Take pid) h = rw (pid_read pid h) refl
step_read (steps.Finish pid) h = rw (pid_read pid h) refl
step_read (steps.Fail pid why) h = rw (pid_read pid h.0, failure_read why h.1) refl
step_read (steps.OpenMove sender number moving) h = rw (pid_read sender h.0, ordinal_read number h.1, ordinal_read moving h.2) refl
step_read (steps.Copy sender number moving offset count) h =
    rw (pid_read sender h.0, ordinal_read number h.1, ordinal_read moving h.2, count_read offset h.3, count_read count h.4) refl
step_read (steps.End pid why) h = rw (pid_read pid h.0, ending_read why h.1) refl
step_read (steps.Hear asker number pid) h = rw (pid_read asker h.0, ordinal_read number h.1, pid_read pid h.2) refl
step_read (steps.Found asker pid) h = rw (pid_read asker h.0, pid_read pid h.1) refl
step_read (steps.Lost asker) h = rw (pid_read asker h) refl
step_read (steps.Collect pid) h = rw (pid_read pid h) refl

pub step_words_once : StepWordsAreSpelledOnce
step_words_once s ws h = (λ e. step_spelled ws s e, λ e. ap step_of e ∙ step_read s h)
