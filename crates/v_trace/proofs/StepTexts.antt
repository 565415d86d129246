-- Steps as lines.
use Rattle.std.proofs.Common.{◌≡◌, ℕ, ◌<◌, List, length, codes, Some, None, refl, arith, ap, sym, ◌∙◌}
use Rattle.std.specs.List.{AllByRecursion}
use Rattle.vk_types.specs.Types.{Ending, Step}
use Rattle.vk_base.specs.declared.answer.Ending.TheVariants as endings
use Rattle.vk_base.specs.declared.step.Step.TheVariants as steps
use Rattle.vk_text.specs.Heads.{process_of, HasNoFeed}
use Rattle.vk_text.specs.Lines.{words_from}
use Rattle.vk_text.specs.Spelling.{joined}
use Rattle.vk_text.proofs.PlainWords.{IsPlain, letters, ordinal_plain, count_plain, pid_plain, call_plain, no_spaces, no_feeds, joined_no_feed}
use Rattle.vk_text.proofs.ReadBack.{joined_words, line_joined}
use Rattle.v_trace.specs.Laws.{IsReadableStep, StepsAreSpelledOnce}
use Rattle.v_trace.specs.Steps.{step_of}
use Rattle.v_trace.specs.Texts.{ending_text, step_words, step_text}
use Rattle.v_trace.proofs.StepWords.{step_spelled, step_read}

ending_plain : (e : Ending) → IsPlain (ending_text e)
ending_plain endings.Ok = letters (codes "ok") refl
ending_plain endings.NoProcess = letters (codes "noprocess") refl
ending_plain endings.TimedOut = letters (codes "timedout") refl
ending_plain endings.Gone = letters (codes "gone") refl

step_plain : (s : Step) → IsReadableStep s → AllByRecursion IsPlain (step_words s)
unfolding step_words
step_plain (steps.Call pid call) h = (letters (codes "call") refl, (pid_plain pid h.0, call_plain call h.1))
step_plain (steps.Arrive sender number) h = (letters (codes "arrive") refl, (pid_plain sender h.0, (ordinal_plain number h.1.1, tt)))
step_plain (steps.Take pid) h = (letters (codes "take") refl, (pid_plain pid h, tt))
step_plain (steps.Finish pid) h = (letters (codes "finish") refl, (pid_plain pid h, tt))
step_plain (steps.Fail pid why) h = (letters (codes "fail") refl, (pid_plain pid h.0, (ending_plain why, tt)))
step_plain (steps.OpenMove sender number moving) h =
    (letters (codes "open") refl, (pid_plain sender h.0, (ordinal_plain number h.1.1, (ordinal_plain moving h.2.1, tt))))
step_plain (steps.Copy sender number moving offset count) h = (
  letters (codes "copy") refl,
  (
    pid_plain sender h.0,
    (ordinal_plain number h.1.1, (ordinal_plain moving h.2.1, (count_plain offset h.3, (count_plain count h.4, tt)))),
  ),
)
step_plain (steps.End pid why) h = (letters (codes "end") refl, (pid_plain pid h.0, (ending_plain why, tt)))
step_plain (steps.Hear asker number pid) h =
    (letters (codes "hear") refl, (pid_plain asker h.0, (ordinal_plain number h.1.1, (pid_plain pid h.2, tt))))
step_plain (steps.Found asker pid) h = (letters (codes "found") refl, (pid_plain asker h.0, (pid_plain pid h.1, tt)))
step_plain (steps.Lost asker) h = (letters (codes "lost") refl, (pid_plain asker h, tt))
step_plain (steps.Collect pid) h = (letters (codes "collect") refl, (pid_plain pid h, tt))

pub step_no_feed : (s : Step) → IsReadableStep s → HasNoFeed (step_text s)
unfolding step_text
step_no_feed s h = joined_no_feed (step_words s) (no_feeds (step_words s) (step_plain s h))

some_words : (s : Step) → 0 < length (step_words s)
unfolding step_words
some_words s = grind arith

step_parts : (s : Step) → IsReadableStep s → words_from (step_text s) 0 ≡ step_words s
unfolding step_text
step_parts s h = joined_words (step_words s) (some_words s) (no_spaces (step_words s) (step_plain s h))

-- what is written of a step is read again
pub step_back : (s : Step) → IsReadableStep s → step_of (words_from (step_text s) 0) ≡ Some s
step_back s h = ap step_of (step_parts s h) ∙ step_read s h

-- a line that reads as a step is its text
pub step_line : (line : List ℕ) (s : Step) → step_of (words_from line 0) ≡ Some s → line ≡ step_text s
unfolding step_text
step_line line s h = sym (line_joined line) ∙ ap joined (step_spelled (words_from line 0) s h)

pub steps_once : StepsAreSpelledOnce
steps_once s line h =
    (λ e. step_line line s e, λ e. ap (λ l. step_of (words_from l 0)) e ∙ step_back s h)

other_word : (s : Step) → process_of (step_words s) ≡ None
unfolding process_of step_words
other_word (steps.Call pid call) = refl
other_word (steps.Arrive sender number) = refl
other_word (steps.Take pid) = refl
other_word (steps.Finish pid) = refl
other_word (steps.Fail pid why) = refl
other_word (steps.OpenMove sender number moving) = refl
other_word (steps.Copy sender number moving offset count) = refl
other_word (steps.End pid why) = refl
other_word (steps.Hear asker number pid) = refl
other_word (steps.Found asker pid) = refl
other_word (steps.Lost asker) = refl
other_word (steps.Collect pid) = refl

-- the line of a step names no process
pub no_process : (s : Step) → IsReadableStep s → process_of (words_from (step_text s) 0) ≡ None
no_process s h = ap process_of (step_parts s h) ∙ other_word s
