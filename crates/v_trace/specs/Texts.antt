-- The texts of steps and of answers.
use Rattle.std.specs.Prelude.{Bool, ℕ, List, [], ◌∷◌, true, false, decimal, codes}
use Rattle.vk_types.specs.Types.{Answer, Ending, Refusal, Step}
use Rattle.vk_base.specs.declared.answer.Answer.TheVariants as answers
use Rattle.vk_base.specs.declared.answer.Ending.TheVariants as endings
use Rattle.vk_base.specs.declared.answer.Refusal.TheVariants as refusals
use Rattle.vk_base.specs.declared.step.Step.TheVariants as steps
use Rattle.vk_brief.specs.declared.step.BriefStep.{BriefStep}
use Rattle.vk_brief.specs.declared.step.BriefStep.TheVariants as brief_steps
use Rattle.vk_text.specs.Spelling.{spaced, joined, pid_text, bytes_text, message_text, call_words}

abbrev pub refusal_text : Refusal → List ℕ
refusal_text refusals.NoProcess = codes "noprocess"
refusal_text refusals.TimedOut = codes "timedout"
refusal_text refusals.BadSegment = codes "badsegment"
refusal_text refusals.NotAwaiting = codes "notawaiting"
refusal_text refusals.NoAccess = codes "noaccess"
refusal_text refusals.BadRange = codes "badrange"
refusal_text refusals.TooLong = codes "toolong"
refusal_text refusals.Gone = codes "gone"
refusal_text refusals.NotFound = codes "notfound"
refusal_text refusals.NamesFull = codes "namesfull"
refusal_text refusals.Busy = codes "busy"
refusal_text refusals.NotYet = codes "notyet"
refusal_text refusals.Dead = codes "dead"

abbrev pub ending_text : Ending → List ℕ
ending_text endings.Ok = codes "ok"
ending_text endings.NoProcess = codes "noprocess"
ending_text endings.TimedOut = codes "timedout"
ending_text endings.Gone = codes "gone"

unfoldable pub answer_text : Answer → List ℕ
answer_text answers.Ok = codes "ok"
answer_text (answers.Replied message) = spaced (codes "ok") (message_text message ∷ [])
answer_text (answers.Received from message) = spaced (codes "ok") (pid_text from ∷ message_text message ∷ [])
answer_text (answers.ReceivedSegment from message count) = spaced (codes "ok") (pid_text from ∷ message_text message ∷ decimal count ∷ [])
answer_text (answers.Found pid) = spaced (codes "ok") (pid_text pid ∷ [])
answer_text (answers.Loaded bytes) = spaced (codes "ok") (bytes_text bytes ∷ [])
answer_text (answers.Refused why) = refusal_text why

-- the words of a step, of which the first tells which step it is
unfoldable pub step_words : Step → List (List ℕ)
step_words (steps.Call pid call) = codes "call" ∷ pid_text pid ∷ call_words call
step_words (steps.Arrive sender number) = codes "arrive" ∷ pid_text sender ∷ decimal number ∷ []
step_words (steps.Take pid) = codes "take" ∷ pid_text pid ∷ []
step_words (steps.Finish pid) = codes "finish" ∷ pid_text pid ∷ []
step_words (steps.Fail pid why) = codes "fail" ∷ pid_text pid ∷ ending_text why ∷ []
step_words (steps.OpenMove sender number moving) = codes "open" ∷ pid_text sender ∷ decimal number ∷ decimal moving ∷ []
step_words (steps.Copy sender number moving offset count) =
    codes "copy" ∷ pid_text sender ∷ decimal number ∷ decimal moving ∷ decimal offset ∷ decimal count ∷ []
step_words (steps.End pid why) = codes "end" ∷ pid_text pid ∷ ending_text why ∷ []
step_words (steps.Hear asker number pid) = codes "hear" ∷ pid_text asker ∷ decimal number ∷ pid_text pid ∷ []
step_words (steps.Found asker pid) = codes "found" ∷ pid_text asker ∷ pid_text pid ∷ []
step_words (steps.Lost asker) = codes "lost" ∷ pid_text asker ∷ []
step_words (steps.Collect pid) = codes "collect" ∷ pid_text pid ∷ []

unfoldable pub step_text : Step → List ℕ
step_text step = joined (step_words step)

-- whether it is a call
abbrev pub is_call : BriefStep → Bool
is_call (brief_steps.Call pid call) = true
is_call step = false
