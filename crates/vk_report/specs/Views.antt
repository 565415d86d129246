-- What a view of an answer stands for.
use Rattle.std.specs.Prelude.{Bool, ◌≤◌, true, false, length}
use Rattle.vk_types.specs.Types.{EventAnswer}
use Rattle.vk_base.specs.declared.answer.Answer.TheVariants as answers
use Rattle.vk_base.specs.declared.event.EventAnswer.TheVariants as events_answered
use Rattle.vk_base.specs.declared.limits.TheConstants.{DATA_BYTES}
use Rattle.vk_base.specs.Activities.{answer_of}
use Rattle.vk_report.specs.declared.answer.AnswerView.{AnswerView}
use Rattle.vk_report.specs.declared.answer.AnswerView.TheVariants as views

abbrev pub viewed : AnswerView → EventAnswer
viewed views.Begun = events_answered.Begun
viewed (views.Given outcome) = events_answered.Answered (answer_of outcome.now)
viewed (views.Loaded bytes) = events_answered.Answered (answers.Loaded bytes.now)
viewed (views.Ticked now) = events_answered.Ticked now
viewed views.Taken = events_answered.Taken
viewed views.Old = events_answered.Old
viewed views.Bad = events_answered.Bad

-- the bytes that a Load gives are at most 1,024
abbrev pub IsShort : AnswerView → Type 0
IsShort (views.Loaded bytes) = length bytes.now ≤ DATA_BYTES
IsShort a = Unit {0}

-- whether it is what a Load gives
abbrev pub is_loaded : AnswerView → Bool
is_loaded (views.Loaded bytes) = true
is_loaded a = false
