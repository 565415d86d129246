-- What answers are in fields. Each field that does not count is 0.
use Rattle.std.specs.Prelude.{ℕ, replicate, length}
use Rattle.vk_types.specs.Types.{Answer, EventAnswer, Refusal}
use Rattle.vk_base.specs.declared.answer.Answer.TheVariants as answers
use Rattle.vk_base.specs.declared.answer.Refusal.TheVariants as refusals
use Rattle.vk_base.specs.declared.event.EventAnswer.TheVariants as given
use Rattle.vk_fields.specs.declared.answer.AnswerFields.{AnswerFields}
use Rattle.vk_fields.specs.declared.kinds.TheConstants as kinds

abbrev pub blank : ℕ → AnswerFields
blank kind = record { kind = kind; why = 0; host = 0; local = 0; count = 0; now = 0; message = replicate 32 0 }

abbrev pub told_tick : ℕ → AnswerFields
told_tick now = record (blank kinds.TICKED) { now = now }

abbrev pub told_loaded : ℕ → AnswerFields
told_loaded count = record (blank kinds.LOADED) { count = count }

abbrev pub code_of : Refusal → ℕ
code_of refusals.NoProcess = kinds.WHY_NO_PROCESS
code_of refusals.TimedOut = kinds.WHY_TIMED_OUT
code_of refusals.BadSegment = kinds.WHY_BAD_SEGMENT
code_of refusals.NotAwaiting = kinds.WHY_NOT_AWAITING
code_of refusals.NoAccess = kinds.WHY_NO_ACCESS
code_of refusals.BadRange = kinds.WHY_BAD_RANGE
code_of refusals.TooLong = kinds.WHY_TOO_LONG
code_of refusals.Gone = kinds.WHY_GONE
code_of refusals.NotFound = kinds.WHY_NOT_FOUND
code_of refusals.NamesFull = kinds.WHY_NAMES_FULL
code_of refusals.Busy = kinds.WHY_BUSY
code_of refusals.NotYet = kinds.WHY_NOT_YET
code_of refusals.Dead = kinds.WHY_DEAD

abbrev pub told_answer : Answer → AnswerFields
told_answer answers.Ok = blank kinds.DONE
told_answer (answers.Replied m) = record (blank kinds.REPLIED) { message = m.0 }
told_answer (answers.Received from m) = record (blank kinds.RECEIVED) { host = from.host; local = from.local; message = m.0 }
told_answer (answers.ReceivedSegment from m count) =
    record (blank kinds.RECEIVED_SEGMENT) { host = from.host; local = from.local; count = count; message = m.0 }
told_answer (answers.Found pid) = record (blank kinds.FOUND) { host = pid.host; local = pid.local }
told_answer (answers.Loaded bytes) = told_loaded (length bytes)
told_answer (answers.Refused why) = record (blank kinds.REFUSED) { why = code_of why }

-- the answer to an event, but for the bytes that were loaded, of which only the count is told
abbrev pub told : EventAnswer → AnswerFields
told given.Begun = blank kinds.BEGUN
told (given.Answered a) = told_answer a
told (given.Ticked now) = told_tick now
told given.Taken = blank kinds.TAKEN
told given.Old = blank kinds.OLD
told given.Bad = blank kinds.BAD
