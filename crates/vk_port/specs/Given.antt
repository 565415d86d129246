-- Internal. What an event was answered with in few bytes, and the answer that this stands for.
use Rattle.std.specs.Prelude.{ℕ, List, Option, Some, None}
use Rattle.vk_types.specs.Types.{EventAnswer}
use Rattle.vk_base.specs.declared.answer.Answer.TheVariants as answers
use Rattle.vk_base.specs.declared.event.EventAnswer.TheVariants as given
use Rattle.vk_host.specs.declared.response.Response.{Response}
use Rattle.vk_host.specs.declared.response.Response.TheVariants as responses
use Rattle.vk_stands.specs.Rules.{given_by}

-- the answer, where these are the bytes that were loaded
abbrev pub answer_with : List ℕ → Response → EventAnswer
answer_with bytes responses.Begun = given.Begun
answer_with bytes (responses.Given o) = given_by (Some o)
answer_with bytes (responses.Loaded pid start count) = given.Answered (answers.Loaded bytes)
answer_with bytes (responses.Ticked now) = given.Ticked now
answer_with bytes responses.Taken = given.Taken
answer_with bytes responses.Old = given.Old
answer_with bytes responses.Bad = given.Bad

abbrev pub answer_by : List ℕ → Option Response → Option EventAnswer
answer_by bytes None = None
answer_by bytes (Some r) = Some (answer_with bytes r)
