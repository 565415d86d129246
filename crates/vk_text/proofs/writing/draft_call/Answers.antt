use Rattle.std.proofs.Common.{[], ap}
use Rattle.vk_brief.specs.Brief.{call_with}
use Rattle.vk_text.specs.Spelling.{call_words, call_text}
use Rattle.vk_text.proofs.writing.draft_call.Goals as goal

pub returns-in-ReceiveSegment-clause-text : goal.returns-in-ReceiveSegment-clause-text
unfolding call_text call_words
returns-in-ReceiveSegment-clause-text c = rw (ap (call_with []) c.in-ReceiveSegment.is) c.draft_range.ensures.text
