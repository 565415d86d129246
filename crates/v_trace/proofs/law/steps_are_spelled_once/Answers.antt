use Rattle.v_trace.proofs.StepTexts.{steps_once}
use Rattle.v_trace.proofs.StepWords.{step_words_once}
use Rattle.v_trace.proofs.law.steps_are_spelled_once.Goals as goal

pub returns-clause-words : goal.returns-clause-words
returns-clause-words c = step_words_once

pub returns-clause-lines : goal.returns-clause-lines
returns-clause-lines c = steps_once
