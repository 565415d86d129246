use Rattle.vk_forms.proofs.Marks.{marks, stops_first}
use Rattle.vk_forms.proofs.law.marks_are_exact.Goals as goal

pub returns-clause-stops : goal.returns-clause-stops
returns-clause-stops c = stops_first

pub returns-clause-marks : goal.returns-clause-marks
returns-clause-marks c = marks
