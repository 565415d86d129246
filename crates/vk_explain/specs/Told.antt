-- In which words it is told what is wrong in a text, and that nothing is.
use Rattle.std.specs.Prelude.{ℕ, List, ◌++◌, decimal, codes, Option, Some, None}
use Rattle.vk_types.specs.Types.{Observation}
use Rattle.v_trace.specs.Texts.{answer_text}
use Rattle.v_obstacle.specs.declared.obstacle.Obstacle.{Obstacle}
use Rattle.vk_why.specs.Reasons.{reason_text}
use Rattle.vk_explain.specs.declared.fault.Fault.{Fault}
use Rattle.vk_explain.specs.declared.fault.Fault.TheVariants as faults

-- nothing is wrong with so many steps, of which so many answers are told
abbrev pub right_text : (steps answers : ℕ) → List ℕ
right_text steps answers = codes "yes " ++ decimal steps ++ codes " " ++ decimal answers ++ codes "\n"

abbrev pub bad_line_text : ℕ → List ℕ → List ℕ
bad_line_text number line = codes "line " ++ decimal number ++ codes " is not valid: " ++ line ++ codes "\n"

-- what is told of a step begins with its number
abbrev pub step_text : ℕ → List ℕ
step_text step = codes "no " ++ decimal step ++ codes ": "

-- what a process sees, if it sees anything
abbrev pub given_text : Option Observation → List ℕ
given_text None = codes "nothing"
given_text (Some seen) = answer_text seen.answer

abbrev pub other_answer_text : ℕ → List ℕ → Option Observation → List ℕ
other_answer_text step line given = step_text step ++ line ++ codes ", the kernel gives " ++ given_text given ++ codes "\n"

abbrev pub refused_text : ℕ → Obstacle → List ℕ
refused_text step why = step_text step ++ reason_text why ++ codes "\n"

-- what is told of what is wrong in this line; a limit and want of memory are told by the status
abbrev pub fault_text : Fault → List ℕ → Option (List ℕ)
fault_text (faults.BadLine number) line = Some (bad_line_text number line)
fault_text (faults.Refused step why) line = Some (refused_text step why)
fault_text (faults.OtherAnswer step given) line = Some (other_answer_text step line given)
fault_text faults.Limit line = None
fault_text faults.NoMemory line = None
