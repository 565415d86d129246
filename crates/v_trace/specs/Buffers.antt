-- Of the code alone: what is in the room for a step.
use Rattle.std.specs.Prelude.{ℕ, List, []}
use Rattle.vk_types.specs.Types.{Call, Step}
use Rattle.vk_base.specs.declared.call.Call.TheVariants as calls
use Rattle.vk_brief.specs.Brief.{step_with}
use Rattle.vk_brief.specs.declared.step.BriefStep.{BriefStep}

-- the bytes of a Store
abbrev pub bytes_in : Call → List ℕ
bytes_in (calls.Store start bytes) = bytes
bytes_in call = []

-- the step, with the bytes of this call where it is that of a Store
abbrev pub step_by : Call → BriefStep → Step
step_by call s = step_with (bytes_in call) s
