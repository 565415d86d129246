-- A helper: it asks for a job, sends the job's message to its member, and reports.
use Rattle.std.specs.Prelude.{◌≡◌, Bool, true, false, ◌==◌, List, [], ◌∷◌, slice_index, Option, Some, None, if◌then◌else◌}
use Rattle.vk_types.specs.Types.{Answer, Call, Message, Pid}
use Rattle.vk_base.specs.declared.answer.Answer.TheVariants as answers
use Rattle.vk_base.specs.declared.call.Call.TheVariants as calls
use Rattle.vk_base.specs.declared.limits.TheConstants.{MESSAGE_BYTES}
use Rattle.vk_group.specs.declared.helping.Helping.{Helping}
use Rattle.vk_group.specs.declared.helping.Helping.TheVariants as stages
use Rattle.vk_group.specs.Messages.{message_in, ready_message, result_message}

-- it was given a job
abbrev pub is_job : Answer → Bool
is_job (answers.Replied m) = slice_index m.0 1 == 0
is_job _ = false

-- the job's message was loaded
abbrev pub sending : Option Message → Helping
sending (Some m) = stages.Send m
sending None = stages.Ended

-- its member replied, or not
abbrev pub sent : Answer → Helping
sent (answers.Replied m) = stages.Store m
sent _ = stages.Report false

-- what it does after its last call was answered so
abbrev pub helped : Helping → Answer → Helping
helped stages.Ready a = if is_job a then stages.Load else stages.Exit
helped stages.Load a = sending (message_in a)
helped (stages.Send m) a = sent a
helped (stages.Store m) a = stages.Report true
helped (stages.Report replied) a = stages.Ready
helped stages.Exit a = stages.Ended
helped stages.Ended a = stages.Ended

-- what the helper of this coordinator and this member calls
abbrev pub helping_call : Pid → Pid → Helping → Option Call
helping_call coordinator member stages.Ready = Some (calls.Send coordinator ready_message)
helping_call coordinator member stages.Load = Some (calls.Load 0 MESSAGE_BYTES)
helping_call coordinator member (stages.Send m) = Some (calls.Send member m)
helping_call coordinator member (stages.Store m) = Some (calls.Store 0 m.0)
helping_call coordinator member (stages.Report replied) = Some (calls.Send coordinator (result_message replied))
helping_call coordinator member stages.Exit = Some calls.Exit
helping_call coordinator member stages.Ended = None

-- after all these answers, one after the other
abbrev pub helped_all : Helping → List Answer → Helping
helped_all stage [] = stage
helped_all stage (a ∷ rest) = helped_all (helped stage a) rest

-- what a helper calls after these answers
abbrev pub helper_call : Pid → Pid → List Answer → Option Call
helper_call coordinator member answers = helping_call coordinator member (helped_all stages.Ready answers)

-- after these answers the helper does this
abbrev pub IsHelperAfter : Helping → List Answer → Type 0
IsHelperAfter stage answers = helped_all stages.Ready answers ≡ stage
