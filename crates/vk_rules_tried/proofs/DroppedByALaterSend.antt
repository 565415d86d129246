-- A later Send of the sender comes to the station of the process that holds it: what that one holds is dropped, so that it replies to
-- nobody. A copy of the earlier Send does nothing.
use Rattle.std.proofs.Common.{◌≡◌, List, [], ◌∷◌, ◌++◌, Some, replicate, refl}
use Rattle.vk_types.specs.Types.{Message}
use Rattle.vk_base.specs.declared.call.Call.TheVariants as calls
use Rattle.vk_base.specs.declared.answer.Answer.TheVariants as answers
use Rattle.vk_base.specs.declared.answer.Ending.TheVariants as endings
use Rattle.vk_base.specs.declared.answer.Refusal.TheVariants as refusals
use Rattle.vk_base.specs.declared.step.Step.TheVariants as steps
use Rattle.vk_base.specs.Packets as packets
use Rattle.vk_base.specs.Settings.{Settings}
use Rattle.vk_base.specs.declared.event.EventAnswer.TheVariants as given
use Rattle.vk_rules.specs.Frames.{Frame}
use Rattle.vk_rules.specs.Histories.{history_of}
use Rattle.vk_rules.specs.Observed.{no_call}
use Rattle.vk_rules.specs.Observed.{observed}
use Rattle.vk_rules_tried.proofs.Words.{Told, framed, call, collect, tick, deliver, events_of, happenings, seen_in, p1_1, p1_2, p2_1}
unfoldable use Rattle.vk_rules_tried.proofs.Words.{all_rules}

abbrev message_1 : Message
message_1 = record { 0 = ((10 ∷ []) ++ replicate 31 0) }

abbrev message_2 : Message
message_2 = record { 0 = ((11 ∷ []) ++ replicate 31 0) }

abbrev message_3 : Message
message_3 = record { 0 = ((12 ∷ []) ++ replicate 31 0) }

abbrev settings : Settings
settings = record {
  times = record { tries = 1; interval = 1; life = 20 };
  pools = 16 ∷ 16 ∷ [];
  specs = record { pid = p1_1; size = 64 } ∷ record { pid = p1_2; size = 64 } ∷ record { pid = p2_1; size = 64 } ∷ [];
}

abbrev frame_2_1_1 : Frame
frame_2_1_1 = framed 2 1 0 1 1 1 (packets.Send p2_1 p1_1 1 message_1 [])

abbrev frame_2_4_1 : Frame
frame_2_4_1 = framed 2 1 1 4 4 1 (packets.Send p2_1 p1_2 2 message_2 [])

abbrev told : List Told
told =
    call 1 p2_1 (calls.Send p1_1 message_1) given.Begun 0 1 (frame_2_1_1 ∷ []) []
    ∷ deliver 1 1 frame_2_1_1 given.Taken 0 2 [] (steps.Arrive p2_1 1 ∷ [])
    ∷ call 2 p1_1 calls.Receive given.Begun 0 3 [] (steps.Take p1_1 ∷ [])
    ∷ collect 3 p1_1 (given.Answered (answers.Received p2_1 message_1)) 0 4 [] (steps.Collect p1_1 ∷ [])
    ∷ tick 2 2 1 2 [] (steps.Fail p2_1 endings.TimedOut ∷ [])
    ∷ collect 3 p2_1 (given.Answered (answers.Refused refusals.TimedOut)) 1 3 [] (steps.Collect p2_1 ∷ [])
    ∷ call 4 p2_1 (calls.Send p1_2 message_2) given.Begun 1 4 (frame_2_4_1 ∷ []) []
    ∷ deliver 1 4 frame_2_4_1 given.Taken 0 5 [] (steps.Arrive p2_1 2 ∷ [])
    ∷ call 5 p1_1 (calls.Reply message_3 p2_1) (given.Answered (answers.Refused refusals.NotAwaiting)) 0 6 [] []
    ∷ call 6 p1_2 calls.Receive given.Begun 0 7 [] (steps.Take p1_2 ∷ [])
    ∷ deliver 1 7 frame_2_1_1 given.Taken 0 8 [] []
    ∷ []

entries : history_of settings (events_of told) ≡ happenings told
unfolding all_rules
entries = refl

observations : seen_in settings told ≡ Some (observed no_call (happenings told))
unfolding all_rules
observations = refl
