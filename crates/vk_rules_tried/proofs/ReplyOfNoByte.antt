-- A reply segment of no byte must still lie in what the message grants, and in the memory of the replier.
use Rattle.std.proofs.Common.{◌≡◌, List, [], ◌∷◌, ◌++◌, Some, replicate, refl}
use Rattle.vk_types.specs.Types.{Message}
use Rattle.vk_base.specs.declared.call.Call.TheVariants as calls
use Rattle.vk_base.specs.declared.answer.Answer.TheVariants as answers
use Rattle.vk_base.specs.declared.answer.Refusal.TheVariants as refusals
use Rattle.vk_base.specs.declared.step.Step.TheVariants as steps
use Rattle.vk_base.specs.Packets as packets
use Rattle.vk_base.specs.Settings.{Settings}
use Rattle.vk_base.specs.declared.event.EventAnswer.TheVariants as given
use Rattle.vk_rules.specs.Frames.{Frame}
use Rattle.vk_rules.specs.Histories.{history_of}
use Rattle.vk_rules.specs.Observed.{no_call}
use Rattle.vk_rules.specs.Observed.{observed}
use Rattle.vk_rules_tried.proofs.Words.{Told, framed, call, collect, deliver, events_of, happenings, seen_in, p1_1, p1_2, p2_1}
unfoldable use Rattle.vk_rules_tried.proofs.Words.{all_rules}

abbrev message_1 : Message
message_1 = record { 0 = (2 ∷ []) ++ replicate 26 0 ++ (10 ∷ 0 ∷ 0 ∷ 0 ∷ 6 ∷ []) }

abbrev message_2 : Message
message_2 = record { 0 = (11 ∷ []) ++ replicate 31 0 }

abbrev message_3 : Message
message_3 = record { 0 = (1 ∷ []) ++ replicate 26 0 ++ (10 ∷ 0 ∷ 0 ∷ 0 ∷ 6 ∷ []) }

abbrev settings : Settings
settings = record {
  times = record { tries = 5; interval = 4; life = 8 };
  pools = 16 ∷ 16 ∷ [];
  specs = record { pid = p1_1; size = 64 } ∷ record { pid = p1_2; size = 64 } ∷ record { pid = p2_1; size = 64 } ∷ [];
}

abbrev frame_2_1_1 : Frame
frame_2_1_1 = framed 2 1 0 1 1 1 (packets.Send p2_1 p1_1 1 message_1 [])

abbrev frame_1_6_1 : Frame
frame_1_6_1 = framed 1 2 0 7 6 1 (packets.Reply p1_1 p2_1 1 message_2 16 [])

abbrev frame_2_4_1 : Frame
frame_2_4_1 = framed 2 1 0 10 4 1 (packets.Send p2_1 p1_1 2 message_3 (replicate 6 0))

abbrev frame_1_11_1 : Frame
frame_1_11_1 = framed 1 2 0 15 11 1 (packets.Reply p1_1 p2_1 2 message_2 0 [])

abbrev told : List Told
told =
    call 1 p2_1 (calls.Send p1_1 message_1) given.Begun 0 1 (frame_2_1_1 ∷ []) []
    ∷ deliver 1 1 frame_2_1_1 given.Taken 0 2 [] (steps.Arrive p2_1 1 ∷ [])
    ∷ call 2 p1_1 calls.Receive given.Begun 0 3 [] (steps.Take p1_1 ∷ [])
    ∷ collect 3 p1_1 (given.Answered (answers.Received p2_1 message_1)) 0 4 [] (steps.Collect p1_1 ∷ [])
    ∷ call 4 p1_1 (calls.ReplySegment message_2 p2_1 17 0 0) (given.Answered (answers.Refused refusals.BadRange)) 0 5 [] []
    ∷ call 5 p1_1 (calls.ReplySegment message_2 p2_1 9 0 0) (given.Answered (answers.Refused refusals.BadRange)) 0 6 [] []
    ∷ call 6 p1_1 (calls.ReplySegment message_2 p2_1 16 64 0) (given.Answered answers.Ok) 0 7 (frame_1_6_1 ∷ []) []
    ∷ deliver 2 2 frame_1_6_1 given.Taken 0 8 [] (steps.Finish p2_1 ∷ [])
    ∷ collect 3 p2_1 (given.Answered (answers.Replied message_2)) 0 9 [] (steps.Collect p2_1 ∷ [])
    ∷ call 4 p2_1 (calls.Send p1_1 message_3) given.Begun 0 10 (frame_2_4_1 ∷ []) []
    ∷ deliver 1 7 frame_2_4_1 given.Taken 0 11 [] (steps.Arrive p2_1 2 ∷ [])
    ∷ call 8 p1_1 calls.Receive given.Begun 0 12 [] (steps.Take p1_1 ∷ [])
    ∷ collect 9 p1_1 (given.Answered (answers.Received p2_1 message_3)) 0 13 [] (steps.Collect p1_1 ∷ [])
    ∷ call 10 p1_1 (calls.ReplySegment message_2 p2_1 10 0 0) (given.Answered (answers.Refused refusals.NoAccess)) 0 14 [] []
    ∷ call 11 p1_1 (calls.Reply message_2 p2_1) (given.Answered answers.Ok) 0 15 (frame_1_11_1 ∷ []) []
    ∷ []

entries : history_of settings (events_of told) ≡ happenings told
unfolding all_rules
entries = refl

observations : seen_in settings told ≡ Some (observed no_call (happenings told))
unfolding all_rules
observations = refl
