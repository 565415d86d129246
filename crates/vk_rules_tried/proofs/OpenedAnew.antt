-- The moves of a later exchange are counted from 1 again; a late packet of the earlier exchange's move is answered that
-- its sender does not wait.
use Rattle.std.proofs.Common.{◌≡◌, List, [], ◌∷◌, ◌++◌, Some, replicate, refl}
use Rattle.vk_types.specs.Types.{Message}
use Rattle.vk_base.specs.declared.call.Call.TheVariants as calls
use Rattle.vk_base.specs.declared.answer.Answer.TheVariants as answers
use Rattle.vk_base.specs.declared.answer.Ending.TheVariants as endings
use Rattle.vk_base.specs.declared.step.Step.TheVariants as steps
use Rattle.vk_base.specs.Packets as packets
use Rattle.vk_base.specs.Settings.{Settings}
use Rattle.vk_base.specs.declared.event.EventAnswer.TheVariants as given
use Rattle.vk_rules.specs.Frames.{Frame}
use Rattle.vk_rules.specs.Histories.{history_of}
use Rattle.vk_rules.specs.Observed.{no_call}
use Rattle.vk_rules.specs.Observed.{observed}
use Rattle.vk_rules_tried.proofs.Words.{Told, framed, call, collect, deliver, events_of, happenings, seen_in, p1_1, p1_2, p2_1}
unfoldable use Rattle.vk_rules_tried.proofs.Words.{all_rules}

abbrev message_1 : Message
message_1 = record { 0 = (3 ∷ []) ++ replicate 30 0 ++ (16 ∷ []) }

abbrev message_2 : Message
message_2 = record { 0 = (11 ∷ []) ++ replicate 31 0 }

abbrev settings : Settings
settings = record {
  times = record { tries = 5; interval = 4; life = 8 };
  pools = 16 ∷ 16 ∷ [];
  specs = record { pid = p1_1; size = 4096 } ∷ record { pid = p1_2; size = 4096 } ∷ record { pid = p2_1; size = 4096 } ∷ [];
}

abbrev frame_2_1_1 : Frame
frame_2_1_1 = framed 2 1 0 1 1 1 (packets.Send p2_1 p1_1 1 message_1 (replicate 16 0))

abbrev frame_1_4_1 : Frame
frame_1_4_1 = framed 1 2 0 5 4 1 (packets.MoveData p1_1 p2_1 1 1 0 16 0 (replicate 16 0))

abbrev frame_2_2_1 : Frame
frame_2_2_1 = framed 2 1 0 6 2 1 (packets.MoveAck p2_1 p1_1 1 1 16)

abbrev frame_1_7_1 : Frame
frame_1_7_1 = framed 1 2 0 9 7 1 (packets.Reply p1_1 p2_1 1 message_2 0 [])

abbrev frame_2_5_1 : Frame
frame_2_5_1 = framed 2 1 0 12 5 1 (packets.Send p2_1 p1_1 2 message_1 (replicate 16 0))

abbrev frame_1_11_1 : Frame
frame_1_11_1 = framed 1 2 0 16 11 1 (packets.MoveData p1_1 p2_1 2 1 0 16 0 (replicate 16 0))

abbrev frame_2_6_1 : Frame
frame_2_6_1 = framed 2 1 0 17 6 1 (packets.MoveAck p2_1 p1_1 2 1 16)

abbrev told : List Told
told =
    call 1 p2_1 (calls.Send p1_1 message_1) given.Begun 0 1 (frame_2_1_1 ∷ []) []
    ∷ deliver 1 1 frame_2_1_1 given.Taken 0 2 [] (steps.Arrive p2_1 1 ∷ [])
    ∷ call 2 p1_1 calls.Receive given.Begun 0 3 [] (steps.Take p1_1 ∷ [])
    ∷ collect 3 p1_1 (given.Answered (answers.Received p2_1 message_1)) 0 4 [] (steps.Collect p1_1 ∷ [])
    ∷ call 4 p1_1 (calls.MoveTo p2_1 0 0 16) given.Begun 0 5 (frame_1_4_1 ∷ []) []
    ∷ deliver 2 2 frame_1_4_1 given.Taken 0 6 (frame_2_2_1 ∷ []) (steps.OpenMove p2_1 1 1 ∷ steps.Copy p2_1 1 1 0 16 ∷ [])
    ∷ deliver 1 5 frame_2_2_1 given.Taken 0 7 [] (steps.End p1_1 endings.Ok ∷ [])
    ∷ collect 6 p1_1 (given.Answered answers.Ok) 0 8 [] (steps.Collect p1_1 ∷ [])
    ∷ call 7 p1_1 (calls.Reply message_2 p2_1) (given.Answered answers.Ok) 0 9 (frame_1_7_1 ∷ []) []
    ∷ deliver 2 3 frame_1_7_1 given.Taken 0 10 [] (steps.Finish p2_1 ∷ [])
    ∷ collect 4 p2_1 (given.Answered (answers.Replied message_2)) 0 11 [] (steps.Collect p2_1 ∷ [])
    ∷ call 5 p2_1 (calls.Send p1_1 message_1) given.Begun 0 12 (frame_2_5_1 ∷ []) []
    ∷ deliver 1 8 frame_2_5_1 given.Taken 0 13 [] (steps.Arrive p2_1 2 ∷ [])
    ∷ call 9 p1_1 calls.Receive given.Begun 0 14 [] (steps.Take p1_1 ∷ [])
    ∷ collect 10 p1_1 (given.Answered (answers.Received p2_1 message_1)) 0 15 [] (steps.Collect p1_1 ∷ [])
    ∷ call 11 p1_1 (calls.MoveTo p2_1 0 0 16) given.Begun 0 16 (frame_1_11_1 ∷ []) []
    ∷ deliver 2 6 frame_1_11_1 given.Taken 0 17 (frame_2_6_1 ∷ []) (steps.OpenMove p2_1 2 1 ∷ steps.Copy p2_1 2 1 0 16 ∷ [])
    ∷ deliver 1 12 frame_2_2_1 given.Taken 0 17 [] []
    ∷ deliver 1 13 frame_2_6_1 given.Taken 0 18 [] (steps.End p1_1 endings.Ok ∷ [])
    ∷ []

entries : history_of settings (events_of told) ≡ happenings told
unfolding all_rules
entries = refl

observations : seen_in settings told ≡ Some (observed no_call (happenings told))
unfolding all_rules
observations = refl
