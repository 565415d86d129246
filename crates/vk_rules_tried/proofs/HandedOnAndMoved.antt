-- Moves before and after a message is handed on are of one exchange, and go on in turn.
use Rattle.std.proofs.Common.{◌≡◌, List, [], ◌∷◌, ◌++◌, Some, replicate, refl}
use Rattle.vk_types.specs.Types.{Message}
use Rattle.vk_base.specs.declared.call.Call.TheVariants as calls
use Rattle.vk_base.specs.declared.answer.Answer.TheVariants as answers
use Rattle.vk_base.specs.declared.answer.Ending.TheVariants as endings
use Rattle.vk_base.specs.declared.answer.Refusal.TheVariants as refusals
use Rattle.vk_base.specs.declared.step.Step.TheVariants as steps
use Rattle.vk_base.specs.Packets as packets
use Rattle.vk_base.specs.Settings.{Settings}
use Rattle.vk_base.specs.declared.event.EventAnswer.TheVariants as given
use Rattle.vk_rules.specs.Frames.{Frame}
use Rattle.vk_rules.specs.Histories.{history_of}
use Rattle.vk_rules.specs.Observed.{no_call}
use Rattle.vk_rules.specs.Observed.{observed}
use Rattle.vk_rules_tried.proofs.Words.{Told, framed, call, collect, deliver, tick, events_of, happenings, seen_in, p1_1, p1_2, p2_1}
unfoldable use Rattle.vk_rules_tried.proofs.Words.{all_rules}

abbrev message_1 : Message
message_1 = record { 0 = ((3 ∷ []) ++ replicate 30 0 ++ (16 ∷ [])) }

abbrev message_2 : Message
message_2 = record { 0 = ((12 ∷ []) ++ replicate 31 0) }

abbrev message_3 : Message
message_3 = record { 0 = ((13 ∷ []) ++ replicate 31 0) }

abbrev settings : Settings
settings = record {
  times = record { tries = 1; interval = 1; life = 20 };
  pools = 16 ∷ 16 ∷ [];
  specs = record { pid = p1_1; size = 4096 } ∷ record { pid = p1_2; size = 4096 } ∷ record { pid = p2_1; size = 4096 } ∷ [];
}

abbrev frame_2_1_1 : Frame
frame_2_1_1 = framed 2 1 0 1 1 1 (packets.Send p2_1 p1_1 1 message_1 (replicate 16 0))

abbrev frame_1_4_1 : Frame
frame_1_4_1 = framed 1 2 0 5 4 1 (packets.MoveData p1_1 p2_1 1 1 0 16 0 (replicate 16 0))

abbrev frame_1_10_1 : Frame
frame_1_10_1 = framed 1 2 1 11 10 1 (packets.MoveData p1_2 p2_1 1 2 0 8 0 (replicate 8 0))

abbrev frame_2_2_1 : Frame
frame_2_2_1 = framed 2 1 0 12 2 1 (packets.MoveAck p2_1 p1_2 1 2 8)

abbrev frame_1_14_1 : Frame
frame_1_14_1 = framed 1 2 1 16 14 1 (packets.Reply p1_1 p2_1 1 message_3 0 [])

abbrev told : List Told
told =
    call 1 p2_1 (calls.Send p1_1 message_1) given.Begun 0 1 (frame_2_1_1 ∷ []) []
    ∷ deliver 1 1 frame_2_1_1 given.Taken 0 2 [] (steps.Arrive p2_1 1 ∷ [])
    ∷ call 2 p1_1 calls.Receive given.Begun 0 3 [] (steps.Take p1_1 ∷ [])
    ∷ collect 3 p1_1 (given.Answered (answers.Received p2_1 message_1)) 0 4 [] (steps.Collect p1_1 ∷ [])
    ∷ call 4 p1_1 (calls.MoveTo p2_1 0 0 16) given.Begun 0 5 (frame_1_4_1 ∷ []) []
    ∷ tick 1 5 1 6 [] (steps.End p1_1 endings.TimedOut ∷ [])
    ∷ collect 6 p1_1 (given.Answered (answers.Refused refusals.TimedOut)) 1 7 [] (steps.Collect p1_1 ∷ [])
    ∷ call 7 p1_1 (calls.Forward message_2 p2_1 p1_2) (given.Answered answers.Ok) 1 8 [] []
    ∷ call 8 p1_2 calls.Receive given.Begun 1 9 [] (steps.Take p1_2 ∷ [])
    ∷ collect 9 p1_2 (given.Answered (answers.Received p2_1 message_2)) 1 10 [] (steps.Collect p1_2 ∷ [])
    ∷ call 10 p1_2 (calls.MoveTo p2_1 0 0 8) given.Begun 1 11 (frame_1_10_1 ∷ []) []
    ∷ deliver 2 2 frame_1_10_1 given.Taken 0 12 (frame_2_2_1 ∷ []) (steps.OpenMove p2_1 1 2 ∷ steps.Copy p2_1 1 2 0 8 ∷ [])
    ∷ deliver 2 3 frame_1_4_1 given.Taken 0 13 [] []
    ∷ deliver 1 11 frame_2_2_1 given.Taken 1 13 [] (steps.End p1_2 endings.Ok ∷ [])
    ∷ call 12 p1_1 calls.Exit (given.Answered answers.Ok) 1 14 [] []
    ∷ collect 13 p1_2 (given.Answered answers.Ok) 1 15 [] (steps.Collect p1_2 ∷ [])
    ∷ call 14 p1_2 (calls.Reply message_3 p2_1) (given.Answered answers.Ok) 1 16 (frame_1_14_1 ∷ []) []
    ∷ deliver 2 4 frame_1_14_1 given.Taken 0 17 [] (steps.Finish p2_1 ∷ [])
    ∷ []

entries : history_of settings (events_of told) ≡ happenings told
unfolding all_rules
entries = refl

observations : seen_in settings told ≡ Some (observed no_call (happenings told))
unfolding all_rules
observations = refl
