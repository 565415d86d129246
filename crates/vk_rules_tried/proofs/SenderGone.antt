-- The sender has failed meanwhile: a move to it is answered that it does not wait, and ends so.
use Rattle.std.proofs.Common.{◌≡◌, List, [], ◌∷◌, ◌++◌, Some, replicate, refl}
use Rattle.vk_types.specs.Types.{Message}
use Rattle.vk_base.specs.declared.call.Call.TheVariants as calls
use Rattle.vk_base.specs.declared.answer.Answer.TheVariants as answers
use Rattle.vk_base.specs.declared.answer.Ending.TheVariants as endings
use Rattle.vk_base.specs.declared.answer.Refusal.TheVariants as refusals
use Rattle.vk_base.specs.declared.step.Step.TheVariants as steps
use Rattle.vk_base.specs.Packets as packets
use Rattle.vk_base.specs.Settings.{Settings}
use Rattle.vk_base.specs.declared.event.EventAnswer.TheVariants as given
use Rattle.vk_rules.specs.Frames.{Frame}
use Rattle.vk_rules.specs.Histories.{history_of}
use Rattle.vk_rules.specs.Observed.{no_call}
use Rattle.vk_rules.specs.Observed.{observed}
use Rattle.vk_rules_tried.proofs.Words.{Told, framed, call, collect, tick, deliver, events_of, happenings, seen_in, p1_1, p2_1}
unfoldable use Rattle.vk_rules_tried.proofs.Words.{all_rules}

abbrev message_1 : Message
message_1 = record { 0 = (3 ∷ []) ++ replicate 29 0 ++ (16 ∷ 0 ∷ []) }

abbrev settings : Settings
settings = record {
  times = record { tries = 5; interval = 4; life = 8 };
  pools = 16 ∷ 16 ∷ [];
  specs = record { pid = p1_1; size = 4096 } ∷ record { pid = p2_1; size = 4096 } ∷ [];
}

abbrev frame_2_1_1 : Frame
frame_2_1_1 = framed 2 1 0 1 1 1 (packets.Send p2_1 p1_1 1 message_1 (replicate 512 0))

abbrev frame_1_4_1 : Frame
frame_1_4_1 = framed 1 2 0 5 4 1 (packets.MoveData p1_1 p2_1 1 1 0 4096 0 (replicate 1024 0))

abbrev frame_1_4_2 : Frame
frame_1_4_2 = framed 1 2 0 5 4 2 (packets.MoveData p1_1 p2_1 1 1 0 4096 1024 (replicate 1024 0))

abbrev frame_1_4_3 : Frame
frame_1_4_3 = framed 1 2 0 5 4 3 (packets.MoveData p1_1 p2_1 1 1 0 4096 2048 (replicate 1024 0))

abbrev frame_1_4_4 : Frame
frame_1_4_4 = framed 1 2 0 5 4 4 (packets.MoveData p1_1 p2_1 1 1 0 4096 3072 (replicate 1024 0))

abbrev frame_1_8_1 : Frame
frame_1_8_1 = framed 1 2 4 9 8 1 (packets.MoveData p1_1 p2_1 1 1 0 4096 0 (replicate 1024 0))

abbrev frame_1_8_2 : Frame
frame_1_8_2 = framed 1 2 4 9 8 2 (packets.MoveData p1_1 p2_1 1 1 0 4096 1024 (replicate 1024 0))

abbrev frame_1_8_3 : Frame
frame_1_8_3 = framed 1 2 4 9 8 3 (packets.MoveData p1_1 p2_1 1 1 0 4096 2048 (replicate 1024 0))

abbrev frame_1_8_4 : Frame
frame_1_8_4 = framed 1 2 4 9 8 4 (packets.MoveData p1_1 p2_1 1 1 0 4096 3072 (replicate 1024 0))

abbrev frame_1_12_1 : Frame
frame_1_12_1 = framed 1 2 8 13 12 1 (packets.MoveData p1_1 p2_1 1 1 0 4096 0 (replicate 1024 0))

abbrev frame_1_12_2 : Frame
frame_1_12_2 = framed 1 2 8 13 12 2 (packets.MoveData p1_1 p2_1 1 1 0 4096 1024 (replicate 1024 0))

abbrev frame_1_12_3 : Frame
frame_1_12_3 = framed 1 2 8 13 12 3 (packets.MoveData p1_1 p2_1 1 1 0 4096 2048 (replicate 1024 0))

abbrev frame_1_12_4 : Frame
frame_1_12_4 = framed 1 2 8 13 12 4 (packets.MoveData p1_1 p2_1 1 1 0 4096 3072 (replicate 1024 0))

abbrev frame_1_16_1 : Frame
frame_1_16_1 = framed 1 2 12 17 16 1 (packets.MoveData p1_1 p2_1 1 1 0 4096 0 (replicate 1024 0))

abbrev frame_1_16_2 : Frame
frame_1_16_2 = framed 1 2 12 17 16 2 (packets.MoveData p1_1 p2_1 1 1 0 4096 1024 (replicate 1024 0))

abbrev frame_1_16_3 : Frame
frame_1_16_3 = framed 1 2 12 17 16 3 (packets.MoveData p1_1 p2_1 1 1 0 4096 2048 (replicate 1024 0))

abbrev frame_1_16_4 : Frame
frame_1_16_4 = framed 1 2 12 17 16 4 (packets.MoveData p1_1 p2_1 1 1 0 4096 3072 (replicate 1024 0))

abbrev frame_1_20_1 : Frame
frame_1_20_1 = framed 1 2 16 21 20 1 (packets.MoveData p1_1 p2_1 1 1 0 4096 0 (replicate 1024 0))

abbrev frame_1_20_2 : Frame
frame_1_20_2 = framed 1 2 16 21 20 2 (packets.MoveData p1_1 p2_1 1 1 0 4096 1024 (replicate 1024 0))

abbrev frame_1_20_3 : Frame
frame_1_20_3 = framed 1 2 16 21 20 3 (packets.MoveData p1_1 p2_1 1 1 0 4096 2048 (replicate 1024 0))

abbrev frame_1_20_4 : Frame
frame_1_20_4 = framed 1 2 16 21 20 4 (packets.MoveData p1_1 p2_1 1 1 0 4096 3072 (replicate 1024 0))

abbrev frame_2_7_1 : Frame
frame_2_7_1 = framed 2 1 4 11 7 1 (packets.Send p2_1 p1_1 1 message_1 (replicate 512 0))

abbrev frame_2_11_1 : Frame
frame_2_11_1 = framed 2 1 8 15 11 1 (packets.Send p2_1 p1_1 1 message_1 (replicate 512 0))

abbrev frame_2_15_1 : Frame
frame_2_15_1 = framed 2 1 12 19 15 1 (packets.Send p2_1 p1_1 1 message_1 (replicate 512 0))

abbrev frame_2_19_1 : Frame
frame_2_19_1 = framed 2 1 16 23 19 1 (packets.Send p2_1 p1_1 1 message_1 (replicate 512 0))

abbrev frame_1_26_1 : Frame
frame_1_26_1 = framed 1 2 20 27 26 1 (packets.MoveData p1_1 p2_1 1 2 0 1024 0 (replicate 1024 0))

abbrev frame_2_24_1 : Frame
frame_2_24_1 = framed 2 1 20 28 24 1 (packets.MoveNegative p2_1 p1_1 1 2)

abbrev told_1 : List Told
told_1 =
    call 1 p2_1 (calls.Send p1_1 message_1) given.Begun 0 1 (frame_2_1_1 ∷ []) []
    ∷ deliver 1 1 frame_2_1_1 given.Taken 0 2 [] (steps.Arrive p2_1 1 ∷ [])
    ∷ call 2 p1_1 calls.Receive given.Begun 0 3 [] (steps.Take p1_1 ∷ [])
    ∷ collect 3 p1_1 (given.Answered (answers.Received p2_1 message_1)) 0 4 [] (steps.Collect p1_1 ∷ [])
    ∷ call 4 p1_1 (calls.MoveTo p2_1 0 0 4096) given.Begun 0 5 (frame_1_4_1 ∷ frame_1_4_2 ∷ frame_1_4_3 ∷ frame_1_4_4 ∷ []) []
    ∷ deliver 2 2 frame_1_4_1 given.Taken 0 6 [] (steps.OpenMove p2_1 1 1 ∷ steps.Copy p2_1 1 1 0 1024 ∷ [])
    ∷ deliver 2 3 frame_1_4_2 given.Taken 0 7 [] (steps.Copy p2_1 1 1 1024 1024 ∷ [])
    ∷ tick 1 5 1 6 [] []
    ∷ tick 1 6 2 7 [] []
    ∷ tick 1 7 3 8 [] []
    ∷ tick 1 8 4 9 (frame_1_8_1 ∷ frame_1_8_2 ∷ frame_1_8_3 ∷ frame_1_8_4 ∷ []) []
    ∷ tick 1 9 5 10 [] []
    ∷ tick 1 10 6 11 [] []
    ∷ tick 1 11 7 12 [] []
    ∷ tick 1 12 8 13 (frame_1_12_1 ∷ frame_1_12_2 ∷ frame_1_12_3 ∷ frame_1_12_4 ∷ []) []
    ∷ tick 1 13 9 14 [] []
    ∷ tick 1 14 10 15 [] []
    ∷ tick 1 15 11 16 [] []
    ∷ tick 1 16 12 17 (frame_1_16_1 ∷ frame_1_16_2 ∷ frame_1_16_3 ∷ frame_1_16_4 ∷ []) []
    ∷ tick 1 17 13 18 [] []
    ∷ tick 1 18 14 19 [] []
    ∷ tick 1 19 15 20 [] []
    ∷ tick 1 20 16 21 (frame_1_20_1 ∷ frame_1_20_2 ∷ frame_1_20_3 ∷ frame_1_20_4 ∷ []) []
    ∷ tick 1 21 17 22 [] []
    ∷ []

abbrev told_2 : List Told
told_2 =
    tick 1 22 18 23 [] []
    ∷ tick 1 23 19 24 [] []
    ∷ tick 1 24 20 25 [] (steps.End p1_1 endings.TimedOut ∷ [])
    ∷ tick 2 4 1 8 [] []
    ∷ tick 2 5 2 9 [] []
    ∷ tick 2 6 3 10 [] []
    ∷ tick 2 7 4 11 (frame_2_7_1 ∷ []) []
    ∷ tick 2 8 5 12 [] []
    ∷ tick 2 9 6 13 [] []
    ∷ tick 2 10 7 14 [] []
    ∷ tick 2 11 8 15 (frame_2_11_1 ∷ []) []
    ∷ tick 2 12 9 16 [] []
    ∷ tick 2 13 10 17 [] []
    ∷ tick 2 14 11 18 [] []
    ∷ tick 2 15 12 19 (frame_2_15_1 ∷ []) []
    ∷ collect 25 p1_1 (given.Answered (answers.Refused refusals.TimedOut)) 20 26 [] (steps.Collect p1_1 ∷ [])
    ∷ tick 2 16 13 20 [] []
    ∷ tick 2 17 14 21 [] []
    ∷ tick 2 18 15 22 [] []
    ∷ tick 2 19 16 23 (frame_2_19_1 ∷ []) []
    ∷ tick 2 20 17 24 [] []
    ∷ tick 2 21 18 25 [] []
    ∷ tick 2 22 19 26 [] []
    ∷ tick 2 23 20 27 [] (steps.Fail p2_1 endings.TimedOut ∷ [])
    ∷ []

abbrev told_3 : List Told
told_3 =
    call 26 p1_1 (calls.MoveTo p2_1 0 0 1024) given.Begun 20 27 (frame_1_26_1 ∷ []) []
    ∷ deliver 2 24 frame_1_26_1 given.Taken 20 28 (frame_2_24_1 ∷ []) []
    ∷ deliver 1 27 frame_2_24_1 given.Taken 20 29 [] (steps.End p1_1 endings.Gone ∷ [])
    ∷ collect 28 p1_1 (given.Answered (answers.Refused refusals.Gone)) 20 30 [] (steps.Collect p1_1 ∷ [])
    ∷ []

abbrev told : List Told
told = told_1 ++ told_2 ++ told_3

entries : history_of settings (events_of told) ≡ happenings told
unfolding all_rules
entries = refl

observations : seen_in settings told ≡ Some (observed no_call (happenings told))
unfolding all_rules
observations = refl
