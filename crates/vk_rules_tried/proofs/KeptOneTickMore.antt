-- The same, one tick earlier: the copy is young, its alien is still kept, and the kept Reply goes out.
use Rattle.std.proofs.Common.{◌≡◌, List, [], ◌∷◌, ◌++◌, Some, replicate, refl}
use Rattle.vk_types.specs.Types.{Message}
use Rattle.vk_base.specs.declared.call.Call.TheVariants as calls
use Rattle.vk_base.specs.declared.answer.Answer.TheVariants as answers
use Rattle.vk_base.specs.declared.step.Step.TheVariants as steps
use Rattle.vk_base.specs.Packets as packets
use Rattle.vk_base.specs.Settings.{Settings}
use Rattle.vk_base.specs.declared.event.EventAnswer.TheVariants as given
use Rattle.vk_rules.specs.Frames.{Frame}
use Rattle.vk_rules.specs.Histories.{history_of}
use Rattle.vk_rules.specs.Observed.{no_call}
use Rattle.vk_rules.specs.Observed.{observed}
use Rattle.vk_rules_tried.proofs.Words.{Told, framed, call, collect, tick, deliver, events_of, happenings, seen_in, p1_1, p2_1}
unfoldable use Rattle.vk_rules_tried.proofs.Words.{all_rules}

abbrev message_1 : Message
message_1 = record { 0 = (10 ∷ []) ++ replicate 31 0 }

abbrev message_2 : Message
message_2 = record { 0 = (11 ∷ []) ++ replicate 31 0 }

abbrev settings : Settings
settings = record {
  times = record { tries = 5; interval = 4; life = 8 };
  pools = 16 ∷ 16 ∷ [];
  specs = record { pid = p1_1; size = 64 } ∷ record { pid = p2_1; size = 64 } ∷ [];
}

abbrev frame_2_10_1 : Frame
frame_2_10_1 = framed 2 1 9 10 10 1 (packets.Send p2_1 p1_1 1 message_1 [])

abbrev frame_1_12_1 : Frame
frame_1_12_1 = framed 1 2 10 12 12 1 (packets.Pending p1_1 p2_1 1)

abbrev frame_1_15_1 : Frame
frame_1_15_1 = framed 1 2 10 15 15 1 (packets.Reply p1_1 p2_1 1 message_2 0 [])

abbrev frame_2_14_1 : Frame
frame_2_14_1 = framed 2 1 13 14 14 1 (packets.Send p2_1 p1_1 1 message_1 [])

abbrev frame_2_18_1 : Frame
frame_2_18_1 = framed 2 1 17 18 18 1 (packets.Send p2_1 p1_1 1 message_1 [])

abbrev frame_2_24_1 : Frame
frame_2_24_1 = framed 2 1 22 24 24 1 (packets.Send p2_1 p1_1 1 message_1 [])

abbrev frame_2_28_1 : Frame
frame_2_28_1 = framed 2 1 26 28 28 1 (packets.Send p2_1 p1_1 1 message_1 [])

abbrev frame_2_32_1 : Frame
frame_2_32_1 = framed 2 1 30 32 32 1 (packets.Send p2_1 p1_1 1 message_1 [])

abbrev frame_2_36_1 : Frame
frame_2_36_1 = framed 2 1 34 36 36 1 (packets.Send p2_1 p1_1 1 message_1 [])

abbrev frame_2_40_1 : Frame
frame_2_40_1 = framed 2 1 38 40 40 1 (packets.Send p2_1 p1_1 1 message_1 [])

abbrev frame_1_52_1 : Frame
frame_1_52_1 = framed 1 2 46 52 52 1 (packets.Reply p1_1 p2_1 1 message_2 0 [])

abbrev told_1 : List Told
told_1 =
    tick 2 1 1 1 [] []
    ∷ tick 2 2 2 2 [] []
    ∷ tick 2 3 3 3 [] []
    ∷ tick 2 4 4 4 [] []
    ∷ tick 2 5 5 5 [] []
    ∷ tick 2 6 6 6 [] []
    ∷ tick 2 7 7 7 [] []
    ∷ tick 2 8 8 8 [] []
    ∷ tick 2 9 9 9 [] []
    ∷ call 10 p2_1 (calls.Send p1_1 message_1) given.Begun 9 10 (frame_2_10_1 ∷ []) []
    ∷ tick 1 1 1 1 [] []
    ∷ tick 1 2 2 2 [] []
    ∷ tick 1 3 3 3 [] []
    ∷ tick 1 4 4 4 [] []
    ∷ tick 1 5 5 5 [] []
    ∷ tick 1 6 6 6 [] []
    ∷ tick 1 7 7 7 [] []
    ∷ tick 1 8 8 8 [] []
    ∷ tick 1 9 9 9 [] []
    ∷ tick 1 10 10 10 [] []
    ∷ deliver 1 11 frame_2_10_1 given.Taken 10 11 [] (steps.Arrive p2_1 1 ∷ [])
    ∷ deliver 1 12 frame_2_10_1 given.Taken 10 12 (frame_1_12_1 ∷ []) []
    ∷ call 13 p1_1 calls.Receive given.Begun 10 13 [] (steps.Take p1_1 ∷ [])
    ∷ collect 14 p1_1 (given.Answered (answers.Received p2_1 message_1)) 10 14 [] (steps.Collect p1_1 ∷ [])
    ∷ []

abbrev told_2 : List Told
told_2 =
    call 15 p1_1 (calls.Reply message_2 p2_1) (given.Answered answers.Ok) 10 15 (frame_1_15_1 ∷ []) []
    ∷ tick 2 11 10 11 [] []
    ∷ tick 2 12 11 12 [] []
    ∷ tick 2 13 12 13 [] []
    ∷ tick 2 14 13 14 (frame_2_14_1 ∷ []) []
    ∷ tick 2 15 14 15 [] []
    ∷ tick 2 16 15 16 [] []
    ∷ tick 2 17 16 17 [] []
    ∷ tick 2 18 17 18 (frame_2_18_1 ∷ []) []
    ∷ tick 2 19 18 19 [] []
    ∷ deliver 2 20 frame_1_12_1 given.Taken 18 20 [] []
    ∷ tick 2 21 19 21 [] []
    ∷ tick 2 22 20 22 [] []
    ∷ tick 2 23 21 23 [] []
    ∷ tick 2 24 22 24 (frame_2_24_1 ∷ []) []
    ∷ tick 2 25 23 25 [] []
    ∷ tick 2 26 24 26 [] []
    ∷ tick 2 27 25 27 [] []
    ∷ tick 2 28 26 28 (frame_2_28_1 ∷ []) []
    ∷ tick 2 29 27 29 [] []
    ∷ tick 2 30 28 30 [] []
    ∷ tick 2 31 29 31 [] []
    ∷ tick 2 32 30 32 (frame_2_32_1 ∷ []) []
    ∷ tick 2 33 31 33 [] []
    ∷ []

abbrev told_3 : List Told
told_3 =
    tick 2 34 32 34 [] []
    ∷ tick 2 35 33 35 [] []
    ∷ tick 2 36 34 36 (frame_2_36_1 ∷ []) []
    ∷ tick 2 37 35 37 [] []
    ∷ tick 2 38 36 38 [] []
    ∷ tick 2 39 37 39 [] []
    ∷ tick 2 40 38 40 (frame_2_40_1 ∷ []) []
    ∷ tick 1 16 11 16 [] []
    ∷ tick 1 17 12 17 [] []
    ∷ tick 1 18 13 18 [] []
    ∷ tick 1 19 14 19 [] []
    ∷ tick 1 20 15 20 [] []
    ∷ tick 1 21 16 21 [] []
    ∷ tick 1 22 17 22 [] []
    ∷ tick 1 23 18 23 [] []
    ∷ tick 1 24 19 24 [] []
    ∷ tick 1 25 20 25 [] []
    ∷ tick 1 26 21 26 [] []
    ∷ tick 1 27 22 27 [] []
    ∷ tick 1 28 23 28 [] []
    ∷ tick 1 29 24 29 [] []
    ∷ tick 1 30 25 30 [] []
    ∷ tick 1 31 26 31 [] []
    ∷ tick 1 32 27 32 [] []
    ∷ []

abbrev told_4 : List Told
told_4 =
    tick 1 33 28 33 [] []
    ∷ tick 1 34 29 34 [] []
    ∷ tick 1 35 30 35 [] []
    ∷ tick 1 36 31 36 [] []
    ∷ tick 1 37 32 37 [] []
    ∷ tick 1 38 33 38 [] []
    ∷ tick 1 39 34 39 [] []
    ∷ tick 1 40 35 40 [] []
    ∷ tick 1 41 36 41 [] []
    ∷ tick 1 42 37 42 [] []
    ∷ tick 1 43 38 43 [] []
    ∷ tick 1 44 39 44 [] []
    ∷ tick 1 45 40 45 [] []
    ∷ tick 1 46 41 46 [] []
    ∷ tick 1 47 42 47 [] []
    ∷ tick 1 48 43 48 [] []
    ∷ tick 1 49 44 49 [] []
    ∷ tick 1 50 45 50 [] []
    ∷ tick 1 51 46 51 [] []
    ∷ deliver 1 52 frame_2_40_1 given.Taken 46 52 (frame_1_52_1 ∷ []) []
    ∷ []

abbrev told : List Told
told = told_1 ++ told_2 ++ told_3 ++ told_4

entries : history_of settings (events_of told) ≡ happenings told
unfolding all_rules
entries = refl

observations : seen_in settings told ≡ Some (observed no_call (happenings told))
unfolding all_rules
observations = refl
