-- With one place for aliens a second sender is told that it is pending, again and again, without failing; it arrives once
-- the tick has come that frees the first alien, which was replied to.
use Rattle.std.proofs.Common.{◌≡◌, List, [], ◌∷◌, ◌++◌, Some, replicate, refl}
use Rattle.vk_types.specs.Types.{Message}
use Rattle.vk_base.specs.declared.call.Call.TheVariants as calls
use Rattle.vk_base.specs.declared.answer.Answer.TheVariants as answers
use Rattle.vk_base.specs.declared.step.Step.TheVariants as steps
use Rattle.vk_base.specs.Packets as packets
use Rattle.vk_base.specs.Settings.{Settings}
use Rattle.vk_base.specs.declared.event.EventAnswer.TheVariants as given
use Rattle.vk_rules.specs.Frames.{Frame}
use Rattle.vk_rules.specs.Histories.{history_of}
use Rattle.vk_rules.specs.Observed.{no_call}
use Rattle.vk_rules.specs.Observed.{observed}
use Rattle.vk_rules_tried.proofs.Words.{Told, framed, call, collect, tick, deliver, events_of, happenings, seen_in, p1_1, p2_1, p3_1}
unfoldable use Rattle.vk_rules_tried.proofs.Words.{all_rules}

abbrev message_1 : Message
message_1 = record { 0 = (10 ∷ []) ++ replicate 31 0 }

abbrev message_2 : Message
message_2 = record { 0 = (11 ∷ []) ++ replicate 31 0 }

abbrev message_3 : Message
message_3 = record { 0 = (13 ∷ []) ++ replicate 31 0 }

abbrev settings : Settings
settings = record {
  times = record { tries = 5; interval = 4; life = 8 };
  pools = 1 ∷ 1 ∷ 1 ∷ [];
  specs = record { pid = p1_1; size = 64 } ∷ record { pid = p2_1; size = 64 } ∷ record { pid = p3_1; size = 64 } ∷ [];
}

abbrev frame_2_1_1 : Frame
frame_2_1_1 = framed 2 1 0 1 1 1 (packets.Send p2_1 p1_1 1 message_1 [])

abbrev frame_3_1_1 : Frame
frame_3_1_1 = framed 3 1 0 1 1 1 (packets.Send p3_1 p1_1 1 message_2 [])

abbrev frame_1_2_1 : Frame
frame_1_2_1 = framed 1 3 0 3 2 1 (packets.Pending p1_1 p3_1 1)

abbrev frame_1_5_1 : Frame
frame_1_5_1 = framed 1 2 0 6 5 1 (packets.Reply p1_1 p2_1 1 message_3 0 [])

abbrev frame_3_6_1 : Frame
frame_3_6_1 = framed 3 1 4 8 6 1 (packets.Send p3_1 p1_1 1 message_2 [])

abbrev frame_3_10_1 : Frame
frame_3_10_1 = framed 3 1 8 12 10 1 (packets.Send p3_1 p1_1 1 message_2 [])

abbrev frame_3_14_1 : Frame
frame_3_14_1 = framed 3 1 12 16 14 1 (packets.Send p3_1 p1_1 1 message_2 [])

abbrev frame_3_18_1 : Frame
frame_3_18_1 = framed 3 1 16 20 18 1 (packets.Send p3_1 p1_1 1 message_2 [])

abbrev frame_1_22_1 : Frame
frame_1_22_1 = framed 1 3 16 23 22 1 (packets.Pending p1_1 p3_1 1)

abbrev frame_3_23_1 : Frame
frame_3_23_1 = framed 3 1 20 28 23 1 (packets.Send p3_1 p1_1 1 message_2 [])

abbrev frame_3_27_1 : Frame
frame_3_27_1 = framed 3 1 24 32 27 1 (packets.Send p3_1 p1_1 1 message_2 [])

abbrev frame_3_31_1 : Frame
frame_3_31_1 = framed 3 1 28 36 31 1 (packets.Send p3_1 p1_1 1 message_2 [])

abbrev frame_3_35_1 : Frame
frame_3_35_1 = framed 3 1 32 40 35 1 (packets.Send p3_1 p1_1 1 message_2 [])

abbrev frame_3_39_1 : Frame
frame_3_39_1 = framed 3 1 36 44 39 1 (packets.Send p3_1 p1_1 1 message_2 [])

abbrev told_1 : List Told
told_1 =
    call 1 p2_1 (calls.Send p1_1 message_1) given.Begun 0 1 (frame_2_1_1 ∷ []) []
    ∷ call 1 p3_1 (calls.Send p1_1 message_2) given.Begun 0 1 (frame_3_1_1 ∷ []) []
    ∷ deliver 1 1 frame_2_1_1 given.Taken 0 2 [] (steps.Arrive p2_1 1 ∷ [])
    ∷ deliver 1 2 frame_3_1_1 given.Taken 0 3 (frame_1_2_1 ∷ []) []
    ∷ deliver 3 2 frame_1_2_1 given.Taken 0 4 [] []
    ∷ call 3 p1_1 calls.Receive given.Begun 0 4 [] (steps.Take p1_1 ∷ [])
    ∷ collect 4 p1_1 (given.Answered (answers.Received p2_1 message_1)) 0 5 [] (steps.Collect p1_1 ∷ [])
    ∷ call 5 p1_1 (calls.Reply message_3 p2_1) (given.Answered answers.Ok) 0 6 (frame_1_5_1 ∷ []) []
    ∷ deliver 2 2 frame_1_5_1 given.Taken 0 7 [] (steps.Finish p2_1 ∷ [])
    ∷ tick 1 6 1 7 [] []
    ∷ tick 3 3 1 5 [] []
    ∷ tick 1 7 2 8 [] []
    ∷ tick 3 4 2 6 [] []
    ∷ tick 1 8 3 9 [] []
    ∷ tick 3 5 3 7 [] []
    ∷ tick 1 9 4 10 [] []
    ∷ tick 3 6 4 8 (frame_3_6_1 ∷ []) []
    ∷ tick 1 10 5 11 [] []
    ∷ tick 3 7 5 9 [] []
    ∷ tick 1 11 6 12 [] []
    ∷ tick 3 8 6 10 [] []
    ∷ tick 1 12 7 13 [] []
    ∷ tick 3 9 7 11 [] []
    ∷ tick 1 13 8 14 [] []
    ∷ []

abbrev told_2 : List Told
told_2 =
    tick 3 10 8 12 (frame_3_10_1 ∷ []) []
    ∷ tick 1 14 9 15 [] []
    ∷ tick 3 11 9 13 [] []
    ∷ tick 1 15 10 16 [] []
    ∷ tick 3 12 10 14 [] []
    ∷ tick 1 16 11 17 [] []
    ∷ tick 3 13 11 15 [] []
    ∷ tick 1 17 12 18 [] []
    ∷ tick 3 14 12 16 (frame_3_14_1 ∷ []) []
    ∷ tick 1 18 13 19 [] []
    ∷ tick 3 15 13 17 [] []
    ∷ tick 1 19 14 20 [] []
    ∷ tick 3 16 14 18 [] []
    ∷ tick 1 20 15 21 [] []
    ∷ tick 3 17 15 19 [] []
    ∷ tick 1 21 16 22 [] []
    ∷ tick 3 18 16 20 (frame_3_18_1 ∷ []) []
    ∷ deliver 1 22 frame_3_18_1 given.Taken 16 23 (frame_1_22_1 ∷ []) []
    ∷ deliver 3 19 frame_1_22_1 given.Taken 16 24 [] []
    ∷ tick 1 23 17 24 [] []
    ∷ tick 3 20 17 25 [] []
    ∷ tick 1 24 18 25 [] []
    ∷ tick 3 21 18 26 [] []
    ∷ tick 1 25 19 26 [] []
    ∷ []

abbrev told_3 : List Told
told_3 =
    tick 3 22 19 27 [] []
    ∷ tick 1 26 20 27 [] []
    ∷ tick 3 23 20 28 (frame_3_23_1 ∷ []) []
    ∷ tick 1 27 21 28 [] []
    ∷ tick 3 24 21 29 [] []
    ∷ tick 1 28 22 29 [] []
    ∷ tick 3 25 22 30 [] []
    ∷ tick 1 29 23 30 [] []
    ∷ tick 3 26 23 31 [] []
    ∷ tick 1 30 24 31 [] []
    ∷ tick 3 27 24 32 (frame_3_27_1 ∷ []) []
    ∷ tick 1 31 25 32 [] []
    ∷ tick 3 28 25 33 [] []
    ∷ tick 1 32 26 33 [] []
    ∷ tick 3 29 26 34 [] []
    ∷ tick 1 33 27 34 [] []
    ∷ tick 3 30 27 35 [] []
    ∷ tick 1 34 28 35 [] []
    ∷ tick 3 31 28 36 (frame_3_31_1 ∷ []) []
    ∷ tick 1 35 29 36 [] []
    ∷ tick 3 32 29 37 [] []
    ∷ tick 1 36 30 37 [] []
    ∷ tick 3 33 30 38 [] []
    ∷ tick 1 37 31 38 [] []
    ∷ []

abbrev told_4 : List Told
told_4 =
    tick 3 34 31 39 [] []
    ∷ tick 1 38 32 39 [] []
    ∷ tick 3 35 32 40 (frame_3_35_1 ∷ []) []
    ∷ tick 1 39 33 40 [] []
    ∷ tick 3 36 33 41 [] []
    ∷ tick 1 40 34 41 [] []
    ∷ tick 3 37 34 42 [] []
    ∷ tick 1 41 35 42 [] []
    ∷ tick 3 38 35 43 [] []
    ∷ tick 1 42 36 43 [] []
    ∷ tick 3 39 36 44 (frame_3_39_1 ∷ []) []
    ∷ tick 1 43 37 44 [] []
    ∷ tick 3 40 37 45 [] []
    ∷ deliver 1 44 frame_3_39_1 given.Taken 37 45 [] (steps.Arrive p3_1 1 ∷ [])
    ∷ []

abbrev told : List Told
told = told_1 ++ told_2 ++ told_3 ++ told_4

entries : history_of settings (events_of told) ≡ happenings told
unfolding all_rules
entries = refl

-- the same where only the first station has a pool of one
abbrev one_alone : Settings
one_alone = record settings { pools = 1 ∷ 16 ∷ 16 ∷ [] }

entries_of_one : history_of one_alone (events_of told) ≡ happenings told
unfolding all_rules
entries_of_one = refl

observations : seen_in settings told ≡ Some (observed no_call (happenings told))
unfolding all_rules
observations = refl
