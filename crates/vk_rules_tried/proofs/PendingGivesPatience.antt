-- A Pending that comes late answers the work: the Send goes out five times more, and fails after that.
use Rattle.std.proofs.Common.{◌≡◌, List, [], ◌∷◌, ◌++◌, Some, replicate, refl}
use Rattle.vk_types.specs.Types.{Message}
use Rattle.vk_base.specs.declared.call.Call.TheVariants as calls
use Rattle.vk_base.specs.declared.answer.Ending.TheVariants as endings
use Rattle.vk_base.specs.declared.step.Step.TheVariants as steps
use Rattle.vk_base.specs.Packets as packets
use Rattle.vk_base.specs.Settings.{Settings}
use Rattle.vk_base.specs.declared.event.EventAnswer.TheVariants as given
use Rattle.vk_rules.specs.Frames.{Frame}
use Rattle.vk_rules.specs.Histories.{history_of}
use Rattle.vk_rules.specs.Observed.{no_call}
use Rattle.vk_rules.specs.Observed.{observed}
use Rattle.vk_rules_tried.proofs.Words.{Told, framed, call, tick, deliver, events_of, happenings, seen_in, p1_1, p2_1}
unfoldable use Rattle.vk_rules_tried.proofs.Words.{all_rules}

abbrev message_1 : Message
message_1 = record { 0 = (10 ∷ []) ++ replicate 31 0 }

abbrev settings : Settings
settings = record {
  times = record { tries = 5; interval = 4; life = 8 };
  pools = 16 ∷ 16 ∷ [];
  specs = record { pid = p1_1; size = 64 } ∷ record { pid = p2_1; size = 64 } ∷ [];
}

abbrev frame_2_1_1 : Frame
frame_2_1_1 = framed 2 1 0 1 1 1 (packets.Send p2_1 p1_1 1 message_1 [])

abbrev frame_1_2_1 : Frame
frame_1_2_1 = framed 1 2 0 3 2 1 (packets.Pending p1_1 p2_1 1)

abbrev frame_2_5_1 : Frame
frame_2_5_1 = framed 2 1 4 5 5 1 (packets.Send p2_1 p1_1 1 message_1 [])

abbrev frame_2_12_1 : Frame
frame_2_12_1 = framed 2 1 10 12 12 1 (packets.Send p2_1 p1_1 1 message_1 [])

abbrev frame_2_16_1 : Frame
frame_2_16_1 = framed 2 1 14 16 16 1 (packets.Send p2_1 p1_1 1 message_1 [])

abbrev frame_2_20_1 : Frame
frame_2_20_1 = framed 2 1 18 20 20 1 (packets.Send p2_1 p1_1 1 message_1 [])

abbrev frame_2_24_1 : Frame
frame_2_24_1 = framed 2 1 22 24 24 1 (packets.Send p2_1 p1_1 1 message_1 [])

abbrev frame_2_28_1 : Frame
frame_2_28_1 = framed 2 1 26 28 28 1 (packets.Send p2_1 p1_1 1 message_1 [])

abbrev told_1 : List Told
told_1 =
    call 1 p2_1 (calls.Send p1_1 message_1) given.Begun 0 1 (frame_2_1_1 ∷ []) []
    ∷ deliver 1 1 frame_2_1_1 given.Taken 0 2 [] (steps.Arrive p2_1 1 ∷ [])
    ∷ deliver 1 2 frame_2_1_1 given.Taken 0 3 (frame_1_2_1 ∷ []) []
    ∷ tick 2 2 1 2 [] []
    ∷ tick 2 3 2 3 [] []
    ∷ tick 2 4 3 4 [] []
    ∷ tick 2 5 4 5 (frame_2_5_1 ∷ []) []
    ∷ tick 2 6 5 6 [] []
    ∷ tick 2 7 6 7 [] []
    ∷ deliver 2 8 frame_1_2_1 given.Taken 6 8 [] []
    ∷ tick 2 9 7 9 [] []
    ∷ tick 2 10 8 10 [] []
    ∷ tick 2 11 9 11 [] []
    ∷ tick 2 12 10 12 (frame_2_12_1 ∷ []) []
    ∷ tick 2 13 11 13 [] []
    ∷ tick 2 14 12 14 [] []
    ∷ tick 2 15 13 15 [] []
    ∷ tick 2 16 14 16 (frame_2_16_1 ∷ []) []
    ∷ tick 2 17 15 17 [] []
    ∷ tick 2 18 16 18 [] []
    ∷ tick 2 19 17 19 [] []
    ∷ tick 2 20 18 20 (frame_2_20_1 ∷ []) []
    ∷ tick 2 21 19 21 [] []
    ∷ tick 2 22 20 22 [] []
    ∷ []

abbrev told_2 : List Told
told_2 =
    tick 2 23 21 23 [] []
    ∷ tick 2 24 22 24 (frame_2_24_1 ∷ []) []
    ∷ tick 2 25 23 25 [] []
    ∷ tick 2 26 24 26 [] []
    ∷ tick 2 27 25 27 [] []
    ∷ tick 2 28 26 28 (frame_2_28_1 ∷ []) []
    ∷ tick 2 29 27 29 [] []
    ∷ tick 2 30 28 30 [] []
    ∷ tick 2 31 29 31 [] []
    ∷ tick 2 32 30 32 [] (steps.Fail p2_1 endings.TimedOut ∷ [])
    ∷ []

abbrev told : List Told
told = told_1 ++ told_2

entries : history_of settings (events_of told) ≡ happenings told
unfolding all_rules
entries = refl

observations : seen_in settings told ≡ Some (observed no_call (happenings told))
unfolding all_rules
observations = refl
