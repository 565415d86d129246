-- A copy with a later stamp keeps the alien of a Send that was replied to for longer: until then another sender finds no slot.
use Rattle.std.proofs.Common.{◌≡◌, List, [], ◌∷◌, ◌++◌, Some, replicate, refl}
use Rattle.vk_types.specs.Types.{Message}
use Rattle.vk_base.specs.declared.call.Call.TheVariants as calls
use Rattle.vk_base.specs.declared.answer.Answer.TheVariants as answers
use Rattle.vk_base.specs.declared.step.Step.TheVariants as steps
use Rattle.vk_base.specs.Packets as packets
use Rattle.vk_base.specs.Settings.{Settings}
use Rattle.vk_base.specs.declared.event.EventAnswer.TheVariants as given
use Rattle.vk_rules.specs.Frames.{Frame}
use Rattle.vk_rules.specs.Histories.{history_of}
use Rattle.vk_rules.specs.Observed.{no_call}
use Rattle.vk_rules.specs.Observed.{observed}
use Rattle.vk_rules_tried.proofs.Words.{Told, framed, call, collect, tick, deliver, events_of, happenings, seen_in, p1_1, p2_1, p3_1}
unfoldable use Rattle.vk_rules_tried.proofs.Words.{all_rules}

abbrev message_1 : Message
message_1 = record { 0 = ((10 ∷ []) ++ replicate 31 0) }

abbrev message_2 : Message
message_2 = record { 0 = ((11 ∷ []) ++ replicate 31 0) }

abbrev message_3 : Message
message_3 = record { 0 = ((12 ∷ []) ++ replicate 31 0) }

abbrev settings : Settings
settings = record {
  times = record { tries = 3; interval = 1; life = 0 };
  pools = 1 ∷ 16 ∷ 16 ∷ [];
  specs = record { pid = p1_1; size = 64 } ∷ record { pid = p2_1; size = 64 } ∷ record { pid = p3_1; size = 64 } ∷ [];
}

abbrev frame_2_1_1 : Frame
frame_2_1_1 = framed 2 1 0 1 1 1 (packets.Send p2_1 p1_1 1 message_1 [])

abbrev frame_1_4_1 : Frame
frame_1_4_1 = framed 1 2 0 5 4 1 (packets.Reply p1_1 p2_1 1 message_2 0 [])

abbrev frame_2_2_1 : Frame
frame_2_2_1 = framed 2 1 1 2 2 1 (packets.Send p2_1 p1_1 1 message_1 [])

abbrev frame_2_3_1 : Frame
frame_2_3_1 = framed 2 1 2 3 3 1 (packets.Send p2_1 p1_1 1 message_1 [])

abbrev frame_1_5_1 : Frame
frame_1_5_1 = framed 1 2 0 6 5 1 (packets.Reply p1_1 p2_1 1 message_2 0 [])

abbrev frame_3_11_1 : Frame
frame_3_11_1 = framed 3 1 10 11 11 1 (packets.Send p3_1 p1_1 1 message_3 [])

abbrev frame_1_11_1 : Frame
frame_1_11_1 = framed 1 3 5 12 11 1 (packets.Pending p1_1 p3_1 1)

abbrev told_1 : List Told
told_1 =
    call 1 p2_1 (calls.Send p1_1 message_1) given.Begun 0 1 (frame_2_1_1 ∷ []) []
    ∷ deliver 1 1 frame_2_1_1 given.Taken 0 2 [] (steps.Arrive p2_1 1 ∷ [])
    ∷ call 2 p1_1 calls.Receive given.Begun 0 3 [] (steps.Take p1_1 ∷ [])
    ∷ collect 3 p1_1 (given.Answered (answers.Received p2_1 message_1)) 0 4 [] (steps.Collect p1_1 ∷ [])
    ∷ call 4 p1_1 (calls.Reply message_2 p2_1) (given.Answered answers.Ok) 0 5 (frame_1_4_1 ∷ []) []
    ∷ tick 2 2 1 2 (frame_2_2_1 ∷ []) []
    ∷ tick 2 3 2 3 (frame_2_3_1 ∷ []) []
    ∷ deliver 1 5 frame_2_3_1 given.Taken 0 6 (frame_1_5_1 ∷ []) []
    ∷ tick 3 1 1 1 [] []
    ∷ tick 3 2 2 2 [] []
    ∷ tick 3 3 3 3 [] []
    ∷ tick 3 4 4 4 [] []
    ∷ tick 3 5 5 5 [] []
    ∷ tick 3 6 6 6 [] []
    ∷ tick 3 7 7 7 [] []
    ∷ tick 3 8 8 8 [] []
    ∷ []

abbrev told_2 : List Told
told_2 =
    tick 3 9 9 9 [] []
    ∷ tick 3 10 10 10 [] []
    ∷ call 11 p3_1 (calls.Send p1_1 message_3) given.Begun 10 11 (frame_3_11_1 ∷ []) []
    ∷ tick 1 6 1 7 [] []
    ∷ tick 1 7 2 8 [] []
    ∷ tick 1 8 3 9 [] []
    ∷ tick 1 9 4 10 [] []
    ∷ tick 1 10 5 11 [] []
    ∷ deliver 1 11 frame_3_11_1 given.Taken 5 12 (frame_1_11_1 ∷ []) []
    ∷ tick 1 12 6 13 [] []
    ∷ deliver 1 13 frame_3_11_1 given.Taken 6 14 [] (steps.Arrive p3_1 1 ∷ [])
    ∷ []

abbrev told : List Told
told = told_1 ++ told_2

entries : history_of settings (events_of told) ≡ happenings told
unfolding all_rules
entries = refl

observations : seen_in settings told ≡ Some (observed no_call (happenings told))
unfolding all_rules
observations = refl
