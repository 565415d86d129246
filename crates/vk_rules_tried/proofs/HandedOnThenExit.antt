-- The first target exits after it handed a message on, which changes nothing; when the new holder exits the sender is told so in the name of the first target.
use Rattle.std.proofs.Common.{◌≡◌, List, [], ◌∷◌, ◌++◌, Some, replicate, refl}
use Rattle.vk_types.specs.Types.{Message}
use Rattle.vk_base.specs.declared.call.Call.TheVariants as calls
use Rattle.vk_base.specs.declared.answer.Answer.TheVariants as answers
use Rattle.vk_base.specs.declared.answer.Ending.TheVariants as endings
use Rattle.vk_base.specs.declared.step.Step.TheVariants as steps
use Rattle.vk_base.specs.Packets as packets
use Rattle.vk_base.specs.Settings.{Settings}
use Rattle.vk_base.specs.declared.event.EventAnswer.TheVariants as given
use Rattle.vk_rules.specs.Frames.{Frame}
use Rattle.vk_rules.specs.Histories.{history_of}
use Rattle.vk_rules.specs.Observed.{no_call}
use Rattle.vk_rules.specs.Observed.{observed}
use Rattle.vk_rules_tried.proofs.Words.{Told, framed, call, collect, deliver, events_of, happenings, seen_in, p1_1, p1_2, p2_1}
unfoldable use Rattle.vk_rules_tried.proofs.Words.{all_rules}

abbrev message_1 : Message
message_1 = record { 0 = ((10 ∷ []) ++ replicate 31 0) }

abbrev message_2 : Message
message_2 = record { 0 = ((12 ∷ []) ++ replicate 31 0) }

abbrev settings : Settings
settings = record {
  times = record { tries = 1; interval = 1; life = 20 };
  pools = 16 ∷ 16 ∷ [];
  specs = record { pid = p1_1; size = 64 } ∷ record { pid = p1_2; size = 64 } ∷ record { pid = p2_1; size = 64 } ∷ [];
}

abbrev frame_2_1_1 : Frame
frame_2_1_1 = framed 2 1 0 1 1 1 (packets.Send p2_1 p1_1 1 message_1 [])

abbrev frame_1_6_1 : Frame
frame_1_6_1 = framed 1 2 0 7 6 1 (packets.Pending p1_1 p2_1 1)

abbrev frame_1_7_1 : Frame
frame_1_7_1 = framed 1 2 0 8 7 1 (packets.Negative p1_1 p2_1 1)

abbrev frame_1_8_1 : Frame
frame_1_8_1 = framed 1 2 0 9 8 1 (packets.Negative p1_1 p2_1 1)

abbrev told : List Told
told =
    call 1 p2_1 (calls.Send p1_1 message_1) given.Begun 0 1 (frame_2_1_1 ∷ []) []
    ∷ deliver 1 1 frame_2_1_1 given.Taken 0 2 [] (steps.Arrive p2_1 1 ∷ [])
    ∷ call 2 p1_1 calls.Receive given.Begun 0 3 [] (steps.Take p1_1 ∷ [])
    ∷ collect 3 p1_1 (given.Answered (answers.Received p2_1 message_1)) 0 4 [] (steps.Collect p1_1 ∷ [])
    ∷ call 4 p1_1 (calls.Forward message_2 p2_1 p1_2) (given.Answered answers.Ok) 0 5 [] []
    ∷ call 5 p1_1 calls.Exit (given.Answered answers.Ok) 0 6 [] []
    ∷ deliver 1 6 frame_2_1_1 given.Taken 0 7 (frame_1_6_1 ∷ []) []
    ∷ call 7 p1_2 calls.Exit (given.Answered answers.Ok) 0 8 (frame_1_7_1 ∷ []) []
    ∷ deliver 2 2 frame_1_7_1 given.Taken 0 9 [] (steps.Fail p2_1 endings.NoProcess ∷ [])
    ∷ deliver 1 8 frame_2_1_1 given.Taken 0 9 (frame_1_8_1 ∷ []) []
    ∷ []

entries : history_of settings (events_of told) ≡ happenings told
unfolding all_rules
entries = refl

observations : seen_in settings told ≡ Some (observed no_call (happenings told))
unfolding all_rules
observations = refl
