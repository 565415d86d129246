-- A Send that nobody answers goes out at its call and at four ticks, four apart, and fails at the fifth.
use Rattle.std.proofs.Common.{◌≡◌, List, [], ◌∷◌, ◌++◌, Some, replicate, refl}
use Rattle.vk_types.specs.Types.{Message}
use Rattle.vk_base.specs.declared.call.Call.TheVariants as calls
use Rattle.vk_base.specs.declared.answer.Answer.TheVariants as answers
use Rattle.vk_base.specs.declared.answer.Ending.TheVariants as endings
use Rattle.vk_base.specs.declared.answer.Refusal.TheVariants as refusals
use Rattle.vk_base.specs.declared.step.Step.TheVariants as steps
use Rattle.vk_base.specs.Packets as packets
use Rattle.vk_base.specs.Settings.{Settings}
use Rattle.vk_base.specs.declared.event.EventAnswer.TheVariants as given
use Rattle.vk_rules.specs.Frames.{Frame}
use Rattle.vk_rules.specs.Histories.{history_of}
use Rattle.vk_rules.specs.Observed.{no_call}
use Rattle.vk_rules.specs.Observed.{observed}
use Rattle.vk_rules_tried.proofs.Words.{Told, framed, call, collect, tick, events_of, happenings, seen_in, p1_1, p2_1}
unfoldable use Rattle.vk_rules_tried.proofs.Words.{all_rules}

abbrev message_1 : Message
message_1 = record { 0 = (10 ∷ []) ++ replicate 31 0 }

abbrev settings : Settings
settings = record {
  times = record { tries = 5; interval = 4; life = 8 };
  pools = 16 ∷ 16 ∷ [];
  specs = record { pid = p1_1; size = 64 } ∷ record { pid = p2_1; size = 64 } ∷ [];
}

abbrev frame_2_1_1 : Frame
frame_2_1_1 = framed 2 1 0 1 1 1 (packets.Send p2_1 p1_1 1 message_1 [])

abbrev frame_2_5_1 : Frame
frame_2_5_1 = framed 2 1 4 5 5 1 (packets.Send p2_1 p1_1 1 message_1 [])

abbrev frame_2_9_1 : Frame
frame_2_9_1 = framed 2 1 8 9 9 1 (packets.Send p2_1 p1_1 1 message_1 [])

abbrev frame_2_13_1 : Frame
frame_2_13_1 = framed 2 1 12 13 13 1 (packets.Send p2_1 p1_1 1 message_1 [])

abbrev frame_2_17_1 : Frame
frame_2_17_1 = framed 2 1 16 17 17 1 (packets.Send p2_1 p1_1 1 message_1 [])

abbrev told : List Told
told =
    call 1 p2_1 (calls.Send p1_1 message_1) given.Begun 0 1 (frame_2_1_1 ∷ []) []
    ∷ tick 2 2 1 2 [] []
    ∷ tick 2 3 2 3 [] []
    ∷ tick 2 4 3 4 [] []
    ∷ tick 2 5 4 5 (frame_2_5_1 ∷ []) []
    ∷ tick 2 6 5 6 [] []
    ∷ tick 2 7 6 7 [] []
    ∷ tick 2 8 7 8 [] []
    ∷ tick 2 9 8 9 (frame_2_9_1 ∷ []) []
    ∷ tick 2 10 9 10 [] []
    ∷ tick 2 11 10 11 [] []
    ∷ tick 2 12 11 12 [] []
    ∷ tick 2 13 12 13 (frame_2_13_1 ∷ []) []
    ∷ tick 2 14 13 14 [] []
    ∷ tick 2 15 14 15 [] []
    ∷ tick 2 16 15 16 [] []
    ∷ tick 2 17 16 17 (frame_2_17_1 ∷ []) []
    ∷ tick 2 18 17 18 [] []
    ∷ tick 2 19 18 19 [] []
    ∷ tick 2 20 19 20 [] []
    ∷ collect 21 p2_1 (given.Answered (answers.Refused refusals.NotYet)) 19 21 [] []
    ∷ tick 2 22 20 22 [] (steps.Fail p2_1 endings.TimedOut ∷ [])
    ∷ collect 23 p2_1 (given.Answered (answers.Refused refusals.TimedOut)) 20 23 [] (steps.Collect p2_1 ∷ [])
    ∷ []

entries : history_of settings (events_of told) ≡ happenings told
unfolding all_rules
entries = refl

observations : seen_in settings told ≡ Some (observed no_call (happenings told))
unfolding all_rules
observations = refl
