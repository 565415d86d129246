-- Of a move from the sender only the last bytes come: with none before them they answer the request, which goes out again
-- only when its time is over.
use Rattle.std.proofs.Common.{◌≡◌, List, [], ◌∷◌, ◌++◌, Some, replicate, refl}
use Rattle.vk_types.specs.Types.{Message}
use Rattle.vk_base.specs.declared.call.Call.TheVariants as calls
use Rattle.vk_base.specs.declared.answer.Answer.TheVariants as answers
use Rattle.vk_base.specs.declared.step.Step.TheVariants as steps
use Rattle.vk_base.specs.Packets as packets
use Rattle.vk_base.specs.Settings.{Settings}
use Rattle.vk_base.specs.declared.event.EventAnswer.TheVariants as given
use Rattle.vk_rules.specs.Frames.{Frame}
use Rattle.vk_rules.specs.Histories.{history_of}
use Rattle.vk_rules.specs.Observed.{no_call}
use Rattle.vk_rules.specs.Observed.{observed}
use Rattle.vk_rules_tried.proofs.Words.{Told, framed, call, collect, tick, deliver, events_of, happenings, seen_in, p1_1, p2_1}
unfoldable use Rattle.vk_rules_tried.proofs.Words.{all_rules}

abbrev message_1 : Message
message_1 = record { 0 = (1 ∷ []) ++ replicate 29 0 ++ (8 ∷ 0 ∷ []) }

abbrev settings : Settings
settings = record {
  times = record { tries = 5; interval = 4; life = 8 };
  pools = 16 ∷ 16 ∷ [];
  specs = record { pid = p1_1; size = 2048 } ∷ record { pid = p2_1; size = 2048 } ∷ [];
}

abbrev frame_2_1_1 : Frame
frame_2_1_1 = framed 2 1 0 1 1 1 (packets.Send p2_1 p1_1 1 message_1 (replicate 512 0))

abbrev frame_1_4_1 : Frame
frame_1_4_1 = framed 1 2 0 5 4 1 (packets.MoveRequest p1_1 p2_1 1 1 0 2048 0)

abbrev frame_2_2_1 : Frame
frame_2_2_1 = framed 2 1 0 6 2 1 (packets.MoveBytes p2_1 p1_1 1 1 2048 0 (replicate 1024 0))

abbrev frame_2_2_2 : Frame
frame_2_2_2 = framed 2 1 0 6 2 2 (packets.MoveBytes p2_1 p1_1 1 1 2048 1024 (replicate 1024 0))

abbrev frame_1_9_1 : Frame
frame_1_9_1 = framed 1 2 4 11 9 1 (packets.MoveRequest p1_1 p2_1 1 1 0 2048 0)

abbrev frame_2_3_1 : Frame
frame_2_3_1 = framed 2 1 0 12 3 1 (packets.MoveBytes p2_1 p1_1 1 1 2048 0 (replicate 1024 0))

abbrev frame_2_3_2 : Frame
frame_2_3_2 = framed 2 1 0 12 3 2 (packets.MoveBytes p2_1 p1_1 1 1 2048 1024 (replicate 1024 0))

abbrev told : List Told
told =
    call 1 p2_1 (calls.Send p1_1 message_1) given.Begun 0 1 (frame_2_1_1 ∷ []) []
    ∷ deliver 1 1 frame_2_1_1 given.Taken 0 2 [] (steps.Arrive p2_1 1 ∷ [])
    ∷ call 2 p1_1 calls.Receive given.Begun 0 3 [] (steps.Take p1_1 ∷ [])
    ∷ collect 3 p1_1 (given.Answered (answers.Received p2_1 message_1)) 0 4 [] (steps.Collect p1_1 ∷ [])
    ∷ call 4 p1_1 (calls.MoveFrom p2_1 0 0 2048) given.Begun 0 5 (frame_1_4_1 ∷ []) []
    ∷ deliver 2 2 frame_1_4_1 given.Taken 0 6 (frame_2_2_1 ∷ frame_2_2_2 ∷ []) (steps.OpenMove p2_1 1 1 ∷ [])
    ∷ deliver 1 5 frame_2_2_2 given.Taken 0 7 [] []
    ∷ tick 1 6 1 8 [] []
    ∷ tick 1 7 2 9 [] []
    ∷ tick 1 8 3 10 [] []
    ∷ tick 1 9 4 11 (frame_1_9_1 ∷ []) []
    ∷ deliver 2 3 frame_1_9_1 given.Taken 0 12 (frame_2_3_1 ∷ frame_2_3_2 ∷ []) []
    ∷ []

entries : history_of settings (events_of told) ≡ happenings told
unfolding all_rules
entries = refl

observations : seen_in settings told ≡ Some (observed no_call (happenings told))
unfolding all_rules
observations = refl
