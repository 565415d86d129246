-- A move of 65,536 bytes from its partner in 64 packets, of which the fourth is lost: those behind it change nothing, the last one
-- shows the gap, and the move is asked for anew from there.
use Rattle.std.proofs.Common.{ℕ, zero, suc, ◌+◌, ◌≡◌, List, [], ◌∷◌, ◌++◌, Some, replicate, refl}
use Rattle.vk_types.specs.Types.{Message}
use Rattle.vk_base.specs.declared.call.Call.TheVariants as calls
use Rattle.vk_base.specs.declared.answer.Answer.TheVariants as answers
use Rattle.vk_base.specs.declared.answer.Ending.TheVariants as endings
use Rattle.vk_base.specs.declared.step.Step.TheVariants as steps
use Rattle.vk_base.specs.Packets as packets
use Rattle.vk_base.specs.Settings.{Settings}
use Rattle.vk_base.specs.declared.event.EventAnswer.TheVariants as given
use Rattle.vk_rules.specs.Frames.{Frame}
use Rattle.vk_rules.specs.Histories.{history_of}
use Rattle.vk_rules.specs.Observed.{no_call}
use Rattle.vk_rules.specs.Observed.{observed}
use Rattle.vk_rules_tried.proofs.Words.{Told, framed, call, collect, deliver, events_of, happenings, seen_in, p1_1, p2_1}
unfoldable use Rattle.vk_rules_tried.proofs.Words.{all_rules}

abbrev message_1 : Message
message_1 = record { 0 = (1 ∷ []) ++ replicate 28 0 ++ (1 ∷ 0 ∷ 0 ∷ []) }

abbrev settings : Settings
settings = record {
  times = record { tries = 5; interval = 4; life = 8 };
  pools = 16 ∷ 16 ∷ [];
  specs = record { pid = p1_1; size = 65536 } ∷ record { pid = p2_1; size = 65536 } ∷ [];
}

abbrev frame_2_1_1 : Frame
frame_2_1_1 = framed 2 1 0 1 1 1 (packets.Send p2_1 p1_1 1 message_1 (replicate 512 0))

-- the move is asked for, and again from the lost bytes on
abbrev frame_1_4_1 : Frame
frame_1_4_1 = framed 1 2 0 5 4 1 (packets.MoveRequest p1_1 p2_1 1 1 0 65536 0)

abbrev frame_1_67_1 : Frame
frame_1_67_1 = framed 1 2 0 69 67 1 (packets.MoveRequest p1_1 p2_1 1 1 0 65536 3072)

-- bytes that were asked for, and so many frames of them, of one event
abbrev bytes_frame : (number event output offset : ℕ) → Frame
bytes_frame number event output offset =
    framed 2 1 0 number event output (packets.MoveBytes p2_1 p1_1 1 1 65536 offset (replicate 1024 0))

abbrev bytes_frames : (number event output offset count : ℕ) → List Frame
bytes_frames number event output offset zero = []
bytes_frames number event output offset (suc n) =
    bytes_frame number event output offset ∷ bytes_frames number event (output + 1) (offset + 1024) n

-- so many of them come one after the other, and each is copied; or each changes nothing
abbrev copied_pieces : (place at : ℕ) (number event output offset count : ℕ) → List Told
copied_pieces place at number event output offset zero = []
copied_pieces place at number event output offset (suc n) =
    deliver 1 place (bytes_frame number event output offset) given.Taken 0 at [] (steps.Copy p2_1 1 1 offset 1024 ∷ [])
    ∷ copied_pieces (place + 1) (at + 1) number event (output + 1) (offset + 1024) n

abbrev idle_pieces : (place at : ℕ) (number event output offset count : ℕ) → List Told
idle_pieces place at number event output offset zero = []
idle_pieces place at number event output offset (suc n) =
    deliver 1 place (bytes_frame number event output offset) given.Taken 0 at [] []
    ∷ idle_pieces (place + 1) (at + 1) number event (output + 1) (offset + 1024) n

abbrev told_1 : List Told
told_1 =
    call 1 p2_1 (calls.Send p1_1 message_1) given.Begun 0 1 (frame_2_1_1 ∷ []) []
    ∷ deliver 1 1 frame_2_1_1 given.Taken 0 2 [] (steps.Arrive p2_1 1 ∷ [])
    ∷ call 2 p1_1 calls.Receive given.Begun 0 3 [] (steps.Take p1_1 ∷ [])
    ∷ collect 3 p1_1 (given.Answered (answers.Received p2_1 message_1)) 0 4 [] (steps.Collect p1_1 ∷ [])
    ∷ call 4 p1_1 (calls.MoveFrom p2_1 0 0 65536) given.Begun 0 5 (frame_1_4_1 ∷ []) []
    ∷ deliver 2 2 frame_1_4_1 given.Taken 0 6 (bytes_frames 6 2 1 0 64) (steps.OpenMove p2_1 1 1 ∷ [])
    ∷ []

abbrev told_2 : List Told
told_2 =
    deliver 1 67 (bytes_frame 6 2 64 64512) given.Taken 0 69 (frame_1_67_1 ∷ []) []
    ∷ deliver 2 3 frame_1_67_1 given.Taken 0 70 (bytes_frames 70 3 1 3072 61) []
    ∷ []

abbrev told_3 : List Told
told_3 =
    deliver 1 128 (bytes_frame 70 3 61 64512) given.Taken 0 131 [] (steps.Copy p2_1 1 1 64512 1024 ∷ steps.End p1_1 endings.Ok ∷ [])
    ∷ collect 129 p1_1 (given.Answered answers.Ok) 0 132 [] (steps.Collect p1_1 ∷ [])
    ∷ []

abbrev told : List Told
told = told_1 ++ copied_pieces 5 7 6 2 1 0 3 ++ idle_pieces 8 10 6 2 5 4096 59 ++ told_2 ++ copied_pieces 68 71 70 3 1 3072 60 ++ told_3

entries : history_of settings (events_of told) ≡ happenings told
unfolding all_rules
entries = refl

observations : seen_in settings told ≡ Some (observed no_call (happenings told))
unfolding all_rules
observations = refl
