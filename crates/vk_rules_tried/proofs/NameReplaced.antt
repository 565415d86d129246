-- A name is registered anew, and its process exits: a lookup is told what stands when it is heard, and nothing where
-- nothing stands.
use Rattle.std.proofs.Common.{◌≡◌, List, [], ◌∷◌, Some, refl}
use Rattle.vk_base.specs.declared.call.Call.TheVariants as calls
use Rattle.vk_base.specs.declared.call.Scope.TheVariants as scopes
use Rattle.vk_base.specs.declared.answer.Answer.TheVariants as answers
use Rattle.vk_base.specs.declared.step.Step.TheVariants as steps
use Rattle.vk_base.specs.Packets as packets
use Rattle.vk_base.specs.Settings.{Settings}
use Rattle.vk_base.specs.declared.event.EventAnswer.TheVariants as given
use Rattle.vk_rules.specs.Frames.{Frame}
use Rattle.vk_rules.specs.Histories.{history_of}
use Rattle.vk_rules.specs.Observed.{no_call}
use Rattle.vk_rules.specs.Observed.{observed}
use Rattle.vk_rules_tried.proofs.Words.{Told, framed, call, collect, deliver, events_of, happenings, seen_in, p1_1, p1_2, p2_1}
unfoldable use Rattle.vk_rules_tried.proofs.Words.{all_rules}

abbrev settings : Settings
settings = record {
  times = record { tries = 5; interval = 4; life = 8 };
  pools = 16 ∷ 16 ∷ [];
  specs = record { pid = p1_1; size = 64 } ∷ record { pid = p1_2; size = 64 } ∷ record { pid = p2_1; size = 64 } ∷ [];
}

abbrev frame_2_1_1 : Frame
frame_2_1_1 = framed 2 65535 0 1 1 1 (packets.AskPid p2_1 1 7)

abbrev frame_1_2_1 : Frame
frame_1_2_1 = framed 1 2 0 2 2 1 (packets.TellPid p1_1 p2_1 1)

abbrev frame_1_4_1 : Frame
frame_1_4_1 = framed 1 2 0 4 4 1 (packets.TellPid p1_2 p2_1 1)

abbrev told : List Told
told =
    call 1 p1_1 (calls.SetPid 7 p1_1 scopes.Both) (given.Answered answers.Ok) 0 1 [] []
    ∷ call 1 p2_1 (calls.GetPid 7 scopes.Both) given.Begun 0 1 (frame_2_1_1 ∷ []) []
    ∷ deliver 1 2 frame_2_1_1 given.Taken 0 2 (frame_1_2_1 ∷ []) (steps.Hear p2_1 1 p1_1 ∷ [])
    ∷ call 3 p1_1 (calls.SetPid 7 p1_2 scopes.Remote) (given.Answered answers.Ok) 0 3 [] []
    ∷ deliver 1 4 frame_2_1_1 given.Taken 0 4 (frame_1_4_1 ∷ []) (steps.Hear p2_1 1 p1_2 ∷ [])
    ∷ call 5 p1_2 calls.Exit (given.Answered answers.Ok) 0 5 [] []
    ∷ deliver 1 6 frame_2_1_1 given.Taken 0 6 [] []
    ∷ deliver 2 2 frame_1_4_1 given.Taken 0 5 [] (steps.Found p2_1 p1_2 ∷ [])
    ∷ collect 3 p2_1 (given.Answered (answers.Found p1_2)) 0 6 [] (steps.Collect p2_1 ∷ [])
    ∷ deliver 2 4 frame_1_2_1 given.Taken 0 7 [] []
    ∷ []

entries : history_of settings (events_of told) ≡ happenings told
unfolding all_rules
entries = refl

observations : seen_in settings told ≡ Some (observed no_call (happenings told))
unfolding all_rules
observations = refl
