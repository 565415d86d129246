-- Whatever message a Forward shows, the new holder moves by the grants of the Send.
use Rattle.std.proofs.Common.{◌≡◌, List, [], ◌∷◌, ◌++◌, Some, replicate, refl}
use Rattle.vk_types.specs.Types.{Message}
use Rattle.vk_base.specs.declared.call.Call.TheVariants as calls
use Rattle.vk_base.specs.declared.answer.Answer.TheVariants as answers
use Rattle.vk_base.specs.declared.answer.Refusal.TheVariants as refusals
use Rattle.vk_base.specs.declared.step.Step.TheVariants as steps
use Rattle.vk_base.specs.Settings.{Settings}
use Rattle.vk_base.specs.declared.event.EventAnswer.TheVariants as given
use Rattle.vk_rules.specs.Histories.{history_of}
use Rattle.vk_rules.specs.Observed.{no_call}
use Rattle.vk_rules.specs.Observed.{observed}
use Rattle.vk_rules_tried.proofs.Words.{Told, call, collect, events_of, happenings, seen_in, p1_1, p1_2, p1_3}
unfoldable use Rattle.vk_rules_tried.proofs.Words.{all_rules}

abbrev message_1 : Message
message_1 = record { 0 = ((1 ∷ []) ++ replicate 30 0 ++ (16 ∷ [])) }

abbrev message_2 : Message
message_2 = record { 0 = ((3 ∷ []) ++ replicate 30 0 ++ (64 ∷ [])) }

abbrev settings : Settings
settings = record {
  times = record { tries = 5; interval = 4; life = 8 };
  pools = 16 ∷ [];
  specs = record { pid = p1_1; size = 64 } ∷ record { pid = p1_2; size = 64 } ∷ record { pid = p1_3; size = 64 } ∷ [];
}

abbrev told : List Told
told =
    call 1 p1_1 (calls.Send p1_2 message_1) given.Begun 0 1 [] []
    ∷ call 2 p1_2 calls.Receive given.Begun 0 2 [] (steps.Take p1_2 ∷ [])
    ∷ collect 3 p1_2 (given.Answered (answers.Received p1_1 message_1)) 0 3 [] (steps.Collect p1_2 ∷ [])
    ∷ call 4 p1_2 (calls.Forward message_2 p1_1 p1_3) (given.Answered answers.Ok) 0 4 [] []
    ∷ call 5 p1_3 calls.Receive given.Begun 0 5 [] (steps.Take p1_3 ∷ [])
    ∷ collect 6 p1_3 (given.Answered (answers.Received p1_1 message_2)) 0 6 [] (steps.Collect p1_3 ∷ [])
    ∷ call 7 p1_3 (calls.MoveFrom p1_1 0 0 16) (given.Answered answers.Ok) 0 7 [] []
    ∷ call 8 p1_3 (calls.MoveFrom p1_1 0 0 17) (given.Answered (answers.Refused refusals.BadRange)) 0 8 [] []
    ∷ call 9 p1_3 (calls.MoveTo p1_1 0 0 1) (given.Answered (answers.Refused refusals.NoAccess)) 0 9 [] []
    ∷ []

entries : history_of settings (events_of told) ≡ happenings told
unfolding all_rules
entries = refl

observations : seen_in settings told ≡ Some (observed no_call (happenings told))
unfolding all_rules
observations = refl
