-- A message is handed on to its own sender.
use Rattle.std.proofs.Common.{◌≡◌, List, [], ◌∷◌, ◌++◌, Some, replicate, refl}
use Rattle.vk_types.specs.Types.{Message}
use Rattle.vk_base.specs.declared.call.Call.TheVariants as calls
use Rattle.vk_base.specs.declared.answer.Answer.TheVariants as answers
use Rattle.vk_base.specs.declared.answer.Refusal.TheVariants as refusals
use Rattle.vk_base.specs.declared.step.Step.TheVariants as steps
use Rattle.vk_base.specs.Settings.{Settings}
use Rattle.vk_base.specs.declared.event.EventAnswer.TheVariants as given
use Rattle.vk_rules.specs.Histories.{history_of}
use Rattle.vk_rules.specs.Observed.{no_call}
use Rattle.vk_rules.specs.Observed.{observed}
use Rattle.vk_rules_tried.proofs.Words.{Told, call, collect, events_of, happenings, seen_in, p1_1, p1_2, p2_1}
unfoldable use Rattle.vk_rules_tried.proofs.Words.{all_rules}

abbrev message_1 : Message
message_1 = record { 0 = ((10 ∷ []) ++ replicate 31 0) }

abbrev message_2 : Message
message_2 = record { 0 = ((12 ∷ []) ++ replicate 31 0) }

abbrev message_3 : Message
message_3 = record { 0 = ((13 ∷ []) ++ replicate 31 0) }

abbrev settings : Settings
settings = record {
  times = record { tries = 1; interval = 1; life = 20 };
  pools = 16 ∷ 16 ∷ [];
  specs = record { pid = p1_1; size = 64 } ∷ record { pid = p1_2; size = 64 } ∷ record { pid = p2_1; size = 64 } ∷ [];
}

abbrev told : List Told
told =
    call 1 p1_1 (calls.Send p1_2 message_1) given.Begun 0 1 [] []
    ∷ call 2 p1_2 calls.Receive given.Begun 0 2 [] (steps.Take p1_2 ∷ [])
    ∷ collect 3 p1_2 (given.Answered (answers.Received p1_1 message_1)) 0 3 [] (steps.Collect p1_2 ∷ [])
    ∷ call 4 p1_2 (calls.Forward message_2 p1_1 p1_1) (given.Answered answers.Ok) 0 4 [] []
    ∷ call 5 p1_2 (calls.Reply message_3 p1_1) (given.Answered (answers.Refused refusals.NotAwaiting)) 0 5 [] []
    ∷ []

entries : history_of settings (events_of told) ≡ happenings told
unfolding all_rules
entries = refl

observations : seen_in settings told ≡ Some (observed no_call (happenings told))
unfolding all_rules
observations = refl
