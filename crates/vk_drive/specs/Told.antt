-- What a history has told the processes, and which frames it has emitted.
use Rattle.std.specs.Prelude.{ℕ, Bool, true, false, not, List, [], ◌∷◌, count_by, flat_map, map, option_to_list, if◌then◌else◌}
use Rattle.vk_types.specs.Types.{Answer, EventAnswer, Pid, Refusal}
use Rattle.vk_base.specs.declared.answer.Answer.TheVariants as answers
use Rattle.vk_base.specs.declared.answer.Refusal.TheVariants as refusals
use Rattle.vk_base.specs.declared.event.EventAnswer.TheVariants as given
use Rattle.vk_base.specs.Pids.{same_pid}
use Rattle.vk_frame.specs.declared.header.Header.{Header}
use Rattle.vk_rules.specs.Entries.{Called, Collected, Input}
use Rattle.vk_rules.specs.Frames.{Frame}
use Rattle.vk_rules.specs.Histories.{At, Happened, Missing}
use Rattle.vk_rules.specs.Observed.{handed_out, is_not_yet}

-- the event is a call or a collect of this process
abbrev pub is_by : Pid → Input → Bool
is_by pid (Called q call) = same_pid q pid
is_by pid (Collected q) = same_pid q pid
is_by pid i = false

-- what its calls and collects were answered, in order
abbrev pub answered_in : Pid → Happened → List EventAnswer
answered_in pid (At host event e) = if is_by pid e.input then e.answer ∷ [] else []
answered_in pid (Missing host) = []

abbrev pub answered_to : Pid → List Happened → List EventAnswer
answered_to pid hs = flat_map (answered_in pid) hs

-- of these the answers that tell it something: not that a call begun, and not that a collect came too early
abbrev pub told : List EventAnswer → List Answer
told heard = flat_map (λ a. option_to_list (handed_out a)) heard

-- Whether its last call is still to be collected: once a call began, until it is told an answer.
abbrev pub waits_after : Bool → EventAnswer → Bool
waits_after waits given.Begun = true
waits_after waits (given.Answered a) = if is_not_yet a then waits else false
waits_after waits a = waits

abbrev pub waits_from : Bool → List EventAnswer → Bool
waits_from waits [] = waits
waits_from waits (a ∷ heard) = waits_from (waits_after waits a) heard

abbrev pub is_waiting : List EventAnswer → Bool
is_waiting heard = waits_from false heard

-- the frames that were emitted, in order, by their headers
abbrev pub headers : List Frame → List Header
headers fs = map (λ (f : Frame). f.header) fs

abbrev pub emitted_in : Happened → List Header
emitted_in (At host event e) = headers e.frames
emitted_in (Missing host) = []

abbrev pub all_emitted : List Happened → List Header
all_emitted hs = flat_map emitted_in hs

-- how many events were answered so
abbrev pub has_answer : (EventAnswer → Bool) → Happened → Bool
has_answer test (At host event e) = test e.answer
has_answer test (Missing host) = false

abbrev pub count_answered : (EventAnswer → Bool) → List Happened → ℕ
count_answered test hs = count_by (has_answer test) hs

abbrev pub is_old : EventAnswer → Bool
is_old given.Old = true
is_old a = false

abbrev pub tells_answer : EventAnswer → Bool
tells_answer (given.Answered a) = not (is_not_yet a)
tells_answer a = false

abbrev pub is_timed_out_refusal : Refusal → Bool
is_timed_out_refusal refusals.TimedOut = true
is_timed_out_refusal why = false

abbrev pub is_timed_out_answer : Answer → Bool
is_timed_out_answer (answers.Refused why) = is_timed_out_refusal why
is_timed_out_answer a = false

abbrev pub is_timed_out : EventAnswer → Bool
is_timed_out (given.Answered a) = is_timed_out_answer a
is_timed_out a = false
