-- The same, said of the history of a schedule.
use Rattle.std.specs.Prelude.{ℕ, ◌≡◌, List, slice_get, Some}
use Rattle.vk_types.specs.Types.{Message, Pid}
use Rattle.vk_base.specs.declared.answer.Answer.TheVariants as answers
use Rattle.vk_base.specs.declared.call.Call.TheVariants as calls
use Rattle.vk_base.specs.declared.step.Step.TheVariants as steps
use Rattle.vk_base.specs.Settings.{Settings}
use Rattle.vk_schedule.specs.declared.event.Event.{Event}
use Rattle.vk_pipe.specs.Pipes.{pipe_call}
use Rattle.v_laws.specs.Places.{seen_at}
use Rattle.v_laws.specs.Reached.{saw}
use Rattle.v_whole.specs.HistoryLaws.{IsSchedule, steps_of}
use Rattle.v_pages.specs.Scheduled.{FollowsIn}
use Rattle.v_pages.specs.Served.{RepliesToLast}
use Rattle.v_pipe.specs.Read.{IsHandedOut}
use Rattle.v_pipe.specs.Written.{IsSentWriteDone}

-- Who sent to r itself, and collects a reply, has it of r.
abbrev pub SendersAreAnsweredIn : Type 0
SendersAreAnsweredIn = (c : Settings) (es : List Event) (r : Pid) (requests i : ℕ) (s : Pid) (message reply : Message) →
    IsSchedule c es → FollowsIn (pipe_call requests) c es r → slice_get (steps_of c es) i ≡ Some (steps.Collect s) →
    seen_at c.specs (steps_of c es) i ≡ saw s (calls.Send r message) (answers.Replied reply) →
    (j : ℕ) × RepliesToLast c.specs (steps_of c es) i j s r

-- In each history in which r follows the task of a pipe server, each sender that collects a reply gets its piece so, in the steps of
-- that history, where r replied to its Send.
abbrev pub ReadsArePiecesIn : Type 0
ReadsArePiecesIn = (c : Settings) (es : List Event) (r : Pid) (requests i j : ℕ) (s target : Pid) (message reply : Message) →
    IsSchedule c es → FollowsIn (pipe_call requests) c es r → slice_get (steps_of c es) i ≡ Some (steps.Collect s) →
    seen_at c.specs (steps_of c es) i ≡ saw s (calls.Send target message) (answers.Replied reply) →
    RepliesToLast c.specs (steps_of c es) i j s r → IsHandedOut requests c.specs (steps_of c es) i j s r reply

-- and its write kept so
abbrev pub WritesAreKeptIn : Type 0
WritesAreKeptIn = (c : Settings) (es : List Event) (r : Pid) (requests i j : ℕ) (s target : Pid) (message reply : Message) →
    IsSchedule c es → FollowsIn (pipe_call requests) c es r → slice_get (steps_of c es) i ≡ Some (steps.Collect s) →
    seen_at c.specs (steps_of c es) i ≡ saw s (calls.Send target message) (answers.Replied reply) →
    RepliesToLast c.specs (steps_of c es) i j s r → IsSentWriteDone requests c.specs (steps_of c es) i j s r reply
