-- The same, said of the history of a schedule.
use Rattle.std.specs.Prelude.{ℕ, ◌≡◌, true, List, take, slice_get, Option, Some, None}
use Rattle.std.specs.List.{filter_map}
use Rattle.vk_types.specs.Types.{Answer, Call, Message, Pid}
use Rattle.vk_base.specs.declared.answer.Answer.TheVariants as answers
use Rattle.vk_base.specs.declared.call.Call.TheVariants as calls
use Rattle.vk_base.specs.declared.step.Step.TheVariants as steps
use Rattle.vk_base.specs.Kernel.{◌>>=◌}
use Rattle.vk_base.specs.Pids.{same_pid}
use Rattle.vk_base.specs.Settings.{Settings}
use Rattle.vk_base.specs.Steps.{only_if}
use Rattle.vk_schedule.specs.declared.event.Event.{Event}
use Rattle.vk_schedule.specs.declared.event.Event.TheVariants as events
use Rattle.vk_pages.specs.Servers.{server_call}
use Rattle.vk_rules.specs.Histories.{history_of}
use Rattle.vk_rules.specs.Observed.{no_call, observed}
use Rattle.v_laws.specs.Places.{seen_at}
use Rattle.v_laws.specs.Reached.{saw}
use Rattle.v_whole.specs.HistoryLaws.{IsSchedule, steps_of}
use Rattle.v_pages.specs.Followed.{IsNextCall, answer_in}
use Rattle.v_pages.specs.PageMap.{is_lawful_write}
use Rattle.v_pages.specs.Requests.{Request, request_at}
use Rattle.v_pages.specs.Served.{IsServed, IsServedAlone, RepliesToLast}
use Rattle.v_pages.specs.Written.{IsSentBefore}

-- the call that a process makes by an event
abbrev pub call_of : Pid → Event → Option Call
call_of r (events.Call pid c) = only_if (same_pid pid r) (Some c)
call_of r e = None

-- the calls that it makes by these events, and the answers that it sees in their history
abbrev pub calls_in : Pid → List Event → List Call
calls_in r es = filter_map (call_of r) es

abbrev pub answers_in : Settings → Pid → List Event → List Answer
answers_in c r es = filter_map (answer_in r) (observed no_call (history_of c es))

-- the process follows a task: each call that it makes is the task's next one after the events before
abbrev pub FollowsIn : (List Answer → Option Call) → Settings → List Event → Pid → Type 0
FollowsIn task c es r = (i : ℕ) (call : Call) → (slice_get es i >>= call_of r) ≡ Some call →
    IsNextCall task (calls_in r (take i es)) (answers_in c r (take i es)) call

-- In each history in which r follows the task of a page server, each sender that collects a reply is served so, in the steps of that
-- history, where r replied to its Send.
abbrev pub RequestsAreServedIn : Type 0
RequestsAreServedIn = (c : Settings) (es : List Event) (r : Pid) (pages requests i j : ℕ) (s target : Pid) (message reply : Message) →
    IsSchedule c es → FollowsIn (server_call pages requests) c es r → slice_get (steps_of c es) i ≡ Some (steps.Collect s) →
    seen_at c.specs (steps_of c es) i ≡ saw s (calls.Send target message) (answers.Replied reply) →
    RepliesToLast c.specs (steps_of c es) i j s r → IsServed c.specs (steps_of c es) i j s r pages reply

-- who sent to r, and collects a reply, was served by r alone
abbrev pub SendersAreServedIn : Type 0
SendersAreServedIn = (c : Settings) (es : List Event) (r : Pid) (pages requests i : ℕ) (s : Pid) (message reply : Message) →
    IsSchedule c es → FollowsIn (server_call pages requests) c es r → slice_get (steps_of c es) i ≡ Some (steps.Collect s) →
    seen_at c.specs (steps_of c es) i ≡ saw s (calls.Send r message) (answers.Replied reply) →
    IsServedAlone c.specs (steps_of c es) i s r pages message reply

-- and each lawful write that r took has the bytes of its sender as they were at the Send
abbrev pub WritesAreSentIn : Type 0
WritesAreSentIn = (c : Settings) (es : List Event) (r : Pid) (pages requests i : ℕ) (q : Request) → IsSchedule c es →
    FollowsIn (server_call pages requests) c es r → request_at c.specs (steps_of c es) r i ≡ Some q →
    is_lawful_write pages q.message ≡ true → IsSentBefore c.specs (steps_of c es) i r q
