-- The events of a storm are of its processes and stations; and what a history tells the processes of one more.
use Rattle.std.proofs.Common.{◌≡◌, ◌≢◌, ℕ, zero, suc, ◌+◌, ◌<◌, ◌==◌, ◌&&◌, Bool, true, false, cond, List, [], ◌∷◌, Option, Some, None, refl, sym, ap, ◌∙◌, arith}
use Rattle.std.proofs.lemmas.Bool.{cond-true, cond-false, eqb-true}
use Rattle.vk_types.specs.Types.{Call, EventAnswer, Pid}
use Rattle.vk_base.specs.Pids.{same_pid}
use Rattle.vk_base.specs.Settings.{Settings, has_process}
use Rattle.vk_base.proofs.PidLemmas.{same_pid_self}
use Rattle.vk_cluster.specs.declared.report.ClusterAnswer.TheVariants as answers
use Rattle.vk_cluster.specs.Standing.{step_report}
use Rattle.vk_schedule.specs.declared.event.Event.{Event}
use Rattle.vk_schedule.specs.declared.event.Event.TheVariants as events
use Rattle.vk_schedule.specs.Lawful.{has_actors}
use Rattle.vk_event.specs.declared.task.Task.{Task}
use Rattle.vk_frame.specs.declared.header.Header.{Header}
use Rattle.vk_rules.specs.Entries.{Called, Collected}
use Rattle.vk_rules.specs.Frames.{Frame}
use Rattle.vk_rules.specs.Histories.{Happened, Logs, delivered, handed_over}
unfoldable use Rattle.vk_rules.specs.Histories.{happened}
unfoldable use Rattle.vk_rules.specs.Right.{right_entry}
use Rattle.vk_rules.specs.Right.{entry_of}
use Rattle.vk_drive.specs.declared.actor.Actor.{Actor}
use Rattle.vk_drive.specs.Driving.{IsNextOf, IsOfStation, is_delivery, is_of_no_process}
use Rattle.vk_drive.specs.Storms.{call_event, delivery_of, process_event}
use Rattle.vk_drive.specs.Tasks.{specs, task_at}
use Rattle.vk_drive.specs.Told.{answered_in, answered_to, is_waiting}

-- Who acts is there.

pub tick_acts : (d : ℕ) → d < 4 → has_actors specs (events.Tick (1 + d)) ≡ true
tick_acts zero low = refl
tick_acts (suc zero) low = refl
tick_acts (suc (suc zero)) low = refl
tick_acts (suc (suc (suc zero))) low = refl
tick_acts (suc (suc (suc (suc d)))) low = absurd (omega arith)

pub process_there : (place : ℕ) → place < 4 → has_process specs (task_at place).pid ≡ true
process_there zero low = refl
process_there (suc zero) low = refl
process_there (suc (suc zero)) low = refl
process_there (suc (suc (suc zero))) low = refl
process_there (suc (suc (suc (suc place)))) low = absurd (omega arith)

own_acts : (pid : Pid) (b : Bool) (o : Option Call) → has_process specs pid ≡ true →
    has_actors specs (cond b (events.Collect pid) (call_event pid o)) ≡ true
own_acts pid true o there = there
own_acts pid false None there = there
own_acts pid false (Some call) there = there

pub process_acts : (place : ℕ) (heard : List EventAnswer) → place < 4 → has_actors specs (process_event (task_at place) heard) ≡ true
process_acts place heard low = own_acts (task_at place).pid (is_waiting heard) _ (process_there place low)

-- what comes next has who acts
pub next_acts : (place : Option ℕ) (actors : List Actor) (hs : List Happened) (e : Event) → IsNextOf place actors hs e →
    has_actors specs e ≡ true
next_acts (Some place) actors hs e next =
    ap (has_actors specs) next.1.event ∙ process_acts place (answered_to (task_at place).pid hs) next.0
next_acts None actors hs e next = next.1.acts

-- the event of a process is no delivery
none_comes : (pid : Pid) (b : Bool) (o : Option Call) → is_delivery (cond b (events.Collect pid) (call_event pid o)) ≡ false
none_comes pid true o = refl
none_comes pid false None = refl
none_comes pid false (Some call) = refl

pub process_comes : (t : Task) (heard : List EventAnswer) (e : Event) → e ≡ process_event t heard → is_delivery e ≡ false
process_comes t heard e is = ap is_delivery is ∙ none_comes t.pid (is_waiting heard) _

-- a tick, or a delivery, is of a station
pub ticks_at : (d : ℕ) → d < 4 → IsOfStation (events.Tick (1 + d))
ticks_at d low = record { acts = tick_acts d low; quiet = refl }

pub comes_to : (h : Header) → IsOfStation (delivery_of h)
comes_to h = either (has_actors specs delivery) refl
  where
    delivery : Event
    delivery = events.Deliver h.destination h.source h.event h.output

    either : (b : Bool) → has_actors specs delivery ≡ b → IsOfStation (cond b delivery (events.Tick 1))
    either true is = record { acts = is; quiet = refl }
    either false is = ticks_at 0 (omega arith)

-- What is told the processes of an event.

pub quiet_tells : (c : Settings) (logs : Logs) (e : Event) (pid : Pid) → is_of_no_process e ≡ true →
    answered_in pid (happened c logs e) ≡ []
unfolding happened right_entry
quiet_tells c logs (events.Call p call) pid is = cc
quiet_tells c logs (events.Collect p) pid is = cc
quiet_tells c logs (events.Tick host) pid is = refl
quiet_tells c logs (events.Deliver to from event output) pid is = delivered_tells (handed_over logs to from event output)
  where
    delivered_tells : (o : Option Frame) → answered_in pid (delivered c logs to o) ≡ []
    delivered_tells None = refl
    delivered_tells (Some f) = refl

-- the event of a process tells it one answer, and the others nothing
pub record HearsOneAnswer (c : Settings) (logs : Logs) (pid : Pid) (e : Event) : Type 0 where
  pub answer : EventAnswer
  pub reported : (step_report (happened c logs e)).answer ≡ answers.Event answer
  pub own : answered_in pid (happened c logs e) ≡ answer ∷ []
  pub others : (q : Pid) → same_pid pid q ≡ false → answered_in q (happened c logs e) ≡ []

heard_call : (c : Settings) (logs : Logs) (pid : Pid) (call : Call) → HearsOneAnswer c logs pid (events.Call pid call)
unfolding happened right_entry
heard_call c logs pid call =
    let a : EventAnswer = (entry_of c pid.host (logs pid.host) (Called pid call)).answer in
    record {
      answer = a;
      reported = refl;
      own = cond-true (same_pid pid pid) (a ∷ []) [] (same_pid_self pid);
      others = λ q apart. cond-false (same_pid pid q) (a ∷ []) [] apart;
    }

heard_collect : (c : Settings) (logs : Logs) (pid : Pid) → HearsOneAnswer c logs pid (events.Collect pid)
unfolding happened right_entry
heard_collect c logs pid =
    let a : EventAnswer = (entry_of c pid.host (logs pid.host) (Collected pid)).answer in
    record {
      answer = a;
      reported = refl;
      own = cond-true (same_pid pid pid) (a ∷ []) [] (same_pid_self pid);
      others = λ q apart. cond-false (same_pid pid q) (a ∷ []) [] apart;
    }

heard_either : (c : Settings) (logs : Logs) (pid : Pid) (b : Bool) (o : Option Call) →
    HearsOneAnswer c logs pid (cond b (events.Collect pid) (call_event pid o))
heard_either c logs pid true o = heard_collect c logs pid
heard_either c logs pid false None = heard_collect c logs pid
heard_either c logs pid false (Some call) = heard_call c logs pid call

pub process_hears : (c : Settings) (logs : Logs) (place : ℕ) (heard : List EventAnswer) →
    HearsOneAnswer c logs (task_at place).pid (process_event (task_at place) heard)
process_hears c logs place heard = heard_either c logs (task_at place).pid (is_waiting heard) _

-- the processes are of different hosts
pub host_is : (place : ℕ) → place < 4 → (task_at place).pid.host ≡ place + 1
host_is zero low = refl
host_is (suc zero) low = refl
host_is (suc (suc zero)) low = refl
host_is (suc (suc (suc zero))) low = refl
host_is (suc (suc (suc (suc place)))) low = absurd (omega arith)

apart_by : (a b : ℕ) (local : Bool) (same : Bool) → (a == b) ≡ same → a ≢ b → ((a == b) && local) ≡ false
apart_by a b local true is apart = absurd (apart (eqb-true a b is))
apart_by a b local false is apart = ap (λ (t : Bool). t && local) is

pub processes_differ : (place q : ℕ) → place < 4 → q < 4 → q ≢ place → same_pid (task_at place).pid (task_at q).pid ≡ false
processes_differ place q low low_q apart =
    let one = host_is place low in
    let other = host_is q low_q in
    apart_by (task_at place).pid.host (task_at q).pid.host _ _ refl
    (λ same. let equal : place + 1 ≡ q + 1 = sym one ∙ same ∙ other in apart (omega (arith, equal)))
