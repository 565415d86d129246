-- The laws of the one-machine kernel behind histories.
use Rattle.std.proofs.Common.{◌≡◌, ◌<◌, ℕ, false, not, List, Option, Some, None, IsSome, slice_get, sym, ap, ◌∙◌}
use Rattle.std.proofs.lemmas.Bool.{not-true}
use Rattle.std.proofs.lemmas.Option.{same_Some}
use Rattle.vk_types.specs.Types.{Exchange, Message, Name, Pid, Process, Refusal}
use Rattle.vk_base.specs.declared.answer.Ending.TheVariants as endings
use Rattle.vk_base.specs.declared.answer.Refusal.TheVariants as refusals
use Rattle.vk_base.specs.declared.step.Step.TheVariants as steps
use Rattle.vk_base.specs.Kernel.{◌>>=◌, Kernel, initial_kernel, name_of, is_live, sending}
use Rattle.vk_base.specs.Pids.{same_host}
use Rattle.vk_base.specs.Settings.{Settings}
use Rattle.vk_base.specs.Steps.{Run, run, failing, failure, only_if}
use Rattle.vk_base.proofs.OptionLemmas.{bind_is}
use Rattle.vk_schedule.specs.declared.event.Event.{Event}
use Rattle.vk_schedule.specs.declared.event.Event.TheVariants as events
use Rattle.v_laws.specs.Moves.{HasMoved}
use Rattle.v_laws.specs.Places.{HasOwnReply, IsForwardedBetween, taken_at}
use Rattle.v_laws.proofs.MoveLemmas.{moved_whole}
use Rattle.v_laws.proofs.OnceLemmas.{takes_one, taken_between}
use Rattle.v_laws.proofs.PlaceLemmas.{before_sound, step_at}
use Rattle.v_laws.proofs.ReplyLemmas.{own_reply}
use Rattle.v_laws.proofs.States.{sending_is}
use Rattle.v_laws.proofs.StepLemmas.{only_if_is}
use Rattle.v_whole.proofs.DelayLemmas.{fail_rightly}
use Rattle.vk_rules.specs.Entries.{Input, Called, Collected, Ticked, Delivered}
use Rattle.vk_rules.specs.Frames.{Frame, Framed}
use Rattle.vk_rules.specs.Histories.{logs_from, Logs, happens_at, delivered, handed_over, happened, no_entries}
use Rattle.vk_rules.specs.Readings.{reading}
use Rattle.vk_rules.specs.Right.{right_entry}
use Rattle.v_whole.specs.HistoryLaws.{FailsInTurn, HasDeadTarget, IsSchedule, steps_of}
use Rattle.v_whole.proofs.Histories.{schedules_run}

-- the run of the steps of a history
run_of : (c : Settings) (es : List Event) → IsSchedule c es → (whole : Run) × (run (initial_kernel c.specs) (steps_of c es) ≡ Some whole)
run_of c es schedule = let is = schedules_run c es schedule.distinct schedule.callers in (_, is.run)

pub takes_one_each : (c : Settings) (es : List Event) (i : ℕ) (pid : Pid) → IsSchedule c es →
    slice_get (steps_of c es) i ≡ Some (steps.Take pid) → IsSome (taken_at c.specs (steps_of c es) i)
takes_one_each c es i pid schedule at = let r = run_of c es schedule in takes_one c.specs (steps_of c es) r.0 i pid r.1 at

pub taken_one_time : (c : Settings) (es : List Event) (i j : ℕ) (n : Name) → taken_at c.specs (steps_of c es) i ≡ Some n →
    taken_at c.specs (steps_of c es) j ≡ Some n → i < j → IsForwardedBetween c.specs (steps_of c es) i j n
taken_one_time c es i j n first second = taken_between c.specs (steps_of c es) i j n first second

pub replies_own : (c : Settings) (es : List Event) (i : ℕ) (s : Pid) → IsSchedule c es →
    slice_get (steps_of c es) i ≡ Some (steps.Finish s) → HasOwnReply c.specs (steps_of c es) i s
replies_own c es i s schedule at = let r = run_of c es schedule in own_reply c.specs (steps_of c es) r.0 i s r.1 at

pub moves_whole : (c : Settings) (es : List Event) (i : ℕ) (r : Pid) → IsSchedule c es →
    slice_get (steps_of c es) i ≡ Some (steps.End r endings.Ok) → HasMoved c.specs (steps_of c es) i r
moves_whole c es i r schedule at = let x = run_of c es schedule in moved_whole c.specs (steps_of c es) x.0 i r x.1 at

-- What a Send finds that fails as without a process.
record IsWithout (k : Kernel) (s : Pid) : Type 0 where
  process : Process
  is : k.procs s ≡ Some process
  target : Pid
  message : Message
  sends : sending process.state ≡ Some (target, message)
  exchange : Exchange
  at : k.exchanges (name_of s process.sends) ≡ Some exchange
  dead : is_live (k.procs exchange.at) ≡ false

without_is : (k : Kernel) (s : Pid) (f : Process × Refusal) → failing k s endings.NoProcess ≡ Some f → IsWithout k s
unfolding failing
without_is k s f g =
    let p = bind_is (k.procs s) _ f g in
    let e = bind_is (sending p.0.state >>= λ send. k.exchanges (name_of s p.0.sends)) _ f p.2 in
    let m = bind_is (sending p.0.state) _ e.0 e.1 in
    let r = bind_is (only_if (not (same_host s e.0.target)) (failure k e.0 endings.NoProcess)) _ f e.2 in
    let far = only_if_is (not (same_host s e.0.target)) (failure k e.0 endings.NoProcess) r.0 r.1 in
    let gone = only_if_is (not (is_live (k.procs e.0.at))) (Some refusals.NoProcess) r.0 far.1 in
    record {
      process = p.0;
      is = p.1;
      target = m.0.0;
      message = m.0.1;
      sends = m.1;
      exchange = e.0;
      at = m.2;
      dead =
          not-true (is_live (k.procs e.0.at)) gone.0;
    }

pub dead_targets : (c : Settings) (es : List Event) (i : ℕ) (s : Pid) → IsSchedule c es →
    slice_get (steps_of c es) i ≡ Some (steps.Fail s endings.NoProcess) → HasDeadTarget c.specs (steps_of c es) i s
dead_targets c es i s schedule is =
    let r = run_of c es schedule in
    let a = step_at c.specs (steps_of c es) r.0 i (steps.Fail s endings.NoProcess) r.1 is in
    let f = bind_is (failing a.kernel s endings.NoProcess) _ a.did a.does in
    let w = without_is a.kernel s f.0 f.1 in
    let sent = (before_sound c.specs (steps_of c es) i a.kernel a.at).sent s w.process w.target w.message w.is w.sends in
    let target : w.exchange.target ≡ w.target = ap (λ (e : Exchange). e.target) (same_Some w.exchange sent.exchange (sym w.at ∙ sent.is))
    ∙ sent.target in
    record {
      kernel = a.kernel;
      at = a.at;
      process = w.process;
      is = w.is;
      target = w.target;
      message = w.message;
      waits = sending_is w.process.state w.target w.message w.sends;
      exchange = w.exchange;
      has = w.at;
      of = target;
      dead = w.dead;
    }

-- Sends that fail.
happens_rightly : (c : Settings) (logs : Logs) (host : ℕ) (i : Input) → FailsInTurn c logs (happens_at c logs host i)
unfolding right_entry
happens_rightly c logs host i = fail_rightly c host (reading c host (logs host)) i

delivered_rightly : (c : Settings) (logs : Logs) (to : ℕ) (o : Option Frame) → FailsInTurn c logs (delivered c logs to o)
delivered_rightly c logs to None = tt
delivered_rightly c logs to (Some f) = happens_rightly c logs to (Delivered (Framed f.header f.packet))

happened_rightly : (c : Settings) (logs : Logs) (event : Event) → FailsInTurn c logs (happened c logs event)
unfolding happened
happened_rightly c logs (events.Call pid call) = happens_rightly c logs pid.host (Called pid call)
happened_rightly c logs (events.Collect pid) = happens_rightly c logs pid.host (Collected pid)
happened_rightly c logs (events.Tick host) = happens_rightly c logs host Ticked
happened_rightly c logs (events.Deliver to from event output) = delivered_rightly c logs to (handed_over logs to from event output)

pub fail_in_turn : (c : Settings) (es : List Event) (event : Event) →
    FailsInTurn c (logs_from c no_entries es) (happened c (logs_from c no_entries es) event)
fail_in_turn c es event = happened_rightly c (logs_from c no_entries es) event
