-- The steps of a tick, one after another: each changes its own process alone.
use Rattle.std.proofs.Common.{◌≡◌, ℕ, Bool, true, false, cond, not, fold, refl, ap, sym, ◌∙◌, Option, Some}
use Rattle.std.specs.Option.{option_to_list}
use Rattle.vk_types.specs.Types.{Activity, Answer, Exchange, Message, MoveName, Pid, Process, Refusal, Scope, Times, Waiting}
use Rattle.vk_base.specs.declared.activity.Activity.TheVariants as activities
use Rattle.vk_base.specs.declared.activity.Waiting.TheVariants as waitings
use Rattle.vk_base.specs.declared.answer.Answer.TheVariants as answers
use Rattle.vk_base.specs.declared.answer.Ending.TheVariants as endings
use Rattle.vk_base.specs.declared.answer.Refusal.TheVariants as refusals
use Rattle.vk_base.specs.declared.step.Step.TheVariants as steps
use Rattle.vk_base.specs.Activities.{answer_of, call_of, done_with, state_of}
use Rattle.vk_base.specs.Calls.{unseen}
use Rattle.vk_base.specs.Kernel.{◌>>=◌, Kernel, ended, is_asking, is_moving, put_process, sending, name_of, with_state}
use Rattle.vk_base.specs.Pids.{same_host, same_pid}
use Rattle.vk_base.specs.Steps.{after_effect, asking, failure, move_ending, next, only_if}
unfoldable use Rattle.vk_base.specs.Steps.{ending, failing}
use Rattle.v_laws.proofs.Tables.{same_pid_is, put_process_at, put_process_other}
use Rattle.vk_procs.specs.declared.seat.Seat.{Seat}
use Rattle.vk_procs.specs.Seats.{process_of}
use Rattle.vk_rules.specs.CallOutcomes.{work_failure}
use Rattle.vk_stands.specs.Stands.{IsSending, IsWaiting}
use Rattle.vk_stands.specs.Tables.{is_work}
use Rattle.vk_stands.specs.Ticks.{Ticking, at_rest, ticking, ticking_by, ticking_in, unanswered}
use Rattle.vk_timer.specs.declared.work.Due.{Due}
use Rattle.vk_timer.specs.declared.work.Due.TheVariants as dues
use Rattle.vk_timer.specs.Works.{due_at}

-- the view with other processes
abbrev pub peopled : Kernel → (Pid → Option Process) → Kernel
peopled k procs = record k { procs = procs }

module _ (k : Kernel) (procs : Pid → Option Process) (s : Seat) (here : procs s.pid ≡ Some (process_of s)) where
  abbrev view : Kernel
  view = peopled k procs

  abbrev then_is : Answer → Kernel
  then_is a = with_state view s.pid (process_of s) (ended (state_of s.doing) a)

  fails : (target : Pid) (m : Message) → s.doing ≡ activities.Blocked (waitings.Send target m) → not (same_host s.pid target) ≡ true →
      IsSending k s target m → next view (steps.Fail s.pid endings.TimedOut) ≡ then_is (answers.Refused refusals.TimedOut)
  unfolding failing
  fails target m is far sent =
      let p : Process = process_of s in
      let why : Answer = answers.Refused refusals.TimedOut in
      let whole : failing view s.pid endings.TimedOut ≡ Some (p, refusals.TimedOut) =
      ap (λ (o : Option Process). o >>= λ p. (sending p.state >>= λ send. k.exchanges (name_of s.pid p.sends)) >>= λ e.
      only_if (not (same_host s.pid e.target)) (failure view e endings.TimedOut) >>= λ refusal. Some (p, refusal)) here
      ∙ ap (λ d. (sending (state_of d) >>= λ send. k.exchanges (name_of s.pid s.note.sends)) >>= λ e.
      only_if (not (same_host s.pid e.target)) (failure view e endings.TimedOut) >>= λ refusal. Some (p, refusal)) is
      ∙ ap (λ (o : Option Exchange). o >>= λ e. only_if (not (same_host s.pid e.target)) (failure view e endings.TimedOut) >>= λ refusal.
      Some (p, refusal)) sent.is
      ∙ ap (λ to. only_if (not (same_host s.pid to)) (Some refusals.TimedOut) >>= λ refusal. Some (p, refusal)) sent.target_is
      ∙ ap (λ b. only_if b (Some refusals.TimedOut) >>= λ refusal. Some (p, refusal)) far in
      ap (λ (o : Option (Process × Refusal)). after_effect view (o >>= λ f.
      Some (unseen (with_state view s.pid f.0 (ended f.0.state (answers.Refused f.1)))))) whole

  ends : (w : Waiting) → s.doing ≡ activities.Blocked w → is_moving (state_of (activities.Blocked w)) ≡ true →
      (name : MoveName) → s.note.moving ≡ Some name → next view (steps.End s.pid endings.TimedOut) ≡ then_is
      (answers.Refused refusals.TimedOut)
  unfolding ending
  ends w is moves name noted =
      let p : Process = process_of s in
      let whole : ending view s.pid endings.TimedOut ≡ Some (p, answers.Refused refusals.TimedOut) =
      ap (λ (o : Option Process). o >>= λ p. only_if
      (is_moving p.state) p.moving >>= λ m. move_ending view m endings.TimedOut >>= λ a. Some (p, a)) here
      ∙ ap (λ d. only_if (is_moving (state_of d)) s.note.moving >>= λ m. move_ending view m endings.TimedOut >>= λ a. Some (p, a)) is
      ∙ ap (λ b. only_if b s.note.moving >>= λ m. move_ending view m endings.TimedOut >>= λ a. Some (p, a)) moves
      ∙ ap (λ o. o >>= λ m. move_ending view m endings.TimedOut >>= λ a. Some (p, a)) noted in
      ap (λ (o : Option (Process × Answer)). after_effect view (o >>= λ e.
      Some (unseen (with_state view s.pid e.0 (ended e.0.state e.1))))) whole

  loses : (logical : ℕ) (scope : Scope) → s.doing ≡ activities.Blocked (waitings.GetPid logical scope) →
      next view (steps.Lost s.pid) ≡ then_is (answers.Refused refusals.NotFound)
  loses logical scope is =
      let p : Process = process_of s in
      let whole : asking view s.pid ≡ Some p =
      ap (λ (o : Option Process). o >>= λ p. only_if (is_asking p.state) (Some p)) here
      ∙ ap (λ d. only_if (is_asking (state_of d)) (Some p)) is in
      ap (λ (o : Option Process). after_effect view (o >>= λ p.
      Some (unseen (with_state view s.pid p (ended p.state (answers.Refused refusals.NotFound)))))) whole

  -- The step by which its work fails, and then it is done.
  fails_by : (w : Waiting) → s.doing ≡ activities.Blocked w → is_work s.pid w ≡ true → IsWaiting k s w →
      fold next view (option_to_list (work_failure s.pid (call_of w))) ≡ then_is (answer_of (unanswered w))
  fails_by (waitings.Send target m) is far waits =
      ap (λ b. fold next view (option_to_list (only_if b (Some (steps.Fail s.pid endings.TimedOut))))) far ∙ fails target m is far waits
  fails_by (waitings.MoveTo partner dest src count) is far waits = ends
      (waitings.MoveTo partner dest src count) is refl waits.name waits.noted
  fails_by (waitings.MoveFrom partner dest src count) is far waits = ends
      (waitings.MoveFrom partner dest src count) is refl waits.name waits.noted
  fails_by (waitings.GetPid logical scope) is far waits = loses logical scope is
  fails_by waitings.Receive is far waits = cc
  fails_by (waitings.ReceiveSegment start count) is far waits = cc

  -- a process put where it stands
  put_same : (p : Process) → procs s.pid ≡ Some p → put_process procs s.pid p ≡ procs
  put_same p is = λ i. λ q. by_pid q (same_pid q s.pid) refl i
    where
      by_pid : (q : Pid) (b : Bool) → same_pid q s.pid ≡ b → put_process procs s.pid p q ≡ procs q
      by_pid q true same = put_process_at procs s.pid p q same ∙ sym is ∙ ap procs (sym (same_pid_is q s.pid same))
      by_pid q false other = put_process_other procs s.pid p q other

  -- What the tick makes of it.
  abbrev Becomes : Ticking → Type 0
  Becomes x = fold next view x.steps ≡ peopled k (put_process procs s.pid (process_of x.seat))

  module _ (times : Times) (now : ℕ) where
    rests : Becomes (at_rest s)
    rests = ap (peopled k) (sym (put_same (process_of s) here))

    by_due : (w : Waiting) → s.doing ≡ activities.Blocked w → is_work s.pid w ≡ true → IsWaiting k s w → (d : Due) →
        Becomes (ticking_by times now s w d)
    by_due w is far waits dues.NotDue = rests
    by_due w is far waits dues.Resend = rests
    by_due w is far waits dues.GiveUp =
        fails_by w is far waits
        ∙ ap (λ st. with_state view s.pid (process_of s) st)
        (ap (λ d. ended (state_of d) (answer_of (unanswered w))) is
        ∙ sym (ap (λ d. state_of (done_with d (unanswered w))) is))

    by_work : (w : Waiting) (b : Bool) → is_work s.pid w ≡ b → s.doing ≡ activities.Blocked w → IsWaiting k s w →
        Becomes (cond b (ticking_by times now s w (due_at times now s.note.work)) (at_rest s))
    by_work w true far is waits = by_due w is far waits (due_at times now s.note.work)
    by_work w false near is waits = rests

    by_doing : (d : Activity) → s.doing ≡ d → ((w : Waiting) → s.doing ≡ activities.Blocked w → IsWaiting k s w) →
        Becomes (ticking_in times now s d)
    by_doing activities.Ready is waits = rests
    by_doing (activities.Done w o) is waits = rests
    by_doing (activities.Blocked w) is waits = by_work w (is_work s.pid w) refl is (waits w is)

    pub next_ticked : ((w : Waiting) → s.doing ≡ activities.Blocked w → IsWaiting k s w) → Becomes (ticking times now s)
    next_ticked waits = by_doing s.doing refl waits
