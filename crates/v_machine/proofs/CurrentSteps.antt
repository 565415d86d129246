-- Steps do the same, and see the same, without the exchanges that are over.
use Rattle.std.proofs.Common.{◌≡◌, ℕ, ◌+◌, ◌==◌, ◌&&◌, not, nat_lt, Bool, true, false, cond, List, [], ◌∷◌, ◌++◌, Option, Some, None, is_none, refl, sym, ap, ◌∙◌, inl, inr, arith}
use Rattle.std.proofs.lemmas.Bool.{cases_Bool, cond-false, and_left, and_parts, and_right, both_ways, eqb-true}
use Rattle.std.proofs.lemmas.Option.{same_Some}
use Rattle.vk_types.specs.Types.{Direction, Ending, Exchange, Move, MoveName, Name, Pid, Step}
use Rattle.vk_base.specs.declared.answer.Answer.TheVariants as answers
use Rattle.vk_base.specs.declared.answer.Ending.TheVariants as endings
use Rattle.vk_base.specs.declared.answer.Refusal.TheVariants as refusals
use Rattle.vk_base.specs.declared.call.Call.TheVariants as calls
use Rattle.vk_base.specs.declared.kernel.Direction.TheVariants as directions
use Rattle.vk_base.specs.declared.kernel.Stage.TheVariants as stages
use Rattle.vk_base.specs.declared.kernel.State.TheVariants as states
use Rattle.vk_base.specs.declared.step.Step.TheVariants as steps
use Rattle.vk_base.specs.Kernel.{◌>>=◌, Kernel, name_of, holds_of, is_live, is_moving, receiving, sending, ended, waiting_on, is_posted, queue_of, move_of, same_name, reply_of}
use Rattle.vk_base.specs.Pids.{same_host}
use Rattle.vk_base.specs.Ranges.{range_of, bytes_in, with_bytes}
use Rattle.vk_base.specs.Steps.{only_if, arriving, is_older, after_arrival, with_arrival, arrive_step, Taking, first_of, taking, received, with_part, taken, take_step, finishing, finish_step, failure, failing, fail_step, Opening, opening_move, move_opened, open_step, written_process, Copying, is_next, copying, copied, copy_step, is_complete, move_ending, ending, end_step, hearing, hear_step, asking, finding, found_step, lost_step, collecting, collect_step, effect}
use Rattle.v_laws.specs.Sound.{is_settled}
use Rattle.v_laws.proofs.MoveLists.{no_move}
use Rattle.v_laws.proofs.StepLemmas.{IsArriving, arriving_is, taking_is, finishing_is, failing_is, waiting_is, copying_is, ending_is, asking_is, finding_is, collecting_is}
use Rattle.v_laws.proofs.Tables.{same_name_is}
use Rattle.v_machine.specs.Spent.{has_ended, has_none, current_kernel}
use Rattle.v_machine.proofs.Current.{all_now, as_many, fails, holds_there, kernels_now, last_there, lost, others_now, posted_open, queue_now, queued_open, still_there}
use Rattle.v_machine.proofs.CurrentCalls.{SameNow, both_now, call_now, process_now, stage_now, state_now}
use Rattle.v_machine.proofs.Effects.{bind_by, bind_by_at, unseen_by, answered_by}
use Rattle.v_machine.proofs.SpentKernels.{bind_eq}
use Rattle.v_machine.proofs.Taking.{first_is_queued}

bind_eq_at : {A B : Type 0} (o : Option A) (f g : A → Option B) → ((a : A) → o ≡ Some a → f a ≡ g a) → (o >>= f) ≡ (o >>= g)
bind_eq_at None f g each = refl
bind_eq_at (Some a) f g each = each a refl

-- an exchange that has ended has no move
pub no_moves : (ms : List Move) → has_none ms ≡ true → ms ≡ []
no_moves [] t = refl
no_moves (m ∷ ms) t = absurd (both_ways false refl t)

pub ended_move : (e : Exchange) (number : ℕ) → has_ended e ≡ true → move_of e number ≡ None
ended_move e number over = no_move e number (no_moves e.moves (and_parts (is_settled e.stage) (has_none e.moves) over).1)

-- Arrive.
arriving_now : (k : Kernel) (name : Name) → arriving (current_kernel k) name ≡ arriving k name
unfolding current_kernel arriving
arriving_now k name = lost (k.procs name.sender) name.number (k.exchanges name) _ (λ e over.
    cond-false (is_posted e.stage && is_live (k.procs e.target)) (Some e) None
    (and_left (is_posted e.stage) (is_live (k.procs e.target)) (fails (is_posted e.stage) e (posted_open e) over)))

ended_arrival : (k : Kernel) (name : Name) (e : Exchange) → IsArriving k name e → (n : Name) (x : Exchange) → k.exchanges n ≡ Some x →
    has_ended x ≡ true → has_ended (after_arrival name e n x) ≡ true
ended_arrival k name e is n x at over = elim (cases_Bool (same_name n name)) [
  | inl t ↦
      let same : x ≡ e = same_Some x e (sym at ∙ ap k.exchanges (same_name_is n name t) ∙ is.is) in
      absurd (both_ways (has_ended x) (ap has_ended same ∙ posted_open e is.posted) over)
  | inr f ↦ ap has_ended (cond-false (same_name n name) (record x { stage = stages.Queued })
      (cond (is_older name e n x) (record x { stage = stages.Dropped }) x) f) ∙ older (is_older name e n x)
]
  where
    older : (b : Bool) → has_ended (cond b (record x { stage = stages.Dropped }) x) ≡ true
    older true = (and_parts (is_settled x.stage) (has_none x.moves) over).1
    older false = over

arrived_now : (k : Kernel) (name : Name) (e : Exchange) → IsArriving k name e →
    current_kernel (with_arrival (current_kernel k) name e) ≡ current_kernel (with_arrival k name e)
unfolding current_kernel with_arrival
arrived_now k name e is = kernels_now k.procs _ _ (k.arrived ++ name ∷ []) k.names k.lookups
    (all_now k k.procs (after_arrival name e) (as_many k.procs) (ended_arrival k name e is))

arrive_now : (k : Kernel) (name : Name) → SameNow (arrive_step (current_kernel k) name) (arrive_step k name)
arrive_now k name = bind_by_at current_kernel (arriving (current_kernel k) name) (arriving k name) _ _ (arriving_now k name) (λ e at.
    unseen_by current_kernel _ _ (arrived_now k name e (arriving_is k name e at)))

-- Take.
first_there : (k : Kernel) (r : Pid) (name : Name) → first_of (queue_of k r) ≡ Some name →
    (current_kernel k).exchanges name ≡ k.exchanges name
unfolding current_kernel
first_there k r name is =
    let e = first_is_queued k r name is in
    still_there (k.procs name.sender) name.number (k.exchanges name) e.0 e.1 (queued_open e.0 e.2)

taking_now : (k : Kernel) (r : Pid) → taking (current_kernel k) r ≡ taking k r
unfolding current_kernel taking
taking_now k r =
    bind_eq (k.procs r) _ _ (λ p. bind_eq (receiving p.state) _ _ (λ c.
    ap (λ ns. first_of ns >>= λ name. (current_kernel k).exchanges name >>= λ e.
    Some (record { process = p; call = c; name = name; exchange = e })) (queue_now k r)
    ∙ bind_eq_at (first_of (queue_of k r)) _ _ (λ name is.
    ap (λ o. o >>= λ e. Some (record { process = p; call = c; name = name; exchange = e })) (first_there k r name is))))

taken_now : (k : Kernel) (r : Pid) (t : Taking) → k.procs r ≡ Some t.process →
    current_kernel (taken (current_kernel k) r t) ≡ current_kernel (taken k r t)
unfolding current_kernel taken
taken_now k r t at = both_now k r t.process
    (record t.process {
      memory = with_part t.call t.exchange t.process.memory;
      state = states.Done t.call (received t.call t.name.sender t.exchange);
    })
    t.name (record t.exchange { stage = stages.Taken }) k.arrived at (omega arith)

take_now : (k : Kernel) (r : Pid) → SameNow (take_step (current_kernel k) r) (take_step k r)
take_now k r = bind_by_at current_kernel (taking (current_kernel k) r) (taking k r) _ _ (taking_now k r) (λ t at.
    unseen_by current_kernel _ _ (taken_now k r t (taking_is k r t at).process))

-- Finish and Fail ask for the last Send of a process.
finishing_now : (k : Kernel) (s : Pid) → finishing (current_kernel k) s ≡ finishing k s
unfolding current_kernel finishing
finishing_now k s = bind_eq_at (k.procs s) _ _ (λ p at. bind_eq (sending p.state) _ _ (λ send.
    ap (λ o. o >>= λ e. reply_of e.stage >>= λ reply.
    Some (record { process = p; target = send.0; message = send.1; reply = reply.0; dest = reply.1; bytes = reply.2 }))
    (last_there (k.procs s) p.sends (k.exchanges (name_of s p.sends)) p at refl)))

finish_now : (k : Kernel) (s : Pid) → SameNow (finish_step (current_kernel k) s) (finish_step k s)
finish_now k s = bind_by_at current_kernel (finishing (current_kernel k) s) (finishing k s) _ _ (finishing_now k s) (λ f at.
    unseen_by current_kernel _ _ (process_now k s f.process (record f.process {
      memory = with_bytes f.process.memory f.dest f.bytes;
      state = states.Done (calls.Send f.target f.message) (answers.Replied f.reply);
    }) (finishing_is k s f at).process (omega arith)))

failure_now : (k : Kernel) (e : Exchange) (why : Ending) → failure (current_kernel k) e why ≡ failure k e why
unfolding current_kernel
failure_now k e endings.Ok = refl
failure_now k e endings.Gone = refl
failure_now k e endings.TimedOut = refl
failure_now k e endings.NoProcess = refl

failing_now : (k : Kernel) (s : Pid) (why : Ending) → failing (current_kernel k) s why ≡ failing k s why
unfolding current_kernel failing
failing_now k s why = bind_eq_at (k.procs s) _ _ (λ p at.
    ap (λ o. o >>= λ e. only_if (not (same_host s e.target)) (failure (current_kernel k) e why) >>= λ refusal. Some (p, refusal))
    (bind_eq (sending p.state) _ (λ send. k.exchanges (name_of s p.sends)) (λ send.
    last_there (k.procs s) p.sends (k.exchanges (name_of s p.sends)) p at refl))
    ∙ bind_eq (sending p.state >>= λ send. k.exchanges (name_of s p.sends)) _ _ (λ e.
    ap (λ o. only_if (not (same_host s e.target)) o >>= λ refusal. Some (p, refusal)) (failure_now k e why)))

fail_now : (k : Kernel) (s : Pid) (why : Ending) → SameNow (fail_step (current_kernel k) s why) (fail_step k s why)
fail_now k s why = bind_by_at current_kernel (failing (current_kernel k) s why) (failing k s why) _ _ (failing_now k s why) (λ f at.
    unseen_by current_kernel _ _ (state_now k s f.0 (ended f.0.state (answers.Refused f.1)) (failing_is k s why f at).process))

-- OpenMove.
waiting_now : (k : Kernel) (name : Name) → waiting_on (current_kernel k) name ≡ waiting_on k name
unfolding current_kernel waiting_on
waiting_now k name = refl

opening_now : (k : Kernel) (name : Name) (number : ℕ) → opening_move (current_kernel k) name number ≡ opening_move k name number
unfolding current_kernel opening_move
opening_now k name number =
    ap (λ o. o >>= λ p. (current_kernel k).exchanges name >>= λ e. only_if (nat_lt e.opened number) (move_of e number) >>= λ m.
    Some (record { sender = p; exchange = e; move = m })) (waiting_now k name)
    ∙ bind_eq_at (waiting_on k name) _ _ (λ p waits.
    let is = waiting_is k name p waits in
    ap (λ o. o >>= λ e. only_if (nat_lt e.opened number) (move_of e number) >>= λ m. Some (record { sender = p; exchange = e; move = m }))
    (last_there (k.procs name.sender) name.number (k.exchanges name) p is.process (eqb-true p.sends name.number is.last)))

opened_now : (k : Kernel) (name : Name) (number : ℕ) (o : Opening) →
    current_kernel (move_opened (current_kernel k) name number o) ≡ current_kernel (move_opened k name number o)
unfolding current_kernel move_opened
opened_now k name number o = stage_now k name _ k.arrived

open_now : (k : Kernel) (name : Name) (number : ℕ) → SameNow (open_step (current_kernel k) name number) (open_step k name number)
open_now k name number = bind_by_at current_kernel (opening_move (current_kernel k) name number) (opening_move k name number) _ _
    (opening_now k name number) (λ o at. unseen_by current_kernel _ _ (opened_now k name number o))

-- Copy.
written_now : (k : Kernel) (name : Name) (number : ℕ) (mover : Pid) (d : Direction) →
    written_process (current_kernel k) name number mover d ≡ written_process k name number mover d
unfolding current_kernel waiting_on
written_now k name number mover directions.To = refl
written_now k name number mover directions.From = refl

copying_now : (k : Kernel) (name : Name) (number offset count : ℕ) →
    copying (current_kernel k) name number offset count ≡ copying k name number offset count
unfolding current_kernel copying
copying_now k name number offset count =
    lost (k.procs name.sender) name.number (k.exchanges name)
    (λ e. move_of e number >>= λ m.
    only_if (is_next e number m offset count) (written_process (current_kernel k) name number m.mover m.direction) >>= λ w.
    Some (record { exchange = e; move = m; pid = w.0; process = w.1 }))
    (λ e over. ap (λ o. o >>= λ m.
    only_if (is_next e number m offset count) (written_process (current_kernel k) name number m.mover m.direction) >>= λ w.
    Some (record { exchange = e; move = m; pid = w.0; process = w.1 })) (ended_move e number over))
    ∙ bind_eq (k.exchanges name) _ _ (λ e. bind_eq (move_of e number) _ _ (λ m.
    ap (λ o. only_if (is_next e number m offset count) o >>= λ w. Some (record { exchange = e; move = m; pid = w.0; process = w.1 }))
    (written_now k name number m.mover m.direction)))

copied_now : (k : Kernel) (name : Name) (offset count : ℕ) (c : Copying) → k.procs c.pid ≡ Some c.process →
    current_kernel (copied (current_kernel k) name offset count c) ≡ current_kernel (copied k name offset count c)
unfolding current_kernel copied
copied_now k name offset count c at = both_now k c.pid c.process
    (record c.process { memory = with_bytes c.process.memory (c.move.dest + offset) (bytes_in (range_of offset count) c.move.bytes) })
    name (record c.exchange { done = c.exchange.done + count }) k.arrived at (omega arith)

copy_now : (k : Kernel) (name : Name) (number offset count : ℕ) →
    SameNow (copy_step (current_kernel k) name number offset count) (copy_step k name number offset count)
copy_now k name number offset count =
    bind_by_at current_kernel (copying (current_kernel k) name number offset count) (copying k name number offset count) _ _
    (copying_now k name number offset count) (λ c at.
    unseen_by current_kernel _ _ (copied_now k name offset count c (copying_is k name number offset count c at).process))

-- End.
move_ending_now : (k : Kernel) (m : MoveName) (why : Ending) → move_ending (current_kernel k) m why ≡ move_ending k m why
unfolding current_kernel
move_ending_now k m endings.Ok = ap (λ b. only_if b (Some answers.Ok))
    (holds_there (k.procs m.exchange.sender) m.exchange.number (k.exchanges m.exchange) (λ e. is_complete e m.number) (λ e over.
    and_right (e.opened == m.number) (holds_of (λ (x : Move). e.done == x.count) (move_of e m.number))
    (ap (holds_of (λ (x : Move). e.done == x.count)) (ended_move e m.number over))))
move_ending_now k m endings.Gone =
    ap (λ o. only_if (is_none o) (Some (answers.Refused refusals.Gone))) (waiting_now k m.exchange)
move_ending_now k m endings.TimedOut = refl
move_ending_now k m endings.NoProcess = refl

ending_now : (k : Kernel) (r : Pid) (why : Ending) → ending (current_kernel k) r why ≡ ending k r why
unfolding current_kernel ending
ending_now k r why = bind_eq (k.procs r) _ _ (λ p. bind_eq (only_if (is_moving p.state) p.moving) _ _ (λ m.
    ap (λ o. o >>= λ a. Some (p, a)) (move_ending_now k m why)))

end_now : (k : Kernel) (r : Pid) (why : Ending) → SameNow (end_step (current_kernel k) r why) (end_step k r why)
end_now k r why = bind_by_at current_kernel (ending (current_kernel k) r why) (ending k r why) _ _ (ending_now k r why) (λ e at.
    unseen_by current_kernel _ _ (state_now k r e.0 (ended e.0.state e.1) (ending_is k r why e at).process))

-- Lookups, and Collect.
hear_now : (k : Kernel) (asker : Pid) (number : ℕ) (pid : Pid) →
    SameNow (hear_step (current_kernel k) asker number pid) (hear_step k asker number pid)
unfolding current_kernel hearing
hear_now k asker number pid = bind_by current_kernel (hearing k asker number pid) _ _ (λ l at.
    unseen_by current_kernel _ _ (others_now k k.procs k.names _ (as_many k.procs)))

found_now : (k : Kernel) (asker pid : Pid) → SameNow (found_step (current_kernel k) asker pid) (found_step k asker pid)
unfolding current_kernel finding
found_now k asker pid = bind_by current_kernel (finding k asker pid) _ _ (λ p at.
    unseen_by current_kernel _ _ (state_now k asker p (ended p.state (answers.Found pid)) (finding_is k asker pid p at).asks.process))

lost_now : (k : Kernel) (asker : Pid) → SameNow (lost_step (current_kernel k) asker) (lost_step k asker)
unfolding current_kernel
lost_now k asker = bind_by current_kernel (asking k asker) _ _ (λ p at.
    unseen_by current_kernel _ _ (state_now k asker p (ended p.state (answers.Refused refusals.NotFound)) (asking_is k asker p at).process))

collect_now : (k : Kernel) (pid : Pid) → SameNow (collect_step (current_kernel k) pid) (collect_step k pid)
unfolding current_kernel collecting
collect_now k pid = bind_by current_kernel (collecting k pid) _ _ (λ d at.
    answered_by current_kernel _ _ pid d.call d.answer (state_now k pid d.process states.Ready (collecting_is k pid d at).process))

-- All of them.
pub step_now : (k : Kernel) (s : Step) → SameNow (effect (current_kernel k) s) (effect k s)
step_now k (steps.Call pid c) = call_now k pid c
step_now k (steps.Arrive sender number) = arrive_now k (name_of sender number)
step_now k (steps.Take r) = take_now k r
step_now k (steps.Finish s) = finish_now k s
step_now k (steps.Fail s why) = fail_now k s why
step_now k (steps.OpenMove sender number moving) = open_now k (name_of sender number) moving
step_now k (steps.Copy sender number moving offset count) = copy_now k (name_of sender number) moving offset count
step_now k (steps.End r why) = end_now k r why
step_now k (steps.Hear asker number pid) = hear_now k asker number pid
step_now k (steps.Found asker pid) = found_now k asker pid
step_now k (steps.Lost asker) = lost_now k asker
step_now k (steps.Collect pid) = collect_now k pid
