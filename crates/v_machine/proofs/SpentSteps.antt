-- Steps do the same, and see the same, without the bytes of spent moves.
use Rattle.std.proofs.Common.{◌≡◌, ℕ, ◌+◌, ◌-◌, ◌<◌, ◌==◌, not, ◌&&◌, nat_lt, List, [], ◌∷◌, ◌++◌, option_map, Option, Some, None, is_none, refl, ap, ◌∙◌, arith}
use Rattle.std.proofs.lemmas.Bool.{ltb-true}
use Rattle.vk_types.specs.Types.{Answer, Call, Direction, Ending, Exchange, Move, MoveName, Name, Pid, Process, Step}
use Rattle.vk_base.specs.declared.answer.Ending.TheVariants as endings
use Rattle.vk_base.specs.declared.answer.Answer.TheVariants as answers
use Rattle.vk_base.specs.declared.answer.Refusal.TheVariants as refusals
use Rattle.vk_base.specs.declared.kernel.Direction.TheVariants as directions
use Rattle.vk_base.specs.declared.kernel.Stage.TheVariants as stages
use Rattle.vk_base.specs.declared.kernel.State.TheVariants as states
use Rattle.vk_base.specs.declared.step.Step.TheVariants as steps
use Rattle.vk_base.specs.Calls.{unseen}
use Rattle.vk_base.specs.Kernel.{◌>>=◌, Kernel, name_of, holds_of, is_live, is_moving, receiving, sending, ended, waiting_on, is_posted, queue_of, move_of, same_name, put_process, put_exchange}
use Rattle.vk_base.specs.Pids.{same_host}
use Rattle.vk_base.specs.Ranges.{range_of, bytes_in, with_bytes}
use Rattle.vk_base.specs.Steps.{only_if, arriving, is_older, after_arrival, with_arrival, arrive_step, Taking, first_of, taking, received, with_part, taken, take_step, finishing, finish_step, failure, failing, fail_step, Opening, opening_move, noted_bytes, move_opened, open_step, written_process, Copying, is_next, copying, copied, copy_step, is_complete, move_ending, ending, end_step, hearing, hear_step, asking, finding, found_step, lost_step, collecting, collect_step, effect}
use Rattle.v_laws.proofs.MoveLists.{next_is}
use Rattle.v_laws.proofs.StepLemmas.{opening_is, IsCopying, copying_is}
use Rattle.v_machine.specs.Spent.{emptied, lean, emptied_kernel}
use Rattle.v_machine.proofs.Spent.{put_absorbed, all_absorbed, lean_move, later_same, unspent, open_unspent, opening_stays, copying_stays}
use Rattle.v_machine.proofs.SpentCalls.{call_same, state_same}
use Rattle.v_machine.proofs.SpentKernels.{Same, lean_effect, bind_same, bind_same_at, mapped_same, unseen_same, answered_same, bind_eq, mapped_eq, bind_map, mapped_map, only_if_map, holds_lean, queue_lean, waiting_lean, alike_twice, kernels_alike, others_alike, put_alike, cond_alike, lean_again, stage_again, map_alike}

-- Arrive.
arriving_lean : (k : Kernel) (name : Name) → arriving (emptied_kernel k) name ≡ option_map lean (arriving k name)
unfolding emptied_kernel arriving
arriving_lean k name = mapped_map lean lean (k.exchanges name) _ _ (λ e.
    only_if_map lean (is_posted e.stage && is_live (k.procs e.target)) (Some e))

arrived_same : (k : Kernel) (name : Name) (e : Exchange) →
    emptied_kernel (with_arrival (emptied_kernel k) name (lean e)) ≡ emptied_kernel (with_arrival k name e)
unfolding emptied_kernel with_arrival
arrived_same k name e = kernels_alike k.procs _ _ (k.arrived ++ name ∷ []) k.names k.lookups
    (map_alike k.exchanges (after_arrival name (lean e)) (after_arrival name e) (λ n x.
    cond_alike (same_name n name) _ _ _ _ (stage_again x stages.Queued)
    (cond_alike (is_older name e n x) _ _ _ _ (stage_again x stages.Dropped) (lean_again x))))

arrive_same : (k : Kernel) (name : Name) → Same (arrive_step (emptied_kernel k) name) (arrive_step k name)
arrive_same k name =
    ap (λ o. option_map lean_effect (o >>= λ e. Some (unseen (with_arrival (emptied_kernel k) name e)))) (arriving_lean k name)
    ∙ mapped_same lean (arriving k name) _ _ (λ e at. unseen_same _ _ (arrived_same k name e))

-- Take.
lean_taking : Taking → Taking
lean_taking t = record t { exchange = lean t.exchange }

taking_lean : (k : Kernel) (r : Pid) → taking (emptied_kernel k) r ≡ option_map lean_taking (taking k r)
unfolding emptied_kernel taking lean_taking
taking_lean k r =
    bind_map lean_taking (k.procs r) _ _ (λ p. bind_map lean_taking (receiving p.state) _ _ (λ c.
    ap (λ ns. first_of ns >>= λ name. option_map lean (k.exchanges name) >>= λ e.
    Some (record { process = p; call = c; name = name; exchange = e })) (queue_lean k r)
    ∙ bind_map lean_taking (first_of (queue_of k r)) _ _ (λ name. mapped_map lean_taking lean (k.exchanges name) _ _ (λ e. refl))))

received_lean : (c : Call) (sender : Pid) (e : Exchange) → received c sender (lean e) ≡ received c sender e
received_lean c sender e = grind arith

with_part_lean : (c : Call) (e : Exchange) (memory : List ℕ) → with_part c (lean e) memory ≡ with_part c e memory
with_part_lean c e memory = grind arith

taken_same : (k : Kernel) (r : Pid) (t : Taking) →
    emptied_kernel (taken (emptied_kernel k) r (lean_taking t)) ≡ emptied_kernel (taken k r t)
unfolding emptied_kernel taken lean_taking
taken_same k r t =
    let e = t.exchange in
    let given = received_lean t.call t.name.sender e in
    let part = with_part_lean t.call e t.process.memory in
    let exchanges : Name → Option Exchange =
    put_exchange (λ n. option_map lean (k.exchanges n)) t.name (record (lean e) { stage = stages.Taken }) in
    let after : List ℕ → Answer → Pid → Option Process =
    λ memory a. put_process k.procs r (record t.process { memory = memory; state = states.Done t.call a }) in
    (λ i. emptied_kernel (record k { procs = after (part i) (given i); exchanges = exchanges }))
    ∙ kernels_alike _ exchanges _ k.arrived k.names k.lookups
    (put_alike (λ n. option_map lean (k.exchanges n)) k.exchanges t.name (record (lean e) { stage = stages.Taken })
    (record e { stage = stages.Taken }) (alike_twice k) (stage_again e stages.Taken))

take_same : (k : Kernel) (r : Pid) → Same (take_step (emptied_kernel k) r) (take_step k r)
take_same k r =
    ap (λ o. option_map lean_effect (o >>= λ t. Some (unseen (taken (emptied_kernel k) r t)))) (taking_lean k r)
    ∙ mapped_same lean_taking (taking k r) _ _ (λ t at. unseen_same _ _ (taken_same k r t))

-- Finish and Fail.
finishing_lean : (k : Kernel) (s : Pid) → finishing (emptied_kernel k) s ≡ finishing k s
unfolding emptied_kernel finishing
finishing_lean k s = bind_eq (k.procs s) _ _ (λ p. bind_eq (sending p.state) _ _ (λ send.
    mapped_eq lean (k.exchanges (name_of s p.sends)) _ _ (λ e. refl)))

finish_same : (k : Kernel) (s : Pid) → Same (finish_step (emptied_kernel k) s) (finish_step k s)
unfolding emptied_kernel
finish_same k s = bind_same_at (finishing (emptied_kernel k) s) (finishing k s) _ _ (finishing_lean k s) (λ f at.
    unseen_same _ _ (others_alike k _ k.names k.lookups))

failure_lean : (k : Kernel) (e : Exchange) (why : Ending) → failure (emptied_kernel k) (lean e) why ≡ failure k e why
unfolding emptied_kernel
failure_lean k e endings.Ok = refl
failure_lean k e endings.Gone = refl
failure_lean k e endings.TimedOut = refl
failure_lean k e endings.NoProcess = refl

failing_lean : (k : Kernel) (s : Pid) (why : Ending) → failing (emptied_kernel k) s why ≡ failing k s why
unfolding emptied_kernel failing
failing_lean k s why = bind_eq (k.procs s) _ _ (λ p.
    ap (λ o. o >>= λ e. only_if (not (same_host s e.target)) (failure (emptied_kernel k) e why) >>= λ refusal. Some (p, refusal))
    (bind_map lean (sending p.state) _ (λ send. k.exchanges (name_of s p.sends)) (λ send. refl))
    ∙ mapped_eq lean (sending p.state >>= λ send. k.exchanges (name_of s p.sends)) _ _ (λ e.
    ap (λ o. only_if (not (same_host s e.target)) o >>= λ refusal. Some (p, refusal)) (failure_lean k e why)))

fail_same : (k : Kernel) (s : Pid) (why : Ending) → Same (fail_step (emptied_kernel k) s why) (fail_step k s why)
fail_same k s why = bind_same_at (failing (emptied_kernel k) s why) (failing k s why) _ _ (failing_lean k s why) (λ f at.
    unseen_same _ _ (state_same k s f.0 (ended f.0.state (answers.Refused f.1))))

-- OpenMove.
lean_opening : Opening → Opening
lean_opening o = record o { exchange = lean o.exchange }

opening_lean : (k : Kernel) (name : Name) (number : ℕ) →
    opening_move (emptied_kernel k) name number ≡ option_map lean_opening (opening_move k name number)
unfolding emptied_kernel opening_move lean_opening waiting_on
opening_lean k name number =
    bind_map lean_opening (waiting_on k name) _ _ (λ p. mapped_map lean_opening lean (k.exchanges name) _ _ (λ e.
    ap (λ o. o >>= λ m. Some (record { sender = p; exchange = lean e; move = m })) (later_same e number)
    ∙ bind_map lean_opening (only_if (nat_lt e.opened number) (move_of e number)) _ _ (λ m. refl)))

opened_same : (k : Kernel) (name : Name) (number : ℕ) (o : Opening) → o.exchange.opened < number →
    emptied_kernel (move_opened (emptied_kernel k) name number (lean_opening o)) ≡ emptied_kernel (move_opened k name number o)
unfolding emptied_kernel move_opened lean_opening
opened_same k name number o later =
    let e = o.exchange in
    let m : Move = record o.move { bytes = noted_bytes o.move.direction o.sender o.move } in
    kernels_alike k.procs _ _ k.arrived k.names k.lookups
    (put_alike (λ n. option_map lean (k.exchanges n)) k.exchanges name _ _ (alike_twice k)
    (ap (λ (ms : List Move). record e { moves = ms; opened = number; done = 0 })
    (put_absorbed e.opened e.done number 0 1 e.moves (number - 1) m (opening_stays e.opened e.done number e.moves later))))

open_same : (k : Kernel) (name : Name) (number : ℕ) → Same (open_step (emptied_kernel k) name number) (open_step k name number)
open_same k name number =
    ap (λ o. option_map lean_effect (o >>= λ x. Some (unseen (move_opened (emptied_kernel k) name number x)))) (opening_lean k name number)
    ∙ mapped_same lean_opening (opening_move k name number) _ _ (λ o at.
    unseen_same _ _ (opened_same k name number o (ltb-true o.exchange.opened number (opening_is k name number o at).later)))

-- Copy.
lean_copying : ℕ → Copying → Copying
lean_copying number c =
    record c { exchange = lean c.exchange; move = emptied c.exchange.opened c.exchange.done number c.move }

written_lean : (k : Kernel) (name : Name) (number : ℕ) (mover : Pid) (d : Direction) →
    written_process (emptied_kernel k) name number mover d ≡ written_process k name number mover d
unfolding emptied_kernel waiting_on
written_lean k name number mover directions.To = refl
written_lean k name number mover directions.From = refl

copying_lean : (k : Kernel) (name : Name) (number offset count : ℕ) →
    copying (emptied_kernel k) name number offset count ≡ option_map (lean_copying number) (copying k name number offset count)
unfolding emptied_kernel copying lean_copying
copying_lean k name number offset count =
    mapped_map (lean_copying number) lean (k.exchanges name) _ _ (λ e.
    ap (λ o. o >>= λ m. only_if (is_next (lean e) number m offset count) (written_process (emptied_kernel k) name number m.mover m.direction)
    >>= λ w. Some (record { exchange = lean e; move = m; pid = w.0; process = w.1 })) (lean_move e number)
    ∙ mapped_map (lean_copying number) (emptied e.opened e.done number) (move_of e number) _ _ (λ m.
    ap (λ o. only_if (is_next e number m offset count) o >>= λ w.
    Some (record { exchange = lean e; move = emptied e.opened e.done number m; pid = w.0; process = w.1 }))
    (written_lean k name number m.mover m.direction)
    ∙ bind_map (lean_copying number) (only_if (is_next e number m offset count) (written_process k name number m.mover m.direction)) _ _
    (λ w. refl)))

copied_same : (k : Kernel) (name : Name) (number offset count : ℕ) (c : Copying) → IsCopying k name number offset count c →
    emptied_kernel (copied (emptied_kernel k) name offset count (lean_copying number c)) ≡ emptied_kernel (copied k name offset count c)
unfolding emptied_kernel copied lean_copying
copied_same k name number offset count c is =
    let e = c.exchange in
    let next = next_is e number c.move offset count is.next in
    let left : e.done < c.move.count = omega arith in
    let bytes : List ℕ → Pid → Option Process =
    λ b. put_process k.procs c.pid
    (record c.process { memory = with_bytes c.process.memory (c.move.dest + offset) (bytes_in (range_of offset count) b) }) in
    let exchanges : Name → Option Exchange =
    put_exchange (λ n. option_map lean (k.exchanges n)) name (record (lean e) { done = e.done + count }) in
    ap (λ (m : Move). emptied_kernel (record k { procs = bytes m.bytes; exchanges = exchanges }))
    (unspent e.opened e.done number c.move (open_unspent e.opened e.done number c.move next.opened left))
    ∙ kernels_alike (bytes c.move.bytes) exchanges _ k.arrived k.names k.lookups
    (put_alike (λ n. option_map lean (k.exchanges n)) k.exchanges name (record (lean e) { done = e.done + count })
    (record e { done = e.done + count }) (alike_twice k)
    (ap (λ (ms : List Move). record e { moves = ms; done = e.done + count })
    (all_absorbed e.opened e.done e.opened (e.done + count) 1 e.moves
    (copying_stays e number (e.done + count) c.move is.move next.opened left))))

copy_same : (k : Kernel) (name : Name) (number offset count : ℕ) →
    Same (copy_step (emptied_kernel k) name number offset count) (copy_step k name number offset count)
copy_same k name number offset count =
    ap (λ o. option_map lean_effect (o >>= λ c. Some (unseen (copied (emptied_kernel k) name offset count c))))
    (copying_lean k name number offset count)
    ∙ mapped_same (lean_copying number) (copying k name number offset count) _ _ (λ c at.
    unseen_same _ _ (copied_same k name number offset count c (copying_is k name number offset count c at)))

-- End.
complete_lean : (e : Exchange) (number : ℕ) → is_complete (lean e) number ≡ is_complete e number
complete_lean e number =
    ap (λ b. e.opened == number && b)
    (ap (holds_of (λ (m : Move). e.done == m.count)) (lean_move e number) ∙ by_option (move_of e number))
  where
    by_option : (o : Option Move) →
        holds_of (λ (m : Move). e.done == m.count) (option_map (emptied e.opened e.done number) o)
        ≡ holds_of (λ (m : Move). e.done == m.count) o
    by_option None = refl
    by_option (Some m) = refl

move_ending_lean : (k : Kernel) (m : MoveName) (why : Ending) → move_ending (emptied_kernel k) m why ≡ move_ending k m why
unfolding emptied_kernel
move_ending_lean k m endings.Ok = ap (λ b. only_if b (Some answers.Ok))
    (holds_lean (λ e. is_complete e m.number) (λ e. complete_lean e m.number) (k.exchanges m.exchange))
move_ending_lean k m endings.Gone =
    ap (λ o. only_if (is_none o) (Some (answers.Refused refusals.Gone))) (waiting_lean k m.exchange)
move_ending_lean k m endings.TimedOut = refl
move_ending_lean k m endings.NoProcess = refl

ending_lean : (k : Kernel) (r : Pid) (why : Ending) → ending (emptied_kernel k) r why ≡ ending k r why
unfolding emptied_kernel ending
ending_lean k r why = bind_eq (k.procs r) _ _ (λ p. bind_eq (only_if (is_moving p.state) p.moving) _ _ (λ m.
    ap (λ o. o >>= λ a. Some (p, a)) (move_ending_lean k m why)))

end_same : (k : Kernel) (r : Pid) (why : Ending) → Same (end_step (emptied_kernel k) r why) (end_step k r why)
end_same k r why = bind_same_at (ending (emptied_kernel k) r why) (ending k r why) _ _ (ending_lean k r why) (λ e at.
    unseen_same _ _ (state_same k r e.0 (ended e.0.state e.1)))

-- Lookups, and Collect.
hear_same : (k : Kernel) (asker : Pid) (number : ℕ) (pid : Pid) → Same (hear_step (emptied_kernel k) asker number pid) (hear_step k asker number pid)
unfolding emptied_kernel hearing
hear_same k asker number pid = bind_same (hearing k asker number pid) _ _ (λ l at.
    unseen_same _ _ (others_alike k k.procs k.names _))

found_same : (k : Kernel) (asker pid : Pid) → Same (found_step (emptied_kernel k) asker pid) (found_step k asker pid)
unfolding emptied_kernel finding
found_same k asker pid = bind_same (finding k asker pid) _ _ (λ p at.
    unseen_same _ _ (state_same k asker p (ended p.state (answers.Found pid))))

lost_same : (k : Kernel) (asker : Pid) → Same (lost_step (emptied_kernel k) asker) (lost_step k asker)
unfolding emptied_kernel
lost_same k asker = bind_same (asking k asker) _ _ (λ p at.
    unseen_same _ _ (state_same k asker p (ended p.state (answers.Refused refusals.NotFound))))

collect_same : (k : Kernel) (pid : Pid) → Same (collect_step (emptied_kernel k) pid) (collect_step k pid)
unfolding emptied_kernel collecting
collect_same k pid = bind_same (collecting k pid) _ _ (λ d at.
    answered_same _ _ pid d.call d.answer (state_same k pid d.process states.Ready))

-- All of them.
pub step_same : (k : Kernel) (s : Step) → Same (effect (emptied_kernel k) s) (effect k s)
step_same k (steps.Call pid c) = call_same k pid c
step_same k (steps.Arrive sender number) = arrive_same k (name_of sender number)
step_same k (steps.Take r) = take_same k r
step_same k (steps.Finish s) = finish_same k s
step_same k (steps.Fail s why) = fail_same k s why
step_same k (steps.OpenMove sender number moving) = open_same k (name_of sender number) moving
step_same k (steps.Copy sender number moving offset count) = copy_same k (name_of sender number) moving offset count
step_same k (steps.End r why) = end_same k r why
step_same k (steps.Hear asker number pid) = hear_same k asker number pid
step_same k (steps.Found asker pid) = found_same k asker pid
step_same k (steps.Lost asker) = lost_same k asker
step_same k (steps.Collect pid) = collect_same k pid
